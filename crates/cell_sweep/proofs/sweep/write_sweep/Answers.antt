-- Where the sweep breaks off, what it wrote until then stays written
use Rattle.std.proofs.Common.{◌∙◌, ap, refl, slice_index}
use Rattle.cell_types.specs.Same.{axis_number}
use Rattle.cell_sweep.specs.Rows.{is_csv}
use Rattle.cell_sweep.specs.Sweeps.{wanted_by}
use Rattle.cell_sweep.proofs.Steps.{cases-grow, grew, grew-part, grows-twice, part-is, swept}
use Rattle.cell_sweep.proofs.sweep.write_sweep.Goals as goal

pub returns-clause-told : goal.returns-clause-told
returns-clause-told g c =
    swept _ _ (wanted_by c.args.task.now.sweep) (λ a. slice_index c.in_ok-counts.counts (axis_number a)) _ _ _ _ _
    c.in_ok-counts.ensures.counts
    (part-is _ _ _ _ _ c.args.task.now.sweep.part c.in-Some-count.all _ _ c.in-Some.ensures.kinds
    c.in-Some.ensures.counts
    c.in-Some-count.ensures c.span_of-span.ensures.begin c.span_of-span.ensures.end)
    (_, c.in_ok-write_bytes.ensures.whole, λ csv. c.as_bytes.ensures.value ∙ c.head_of-head.ensures csv)
    c.in_ok-write_runs.ensures.told (
      _,
      c.in_ok-write_bytes-2.ensures.whole,
      λ csv. c.as_slice.ensures.value
          ∙ c.in_ok-text.ensures (ap is_csv c.layout_of.ensures.form ∙ csv),
    )

pub returns-in_err-write_runs-clause-part : goal.returns-in_err-write_runs-clause-part
returns-in_err-write_runs-clause-part g c = λ failed. grows-twice _ _ _ (grew _ _ _ c.in_ok-write_bytes.ensures.whole)
    (c.in_err-write_runs.ensures.part refl)

pub returns-in_err-text-clause-part : goal.returns-in_err-text-clause-part
returns-in_err-text-clause-part g c =
    let rows = cases-grow _ _ (wanted_by c.args.task.now.sweep) _ _ _ c.in_ok-write_runs.ensures.told in
    λ failed. grows-twice _ _ _ (grew _ _ _ c.in_ok-write_bytes.ensures.whole) rows

pub returns-in_err-write_bytes-2-clause-part : goal.returns-in_err-write_bytes-2-clause-part
returns-in_err-write_bytes-2-clause-part g c =
    let rows = cases-grow _ _ (wanted_by c.args.task.now.sweep) _ _ _ c.in_ok-write_runs.ensures.told in
    let part = grew-part _ _ _ (c.in_err-write_bytes-2.ensures.part refl) in
    λ failed. grows-twice _ _ _ (grows-twice _ _ _ (grew _ _ _ c.in_ok-write_bytes.ensures.whole) rows) part
