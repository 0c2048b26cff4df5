-- One more batch is written
use Rattle.std.proofs.Common.{◌≤◌, ◌∙◌, ap, arith, refl}
use Rattle.cell_sweep.specs.Cases.{cases_of, motions_of}
use Rattle.cell_sweep.specs.Sweeps.{wanted_by}
use Rattle.cell_sweep.specs.declared.places.Span.{Span}
use Rattle.cell_sweep.proofs.Batches.{told-between, told-join}
use Rattle.cell_sweep.proofs.Steps.{cases-grow, grows-twice, no-cases-yet}
use Rattle.cell_sweep.proofs.sweep.write_batches.Goals as goal

pub loop-begin-init : goal.loop-begin-init
loop-begin-init g c = (
  refl,
  omega arith,
  omega arith,
  no-cases-yet _ _ (wanted_by c.args.task.now.sweep) _ c.args.span.begin _,
)

pub loop-begin-preserved : goal.loop-begin-preserved
loop-begin-preserved g c =
    let (same, after, short, told) = c.loop-begin.invariant in
    let places = c.args.places.now in
    let cases = cases_of c.args.task.now.sweep.choice places.kinds.now (motions_of places.counts) in
    let next : c.loop-begin.begin ≤ c.min-end.result = omega arith in
    let within : c.min-end.result ≤ c.args.span.end = omega arith in (
      c.in_ok-write_rows.ensures.writer ∙ same,
      omega (arith, after, next),
      omega (arith, within),
      told-join _ _ (wanted_by c.args.task.now.sweep) cases c.args.span.begin c.loop-begin.begin c.min-end.result _ _ _
          after next told
          (told-between _ _ (wanted_by c.args.task.now.sweep) cases _ _ c.loop-begin.begin c.min-end.result _ _
          (ap (λ (s : Span). s.begin) c.in_ok-batch.ensures.span) (ap (λ (s : Span). s.end) c.in_ok-batch.ensures.span)
          c.in_ok-write_rows.ensures.told),
    )

pub returns-in_err-write_rows-clause-part : goal.returns-in_err-write_rows-clause-part
returns-in_err-write_rows-clause-part g c =
    let (same, after, short, told) = c.loop-begin.invariant in
    λ failed. grows-twice _ _ _ (cases-grow _ _ (wanted_by c.args.task.now.sweep) _ _ _ told)
    (c.in_err-write_rows.ensures.part refl)

pub returns-in_err-batch-clause-part : goal.returns-in_err-batch-clause-part
returns-in_err-batch-clause-part g c =
    let (same, after, short, told) = c.loop-begin.invariant in
    λ failed. cases-grow _ _ (wanted_by c.args.task.now.sweep) _ _ _ told
