-- Where a run can't be told, the lines of those before it stay written
use Rattle.std.proofs.Common.{◌∙◌, arith, refl}
use Rattle.cell_sweep.specs.Cases.{cases_of, motions_of}
use Rattle.cell_sweep.specs.Sweeps.{wanted_by}
use Rattle.cell_sweep.proofs.Batches.{place-more}
use Rattle.cell_sweep.proofs.Steps.{cases-done, cases-grow, grows-twice, no-cases-yet}
use Rattle.cell_sweep.proofs.sweep.write_rows.Goals as goal

pub loop-place-init : goal.loop-place-init
loop-place-init g c =
    (refl, omega arith, no-cases-yet _ _ (wanted_by c.args.task.now.sweep) _ c.args.batch.now.span.begin _)

pub loop-place-preserved : goal.loop-place-preserved
loop-place-preserved g c =
    let (same, short, told) = c.loop-place.invariant in
    let places = c.args.places.now in
    let cases = cases_of c.args.task.now.sweep.choice places.kinds.now (motions_of places.counts) in (
      c.in_ok-write_place.ensures.writer ∙ same,
      omega (arith, c.loop-place.auto.place, c.loop-place-test.true),
      place-more _ _ (wanted_by c.args.task.now.sweep) cases c.args.batch.now.span.begin c.loop-place.place _ _ _
          c.loop-place.auto.place (omega (arith, c.loop-place-test.true, c.requires.inside)) told
          c.in_ok-write_place.ensures.told,
    )

pub returns-in_err-write_place-clause-writer : goal.returns-in_err-write_place-clause-writer
returns-in_err-write_place-clause-writer g c = c.in_err-write_place.ensures.writer ∙ c.loop-place.invariant.0

pub returns-in_err-write_place-clause-part : goal.returns-in_err-write_place-clause-part
returns-in_err-write_place-clause-part g c =
    let (same, short, told) = c.loop-place.invariant in
    λ failed. grows-twice _ _ _ (cases-grow _ _ (wanted_by c.args.task.now.sweep) _ _ _ told)
    (c.in_err-write_place.ensures.part refl)

pub returns-clause-writer : goal.returns-clause-writer
returns-clause-writer g c = c.loop-place.invariant.0

pub returns-clause-told : goal.returns-clause-told
returns-clause-told g c =
    let (same, short, told) = c.loop-place.invariant in
    cases-done _ _ (wanted_by c.args.task.now.sweep) _ c.args.batch.now.span.begin c.args.batch.now.span.end
    c.loop-place.place _ _ short c.loop-place-test.false told
