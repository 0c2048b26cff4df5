-- A batch of which nothing is made yet has the places
use Rattle.cell_sweep.specs.Cases.{cases_of, motions_of}
use Rattle.cell_sweep.specs.Sweeps.{wanted_by}
use Rattle.cell_sweep.proofs.Batches.{told-in-span}
use Rattle.cell_sweep.proofs.sweep.write_part.Goals as goal

pub returns-else-task-gt1-clause-told : goal.returns-else-task-gt1-clause-told
returns-else-task-gt1-clause-told g c =
    let places = c.args.places.now in
    let cases = cases_of c.args.task.now.sweep.choice places.kinds.now (motions_of places.counts) in
    told-in-span c.write_rows.result _ _ (wanted_by c.args.task.now.sweep) cases _ _ _ _ c.unmade-batch.ensures.span
    c.write_rows.ensures.told
