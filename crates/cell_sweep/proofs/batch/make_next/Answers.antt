-- What is pushed is made
use Rattle.cell_sweep.specs.Cases.{cases_of, motions_of}
use Rattle.cell_sweep.specs.Sweeps.{wanted_by}
use Rattle.cell_sweep.proofs.Batches.{pushed-made}
use Rattle.cell_sweep.proofs.batch.make_next.Goals as goal

pub returns-in-Ok : goal.returns-in-Ok
returns-in-Ok c =
    let places = c.args.places.now in
    let task = c.args.task.now in
    pushed-made _ _ (wanted_by task.sweep) (cases_of task.sweep.choice places.kinds.now (motions_of places.counts)) _ _
    c.in-Ok.one _ c.push.ensures.items c.in-Ok.ensures.made
