-- The loop over the rows of a batch
use Rattle.cell_sweep.specs.Batches.{AreMade}
use Rattle.cell_sweep.specs.Cases.{cases_of, motions_of}
use Rattle.cell_sweep.specs.Sweeps.{wanted_by}
use Rattle.cell_sweep.proofs.batch.make_lane.Given as goal

-- the runs so far are made
abbrev pub invariant-loop-row : goal.invariant-loop-row
invariant-loop-row l =
    AreMade l.task.settings.now.text.now l.task.operator.now (wanted_by l.task.sweep)
    (cases_of l.task.sweep.choice l.places.kinds.now (motions_of l.places.counts)) l.made.items
