-- The line that is written is that of the run
use Rattle.cell_sweep.specs.Sweeps.{wanted_by}
use Rattle.cell_sweep.proofs.Batches.{made-told}
use Rattle.cell_sweep.proofs.sweep.write_made.Goals as goal

pub returns-clause-told : goal.returns-clause-told
returns-clause-told g c = λ settings operator cases place is here.
    made-told settings operator (wanted_by c.args.task.now.sweep) cases place c.args.made.now
    c.as_slice-line.result.now _ _
    c.as_slice-line.ensures.value is here c.in_ok-write_bytes.ensures.whole
