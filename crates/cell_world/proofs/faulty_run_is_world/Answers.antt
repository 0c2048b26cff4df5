use Rattle.cell_world.proofs.FailRuns.{faulty_run_is_world as it}
use Rattle.cell_world.proofs.faulty_run_is_world.Goals as goal

pub returns : goal.returns
returns c = it
