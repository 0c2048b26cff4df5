use Rattle.cell_world.proofs.Simulating.{served_run_is_world as it}
use Rattle.cell_world.proofs.served_run_is_world.Goals as goal

pub returns : goal.returns
returns c = it
