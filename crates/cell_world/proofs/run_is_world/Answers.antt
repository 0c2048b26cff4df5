use Rattle.cell_world.proofs.Running.{run_is_world as it}
use Rattle.cell_world.proofs.run_is_world.Goals as goal

pub returns : goal.returns
returns c = it
