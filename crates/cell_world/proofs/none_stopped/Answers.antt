use Rattle.cell_world.proofs.Stopping.{none_stopped as it}
use Rattle.cell_world.proofs.none_stopped.Goals as goal

pub returns : goal.returns
returns c = it
