use Rattle.cell_world.proofs.Stopping.{repairing_keeps as it}
use Rattle.cell_world.proofs.repairing_keeps.Goals as goal

pub returns : goal.returns
returns c = it
