use Rattle.cell_world.proofs.Stopping.{asking_keeps as it}
use Rattle.cell_world.proofs.asking_keeps.Goals as goal

pub returns : goal.returns
returns c = it
