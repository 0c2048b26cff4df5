use Rattle.cell_world.proofs.Running.{none_collides as it}
use Rattle.cell_world.proofs.none_collides.Goals as goal

pub returns : goal.returns
returns c = it
