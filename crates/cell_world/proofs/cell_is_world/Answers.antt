use Rattle.cell_world.proofs.Whole.{cell_is_world as it}
use Rattle.cell_world.proofs.cell_is_world.Goals as goal

pub returns : goal.returns
returns c = it
