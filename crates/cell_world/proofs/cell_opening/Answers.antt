use Rattle.cell_world.proofs.Whole.{cell_opening as it}
use Rattle.cell_world.proofs.cell_opening.Goals as goal

pub returns : goal.returns
returns c = it
