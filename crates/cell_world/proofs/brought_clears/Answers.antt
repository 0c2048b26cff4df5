use Rattle.cell_world.proofs.BeltBrought.{brought_clears as it}
use Rattle.cell_world.proofs.brought_clears.Goals as goal

pub returns : goal.returns
returns c = it
