use Rattle.cell_world.proofs.BeltClears.{belt_clears as it}
use Rattle.cell_world.proofs.belt_clears.Goals as goal

pub returns : goal.returns
returns c = it
