use Rattle.cell_world.proofs.BeltAgrees.{belt_agrees as it}
use Rattle.cell_world.proofs.belt_agrees.Goals as goal

pub returns : goal.returns
returns c = it
