use Rattle.cell_world.proofs.Hands.{grips as it}
use Rattle.cell_world.proofs.arm_grips.Goals as goal

pub returns : goal.returns
returns c = it
