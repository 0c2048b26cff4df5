use Rattle.cell_world.proofs.Hands.{drops as it}
use Rattle.cell_world.proofs.arm_drops.Goals as goal

pub returns : goal.returns
returns c = it
