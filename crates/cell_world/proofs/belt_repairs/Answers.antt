use Rattle.cell_world.proofs.BeltRepairs.{belt_repairs as it}
use Rattle.cell_world.proofs.belt_repairs.Goals as goal

pub returns : goal.returns
returns c = it
