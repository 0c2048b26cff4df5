use Rattle.cell_world.proofs.Sensing.{sensed_agrees as it}
use Rattle.cell_world.proofs.sensed_agrees.Goals as goal

pub returns : goal.returns
returns c = it
