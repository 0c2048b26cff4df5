use Rattle.cell_world.proofs.Starts.{axis_starts as it}
use Rattle.cell_world.proofs.axis_starts.Goals as goal

pub returns : goal.returns
returns c = it
