use Rattle.cell_world.proofs.Starts.{axis_ends as it}
use Rattle.cell_world.proofs.axis_ends.Goals as goal

pub returns : goal.returns
returns c = it
