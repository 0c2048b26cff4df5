use Rattle.cell_world.proofs.FailStarts.{axis_sets_out as it}
use Rattle.cell_world.proofs.axis_sets_out.Goals as goal

pub returns : goal.returns
returns c = it
