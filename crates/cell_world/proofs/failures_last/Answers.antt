use Rattle.cell_world.proofs.FailCell.{failures_last as it}
use Rattle.cell_world.proofs.failures_last.Goals as goal

pub returns : goal.returns
returns c = it
