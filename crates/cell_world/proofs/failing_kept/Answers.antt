use Rattle.cell_world.proofs.FailCell.{failing_kept as it}
use Rattle.cell_world.proofs.failing_kept.Goals as goal

pub returns : goal.returns
returns c = it
