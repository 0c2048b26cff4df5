use Rattle.cell_world.proofs.FailCell.{no_other_fails as it}
use Rattle.cell_world.proofs.no_other_fails.Goals as goal

pub returns : goal.returns
returns c = it
