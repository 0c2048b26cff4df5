use Rattle.cell_world.proofs.FailCell.{none_failed_yet as it}
use Rattle.cell_world.proofs.none_failed_yet.Goals as goal

pub returns : goal.returns
returns c = it
