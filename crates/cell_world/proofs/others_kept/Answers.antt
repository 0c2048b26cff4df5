use Rattle.cell_world.proofs.Four.{others_kept as it}
use Rattle.cell_world.proofs.others_kept.Goals as goal

pub returns : goal.returns
returns c = it
