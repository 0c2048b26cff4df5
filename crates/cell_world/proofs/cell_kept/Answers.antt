use Rattle.cell_world.proofs.Whole.{cell_kept as it}
use Rattle.cell_world.proofs.cell_kept.Goals as goal

pub returns : goal.returns
returns c = it
