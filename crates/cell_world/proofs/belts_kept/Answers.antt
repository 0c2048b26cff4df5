use Rattle.cell_world.proofs.Whole.{belts_kept as it}
use Rattle.cell_world.proofs.belts_kept.Goals as goal

pub returns : goal.returns
returns c = it
