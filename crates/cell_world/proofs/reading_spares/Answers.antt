use Rattle.cell_world.proofs.Read.{reading_spares as it}
use Rattle.cell_world.proofs.reading_spares.Goals as goal

pub returns : goal.returns
returns c = it
