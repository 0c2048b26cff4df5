use Rattle.cell_world.proofs.Spared.{entry_spares as it}
use Rattle.cell_world.proofs.entry_spares.Goals as goal

pub returns : goal.returns
returns c = it
