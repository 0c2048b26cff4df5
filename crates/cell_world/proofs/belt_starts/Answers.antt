use Rattle.cell_world.proofs.BeltEntries.{belt_starts as it}
use Rattle.cell_world.proofs.belt_starts.Goals as goal

pub returns : goal.returns
returns c = it
