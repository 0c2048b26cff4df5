use Rattle.cell_world.proofs.BeltEntries.{belt_brings as it}
use Rattle.cell_world.proofs.belt_brings.Goals as goal

pub returns : goal.returns
returns c = it
