use Rattle.cell_world.proofs.BeltEntries.{belt_ends as it}
use Rattle.cell_world.proofs.belt_ends.Goals as goal

pub returns : goal.returns
returns c = it
