use Rattle.cell_world.proofs.BeltStops.{belt_stands as it}
use Rattle.cell_world.proofs.belt_stands.Goals as goal

pub returns : goal.returns
returns c = it
