use Rattle.cell_world.proofs.BeltStops.{belt_stops as it}
use Rattle.cell_world.proofs.belt_stops.Goals as goal

pub returns : goal.returns
returns c = it
