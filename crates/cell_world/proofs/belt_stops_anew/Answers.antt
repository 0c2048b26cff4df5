use Rattle.cell_world.proofs.BeltStops.{belt_stops_anew as it}
use Rattle.cell_world.proofs.belt_stops_anew.Goals as goal

pub returns : goal.returns
returns c = it
