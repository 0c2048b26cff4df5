use Rattle.cell_world.proofs.Held.{stops_are_world as it}
use Rattle.cell_world.proofs.stops_are_world.Goals as goal

pub returns : goal.returns
returns c = it
