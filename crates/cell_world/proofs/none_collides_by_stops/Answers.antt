use Rattle.cell_world.proofs.StopRuns.{none_collides_by_stops as it}
use Rattle.cell_world.proofs.none_collides_by_stops.Goals as goal

pub returns : goal.returns
returns c = it
