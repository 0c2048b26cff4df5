use Rattle.cell_world.proofs.StopRuns.{end_with_stops as it}
use Rattle.cell_world.proofs.end_with_stops.Goals as goal

pub returns : goal.returns
returns c = it
