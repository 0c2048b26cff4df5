use Rattle.cell_world.proofs.StopRuns.{run_with_stops as it}
use Rattle.cell_world.proofs.run_with_stops.Goals as goal

pub returns : goal.returns
returns c = it
