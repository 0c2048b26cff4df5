use Rattle.cell_world.proofs.Stopping.{stops_kept as it}
use Rattle.cell_world.proofs.stops_kept.Goals as goal

pub returns : goal.returns
returns c = it
