use Rattle.cell_world.proofs.Stopping.{stopped_round_kept as it}
use Rattle.cell_world.proofs.stopped_round_kept.Goals as goal

pub returns : goal.returns
returns c = it
