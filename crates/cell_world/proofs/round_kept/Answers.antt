use Rattle.cell_world.proofs.Rounds.{round_kept as it}
use Rattle.cell_world.proofs.round_kept.Goals as goal

pub returns : goal.returns
returns c = it
