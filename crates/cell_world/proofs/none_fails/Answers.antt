use Rattle.cell_world.proofs.Rounds.{none_fails as it}
use Rattle.cell_world.proofs.none_fails.Goals as goal

pub returns : goal.returns
returns c = it
