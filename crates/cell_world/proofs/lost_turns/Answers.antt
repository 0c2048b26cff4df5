use Rattle.cell_world.proofs.FailStarts.{lost_turns as it}
use Rattle.cell_world.proofs.lost_turns.Goals as goal

pub returns : goal.returns
returns c = it
