use Rattle.cell_world.proofs.Failing.{sick_turns as it}
use Rattle.cell_world.proofs.sick_turns.Goals as goal

pub returns : goal.returns
returns c = it
