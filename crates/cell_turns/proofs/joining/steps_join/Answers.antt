use Rattle.cell_turns.proofs.Joined.{leads_join}
use Rattle.cell_turns.proofs.joining.steps_join.Goals as goal

pub returns : goal.returns
returns c = leads_join
