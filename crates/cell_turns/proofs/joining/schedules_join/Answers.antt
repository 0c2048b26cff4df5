use Rattle.cell_turns.proofs.Joined.{scheduled_join}
use Rattle.cell_turns.proofs.joining.schedules_join.Goals as goal

pub returns : goal.returns
returns c = scheduled_join
