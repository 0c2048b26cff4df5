-- A run in which machines fail by faults that last ends before its rounds run out
use Rattle.cell_calm.proofs.Pressed.{failing_runs_end as it, one_press_runs_end}
use Rattle.cell_calm.proofs.laws.failing_runs_end.Goals as goal

pub returns-clause-any : goal.returns-clause-any
returns-clause-any c = it

pub returns-clause-one_press : goal.returns-clause-one_press
returns-clause-one_press c = one_press_runs_end
