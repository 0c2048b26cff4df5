use Rattle.cell_calm.proofs.Pressed.{written_failing_runs_end as it}
use Rattle.cell_calm.proofs.laws.written_failing_runs_end.Goals as goal

pub returns : goal.returns
returns c = it
