use Rattle.cell_calm.proofs.Finishing.{written_runs_finish as it}
use Rattle.cell_calm.proofs.laws.written_runs_finish.Goals as goal

pub returns : goal.returns
returns c = it
