use Rattle.cell_calm.proofs.Finishing.{healthy_runs_finish as it}
use Rattle.cell_calm.proofs.laws.healthy_runs_finish.Goals as goal

pub returns : goal.returns
returns c = it
