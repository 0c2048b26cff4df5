use Rattle.cell_world.proofs.FailRuns.{run_with_failing as it}
use Rattle.cell_world.proofs.run_with_failing.Goals as goal

pub returns : goal.returns
returns c = it
