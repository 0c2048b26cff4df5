use Rattle.cell_world.proofs.FailRuns.{end_with_failing as it}
use Rattle.cell_world.proofs.end_with_failing.Goals as goal

pub returns : goal.returns
returns c = it
