use Rattle.cell_world.proofs.OneRun.{run_follows as it}
use Rattle.cell_world.proofs.run_follows.Goals as goal

pub returns : goal.returns
returns c = it
