use Rattle.cell_world.proofs.OneEnd.{run_is_one as it}
use Rattle.cell_world.proofs.run_is_one.Goals as goal

pub returns : goal.returns
returns c = it
