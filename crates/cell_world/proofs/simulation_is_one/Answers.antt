use Rattle.cell_world.proofs.OneEnd.{simulation_is_one as it}
use Rattle.cell_world.proofs.simulation_is_one.Goals as goal

pub returns : goal.returns
returns c = it
