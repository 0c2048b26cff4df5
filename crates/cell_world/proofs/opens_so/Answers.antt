use Rattle.cell_world.proofs.Simulating.{opens_so as it}
use Rattle.cell_world.proofs.opens_so.Goals as goal

pub returns : goal.returns
returns c = it
