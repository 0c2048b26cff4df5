use Rattle.cell_world.proofs.Machines.{tied_stands as it}
use Rattle.cell_world.proofs.tied_stands.Goals as goal

pub returns : goal.returns
returns c = it
