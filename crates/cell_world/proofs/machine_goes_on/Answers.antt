use Rattle.cell_world.proofs.Machines.{machine_goes as it}
use Rattle.cell_world.proofs.machine_goes_on.Goals as goal

pub returns : goal.returns
returns c = it
