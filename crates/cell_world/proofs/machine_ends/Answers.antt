use Rattle.cell_world.proofs.Machines.{machine_ends as it}
use Rattle.cell_world.proofs.machine_ends.Goals as goal

pub returns : goal.returns
returns c = it
