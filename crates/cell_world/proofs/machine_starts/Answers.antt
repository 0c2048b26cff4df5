use Rattle.cell_world.proofs.Machines.{machine_starts as it}
use Rattle.cell_world.proofs.machine_starts.Goals as goal

pub returns : goal.returns
returns c = it
