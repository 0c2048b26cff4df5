use Rattle.cell_world.proofs.Faulty.{fault_hides}
use Rattle.cell_world.proofs.fault_hides_end.Goals as goal

pub returns : goal.returns
returns c = fault_hides
