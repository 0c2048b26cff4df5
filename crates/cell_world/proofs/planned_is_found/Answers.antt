use Rattle.cell_world.proofs.FaultFound.{planned_is_found as it}
use Rattle.cell_world.proofs.planned_is_found.Goals as goal

pub returns : goal.returns
returns c = it
