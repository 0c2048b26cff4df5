use Rattle.cell_world.proofs.FaultStarts.{planned_hides}
use Rattle.cell_world.proofs.planned_hides_end.Goals as goal

pub returns : goal.returns
returns c = planned_hides
