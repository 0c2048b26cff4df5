use Rattle.cell_world.proofs.FailRuns.{none_collides_beside as it}
use Rattle.cell_world.proofs.none_collides_beside.Goals as goal

pub returns : goal.returns
returns c = it
