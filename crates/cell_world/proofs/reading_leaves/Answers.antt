use Rattle.cell_world.proofs.Shows.{leaves_plates as it}
use Rattle.cell_world.proofs.reading_leaves.Goals as goal

pub returns : goal.returns
returns c = it
