use Rattle.cell_world.proofs.BeltBeside.{stopped_spared as it}
use Rattle.cell_world.proofs.stopped_spared.Goals as goal

pub returns : goal.returns
returns c = it
