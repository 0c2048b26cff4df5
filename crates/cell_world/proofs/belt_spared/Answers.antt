use Rattle.cell_world.proofs.BeltSpares.{belt_spared as it}
use Rattle.cell_world.proofs.belt_spared.Goals as goal

pub returns : goal.returns
returns c = it
