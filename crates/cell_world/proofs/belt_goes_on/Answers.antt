use Rattle.cell_world.proofs.Belts.{belt_goes_on as it}
use Rattle.cell_world.proofs.belt_goes_on.Goals as goal

pub returns : goal.returns
returns c = it
