use Rattle.cell_world.proofs.Long.{stays_so as it}
use Rattle.cell_world.proofs.durations_stay.Goals as goal

pub returns : goal.returns
returns c = it
