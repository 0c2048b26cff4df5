use Rattle.cell_world.proofs.Spared.{spared_stays as it}
use Rattle.cell_world.proofs.spared_stays_tied.Goals as goal

pub returns : goal.returns
returns c = it
