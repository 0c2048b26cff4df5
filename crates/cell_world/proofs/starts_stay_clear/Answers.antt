use Rattle.cell_world.proofs.Clear.{starts_stay_clear as it}
use Rattle.cell_world.proofs.starts_stay_clear.Goals as goal

pub returns : goal.returns
returns c = it
