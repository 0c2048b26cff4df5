use Rattle.cell_world.proofs.Running.{end_is_world as it}
use Rattle.cell_world.proofs.end_is_world.Goals as goal

pub returns : goal.returns
returns c = it
