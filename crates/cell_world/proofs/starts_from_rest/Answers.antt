use Rattle.cell_world.proofs.Begins.{from_rest as it}
use Rattle.cell_world.proofs.starts_from_rest.Goals as goal

pub returns : goal.returns
returns c = it
