use Rattle.cell_world.proofs.Clearing.{clearing_keeps as it}
use Rattle.cell_world.proofs.clearing_keeps.Goals as goal

pub returns : goal.returns
returns c = it
