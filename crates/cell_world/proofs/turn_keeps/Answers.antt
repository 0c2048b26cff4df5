use Rattle.cell_world.proofs.Turns.{turn_keeps as it}
use Rattle.cell_world.proofs.turn_keeps.Goals as goal

pub returns : goal.returns
returns c = it
