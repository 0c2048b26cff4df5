use Rattle.cell_world.proofs.BeltTurns.{belt_turn_keeps as it}
use Rattle.cell_world.proofs.belt_turn_keeps.Goals as goal

pub returns : goal.returns
returns c = it
