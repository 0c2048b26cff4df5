use Rattle.cell_world.proofs.BeltRepairs.{belt_begins_anew as it}
use Rattle.cell_world.proofs.belt_begins_anew.Goals as goal

pub returns : goal.returns
returns c = it
