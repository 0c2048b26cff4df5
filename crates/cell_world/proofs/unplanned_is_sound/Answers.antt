use Rattle.cell_world.proofs.FailStarts.{unplanned}
use Rattle.cell_world.proofs.unplanned_is_sound.Goals as goal

pub returns : goal.returns
returns c = unplanned
