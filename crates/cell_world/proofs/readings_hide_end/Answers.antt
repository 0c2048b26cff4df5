use Rattle.cell_world.proofs.Faulty.{readings_hide}
use Rattle.cell_world.proofs.readings_hide_end.Goals as goal

pub returns : goal.returns
returns c = readings_hide
