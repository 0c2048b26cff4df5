use Rattle.cell_world.proofs.Faulty.{reading_hides}
use Rattle.cell_world.proofs.reading_hides_end.Goals as goal

pub returns : goal.returns
returns c = reading_hides
