use Rattle.cell_world.proofs.Shows.{reading_agrees as it}
use Rattle.cell_world.proofs.reading_agrees.Goals as goal

pub returns : goal.returns
returns c = it
