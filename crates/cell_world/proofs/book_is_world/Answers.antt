use Rattle.cell_world.proofs.Four.{book_is_world as it}
use Rattle.cell_world.proofs.book_is_world.Goals as goal

pub returns : goal.returns
returns c = it
