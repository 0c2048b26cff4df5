use Rattle.cell_world.proofs.BeltLeft.{feed_begins_anew as it}
use Rattle.cell_world.proofs.feed_begins_anew.Goals as goal

pub returns : goal.returns
returns c = it
