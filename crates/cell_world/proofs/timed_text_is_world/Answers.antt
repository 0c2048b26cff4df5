use Rattle.cell_world.proofs.Simulating.{timed_text_is_world as it}
use Rattle.cell_world.proofs.timed_text_is_world.Goals as goal

pub returns : goal.returns
returns c = it
