use Rattle.cell_world.proofs.Simulating.{served_text_is_world as it}
use Rattle.cell_world.proofs.served_text_is_world.Goals as goal

pub returns : goal.returns
returns c = it
