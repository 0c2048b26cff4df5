use Rattle.cell_world.proofs.Fair.{settings_are_fair as it}
use Rattle.cell_world.proofs.settings_are_fair.Goals as goal

pub returns : goal.returns
returns c = it
