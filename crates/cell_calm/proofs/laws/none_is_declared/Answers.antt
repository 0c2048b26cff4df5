use Rattle.cell_calm.proofs.Undeclared.{none_declared as it}
use Rattle.cell_calm.proofs.laws.none_is_declared.Goals as goal

pub returns : goal.returns
returns c = it
