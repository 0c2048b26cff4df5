use Rattle.cell_rules.proofs.Declaring.{healthy_is_declared}
use Rattle.cell_rules.proofs.laws.healthy_is_declared.Goals as goal

pub returns : goal.returns
returns c = healthy_is_declared
