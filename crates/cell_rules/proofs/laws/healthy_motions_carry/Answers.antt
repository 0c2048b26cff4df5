use Rattle.cell_rules.proofs.Carried.{carrying_when_legal}
use Rattle.cell_rules.proofs.laws.healthy_motions_carry.Goals as goal

pub returns : goal.returns
returns c = carrying_when_legal
