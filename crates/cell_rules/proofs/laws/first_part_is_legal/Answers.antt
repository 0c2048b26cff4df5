use Rattle.std.proofs.Common.{[]}
use Rattle.cell_rules.proofs.Safe.Bridge.{legal_front}
use Rattle.cell_rules.proofs.laws.first_part_is_legal.Goals as goal

pub returns : goal.returns
returns c = λ l P R. legal_front l [] P R
