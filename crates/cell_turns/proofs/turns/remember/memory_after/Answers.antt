use Rattle.std.proofs.Common.{rules}
use Rattle.cell_turns.proofs.turns.remember.memory_after.Goals as goal

pub returns : goal.returns
returns c = rw c.requires (search rules)
