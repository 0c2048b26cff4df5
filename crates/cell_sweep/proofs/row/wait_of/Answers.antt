-- The line is the first of those that were written
use Rattle.std.proofs.Common.{rules}
use Rattle.cell_sweep.proofs.row.wait_of.Goals as goal

pub returns : goal.returns
returns c =
    let told = c.in_ok-write_ending.ensures.text in
    (told.0, told.1, rw c.journal.ensures at told.2, search rules)
