use Rattle.cell_rows.specs.Rows.{IsOpen}
use Rattle.test_texts.proofs.rows.lists.Given as goal

abbrev pub invariant-loop : goal.invariant-loop
invariant-loop g l = IsOpen l.rows
