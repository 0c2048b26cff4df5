-- The loop that searches for the end of the first line
use Rattle.std.proofs.Common.{◌≡◌, ◌++◌, take, drop}
use Rattle.cell_sweep.specs.Rows.{first_line}
use Rattle.cell_sweep.proofs.row.first_line.Given as goal

-- no line feed stands in the bytes so far
abbrev pub invariant-loop-place : goal.invariant-loop-place
invariant-loop-place l = first_line l.text ≡ take l.place l.text ++ first_line (drop l.place l.text)
