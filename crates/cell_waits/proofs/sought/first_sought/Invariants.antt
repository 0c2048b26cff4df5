-- The loop over the rows
use Rattle.std.proofs.Common.{◌≡◌, drop}
use Rattle.cell_waits.specs.Rows.{first_sought}
use Rattle.cell_waits.proofs.sought.first_sought.Given as goal

-- the first that is sought is among the rows that are left
abbrev pub invariant-loop-row : goal.invariant-loop-row
invariant-loop-row g l =
    first_sought (g.C.Reads.situation l.cell) l.sought (drop l.row-index l.rows)
    ≡ first_sought (g.C.Reads.situation l.cell) l.sought l.rows
