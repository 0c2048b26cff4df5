-- The loop that passes the records before one
use Rattle.cell_rows.specs.Rows.{IsOpen, rows_left}
use Rattle.cell_explain.proofs.Rows.{IsLeft}
use Rattle.cell_explain.proofs.journal.entry_in.Given as goal

-- the records so far are read
abbrev pub invariant-loop-place : goal.invariant-loop-place
invariant-loop-place g l = record {
  may_go_on : IsOpen l.rows;
  left : IsLeft (rows_left g.R.Read.remaining l.fn.rows) (rows_left g.R.Read.remaining l.rows) l.place;
}
