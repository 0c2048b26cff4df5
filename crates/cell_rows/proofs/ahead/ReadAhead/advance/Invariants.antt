-- The loop up to the next line: whatever it does to the bytes in sight, the records left are the same
use Rattle.cell_rows.specs.Sights.{InSight, KeepsRows, rows_ahead}
use Rattle.cell_rows.proofs.ahead.ReadAhead.advance.Given as goal

abbrev pub invariant-loop : goal.invariant-loop
invariant-loop g l = InSight l.self × KeepsRows (rows_ahead g.R.Read.remaining l.fn.self)
    (rows_ahead g.R.Read.remaining l.self)
