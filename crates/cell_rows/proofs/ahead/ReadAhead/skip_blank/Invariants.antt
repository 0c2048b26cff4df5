-- The loop over blank lines: they are no records, so the records left are the same
use Rattle.std.proofs.Common.{◌≡◌}
use Rattle.cell_rows.specs.Sights.{InSight, rows_ahead}
use Rattle.cell_rows.proofs.ahead.ReadAhead.skip_blank.Given as goal

abbrev pub invariant-loop : goal.invariant-loop
invariant-loop g l = InSight l.self × (rows_ahead g.R.Read.remaining l.self ≡ rows_ahead g.R.Read.remaining l.fn.self)
