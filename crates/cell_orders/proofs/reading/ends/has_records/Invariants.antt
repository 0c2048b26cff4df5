-- The loop that counts records: those counted and those left are all of the text's
use Rattle.std.specs.Prelude.{option_map}
use Rattle.cell_rows.specs.Rows.{rows_of}
use Rattle.cell_orders.specs.Ends.{IsSetUp, rows_to_come}
use Rattle.cell_orders.proofs.Counted.{StillLeft}
use Rattle.cell_orders.proofs.reading.ends.has_records.Given as goal

abbrev pub invariant-records : goal.invariant-records
invariant-records g l = record {
  set_up : IsSetUp l.reader;
  left : StillLeft (option_map rows_of (g.R.Read.remaining l.fn.source)) (rows_to_come g.R.Read.remaining l.reader)
      l.counter;
}
