-- Either one record more is counted, or the text has fewer than were asked for
use Rattle.std.proofs.Common.{true, false}
use Rattle.std.specs.Prelude.{option_map}
use Rattle.csv.specs.Records.{fields_of}
use Rattle.cell_rows.specs.Rows.{TakesRow, rows_of}
use Rattle.cell_orders.specs.Ends.{rows_to_come}
use Rattle.cell_orders.proofs.Counted.{more, none}
use Rattle.cell_orders.proofs.reading.ends.has_records.Goals as goal

pub returns-then-not-branch : goal.returns-then-not-branch
returns-then-not-branch g c =
    let left = rows_to_come g.R.Read.remaining in
    let takes : TakesRow (left c.records.reader) (left c.next_row.new.reader) (fields_of c.next_row.new.row) false =
    rw (← c.if-not-branch.true) c.in_ok-next_row.ensures.takes in
    none (g.R.Read.remaining c.args.source) (left c.records.reader) (left c.next_row.new.reader)
    (fields_of c.next_row.new.row) c.records.counter c.args.count
    c.records.invariant.left takes c.records-test.true

pub records-preserved : goal.records-preserved
records-preserved g c =
    let left = rows_to_come g.R.Read.remaining in
    let takes : TakesRow (left c.records.reader) (left c.next_row.new.reader) (fields_of c.next_row.new.row) true =
    rw (← c.if-not-branch.false) c.in_ok-next_row.ensures.takes in
    record {
      set_up = c.in_ok-next_row.ensures.open;
      left = more (option_map rows_of (g.R.Read.remaining c.args.source)) (left c.records.reader)
          (left c.next_row.new.reader) (fields_of c.next_row.new.row) c.records.counter
          c.records.invariant.left takes;
    }
