-- The loop that reads a script piece by piece and counts the bytes that end no line
use Rattle.std.proofs.Common.{◌≡◌}
use Rattle.std.specs.Prelude.{count_by}
use Rattle.std.specs.Io.KnownBytes.{Keeps, prepend_known}
use Rattle.cell_orders.specs.Parts.{ends_no_line}
use Rattle.cell_orders.proofs.reading.script.script_text.Given as goal

abbrev pub invariant-pieces : goal.invariant-pieces
invariant-pieces g l = record {
  counted : l.count ≡ count_by ends_no_line l.bytes.items;
  whole : Keeps (g.R.Read.remaining l.fn.reader) (prepend_known l.bytes.items (g.R.Read.remaining l.reader));
}
