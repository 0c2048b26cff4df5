-- The loop that reads more of a text: what was read and what is left are still the same text
use Rattle.std.proofs.Common.{◌≡◌, ◌+◌, length}
use Rattle.std.specs.Io.{StartsWith}
use Rattle.std.specs.Io.KnownBytes.{Keeps, prepend_known}
use Rattle.cell_orders.proofs.reading.more.read_on.Given as goal

abbrev pub invariant-reads : goal.invariant-reads
invariant-reads g l = record {
  counted : length l.text.items + l.left ≡ length l.fn.text.items + l.most;
  begins : StartsWith l.text.items l.fn.text.items;
  whole : Keeps (prepend_known l.fn.text.items (g.R.Read.remaining l.fn.reader))
      (prepend_known l.text.items (g.R.Read.remaining l.reader));
}
