-- The loop over the entries
use Rattle.std.proofs.Common.{◌≡◌, ◌+◌}
use Rattle.cell_waits.specs.Past.{entries_of, taken_of}
use Rattle.cell_show.specs.Waits.{waits_after}
use Rattle.cell_show.proofs.Waited.{SoFar}
use Rattle.cell_show.proofs.page.waits.write_waits.Given as goal

-- the lists up to this number of entries are written, and what was told last is at hand
abbrev pub invariant-loop-count : goal.invariant-loop-count
invariant-loop-count g l = record {
  entries : entries_of l.past ≡ l.fn.book.entries;
  taken : taken_of l.past ≡ l.first + l._count;
  waits : l.waits ≡ waits_after l.fn.book.entries (l.first + l._count);
  told : SoFar (g.W.Write.contents l.fn.writer) (g.W.Write.contents l.writer) l.fn.book.entries l.first l._count;
}
