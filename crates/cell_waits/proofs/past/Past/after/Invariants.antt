-- The loop that goes through a book's first entries
use Rattle.std.proofs.Common.{◌≡◌}
use Rattle.cell_waits.specs.Past.{entries_of, taken_of}
use Rattle.cell_waits.proofs.past.Past.after.Given as goal

-- the cell is after so many of the book's entries
abbrev pub invariant-loop-taken : goal.invariant-loop-taken
invariant-loop-taken l = record {
  entries : entries_of l.past ≡ l.fn.book.entries;
  taken : taken_of l.past ≡ l._taken;
}
