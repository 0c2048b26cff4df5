-- The loop over the rows
use Rattle.std.proofs.Common.{◌≡◌, take}
use Rattle.std.specs.Prelude.{◌-◌}
use Rattle.std.specs.Io.KnownBytes.{Appends}
use Rattle.cell_types.specs.After.{after}
use Rattle.cell_journal.specs.Snapshots.{seen, state_of}
use Rattle.cell_show.specs.Page.{rows_on}
use Rattle.cell_show.proofs.page.whole.write_rows.Given as goal

-- the rows up to this number of entries are written, and the snapshot says what these leave
abbrev pub invariant-loop-taken : goal.invariant-loop-taken
invariant-loop-taken g l = record {
  rows : Appends (g.W.Write.contents l.fn.writer) (g.W.Write.contents l.writer)
      (rows_on l.fn.book.entries l.from (l.taken - l.from));
  left : state_of l.snapshot ≡ seen (after (take l.taken l.fn.book.entries));
}
