-- The cell after the first entries of a book, as it is told
use Rattle.std.specs.Prelude.{ℕ, List, slice_index_or, take}
use Rattle.cell_types.specs.declared.words.Entry.{Entry}
use Rattle.cell_types.specs.Same.{machine_number}
use Rattle.cell_rules.specs.Situations.{Situation}
use Rattle.cell_rules.specs.SituationIn.{situation_in}
use Rattle.cell_rules.specs.Views.{waits_of}
use Rattle.cell_journal.specs.Snapshots.{state_of}
use Rattle.cell_waits.specs.declared.past.Past.{Past}

-- the book's entries
abbrev pub entries_of : Past → List Entry
entries_of p = p.book.now.entries

-- how many of them the cell is after
abbrev pub taken_of : Past → ℕ
taken_of p = p.taken

-- what they left, how many plates each machine forged, and from where each plate in quarantine was cleared
unfoldable pub told : Past → Situation
told p =
    situation_in (record (state_of p.left) {
      forged_by = λ m. slice_index_or p.forged (machine_number m) 0;
      waits = waits_of (take p.taken p.book.now.entries);
    })
