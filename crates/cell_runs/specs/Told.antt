-- What is printed of a journal that was followed, and the status
use Rattle.std.specs.Prelude.{◌≡◌, ◌⊎◌, ℕ, Bool, true, false, List, [], ◌∷◌, ◌++◌, Option, Some, None, Result, Ok, Err}
use Rattle.std.specs.Prelude.{codes, decimal}
use Rattle.std.specs.Io.KnownBytes.{Appends}
use Rattle.cell_types.specs.declared.words.Entry.{Entry}
use Rattle.cell_types.specs.Spelling.{record_of}
use Rattle.cell_rules.specs.Views.{count_of}
use Rattle.cell_rows.specs.Rows.{rows_of}
use Rattle.cell_ports.specs.declared.plan.Plan.{Plan}
use Rattle.cell_workers.specs.declared.ends.End.{End}
use Rattle.cell_workers.specs.declared.ends.End.TheVariants as end
use Rattle.operator_desk.specs.declared.line.Line.{Line}
use Rattle.cell_audit.specs.Meaning.{Due}
use Rattle.cell_audit.specs.Reading.{IsBefore, IsReading, SpellsFirst}
use Rattle.cell_audit.specs.declared.read.Audited.{Audited}
use Rattle.cell_audit.specs.Text.{text_of}
use Rattle.cell_output.specs.Watched.{WritesPart}
use Rattle.cell_audit.specs.declared.error.AuditError.{AuditError}
use Rattle.cell_audit.specs.Lines.{IsAnswer, WritesAnswer, lines_of}
use Rattle.cell_runs.specs.Followed.{IsFollowed}
use Rattle.cell_runs.specs.Inputs.{AreInputs, WritesError, input_line, input_status}
use Rattle.cell_runs.specs.Runs.{Kept, counts_after, kept, limits_of}
use Rattle.cell_runs.specs.declared.follow.Followed.{Followed}
use Rattle.cell_runs.specs.declared.follow.Followed.TheVariants.{Whole, Parted, Memory}
use Rattle.cell_runs.specs.declared.inputs.Inputs.{Inputs}
use Rattle.cell_runs.specs.declared.inputs.InputError.{InputError}

-- fields with commas between them
abbrev pub joined : List (List ℕ) → List ℕ
joined [] = []
joined (field ∷ []) = field
joined (field ∷ (next ∷ fields)) = field ++ 44 ∷ joined (next ∷ fields)

-- an entry as its line in a journal's text, without the line feed
abbrev pub entry_text : Entry → List ℕ
entry_text e = joined (record_of e)

-- what was booked, if anything was
abbrev pub booked_text : Option Entry → List ℕ
booked_text None = codes "nothing"
booked_text (Some e) = entry_text e

-- the first line of a journal that was followed so, without the line feed
abbrev pub first_line : Followed → List ℕ
first_line Whole = codes "followed"
first_line (Parted i wanted booked) = codes "entry "
    ++ (decimal i ++ (codes ": " ++ (booked_text booked ++ (codes " in place of " ++ entry_text wanted))))
first_line Memory = codes "memory"

abbrev pub followed_status : Followed → ℕ
followed_status Whole = 0
followed_status (Parted i wanted booked) = 1
followed_status Memory = 4

-- what is printed of a journal that was followed so, where this one was booked: how it was and what was counted, or the
-- text of what was booked alone
abbrev pub followed_text : Bool → Followed → List Entry → List ℕ
followed_text false how J = counts_after (first_line how) (count_of J)
followed_text true how J = text_of J

-- a text was printed, and the status is this one; or a first part of it, and not all, since memory was refused, and the
-- status says so
abbrev pub PrintsOrLacks : List ℕ → ℕ → Option (List ℕ) → Option (List ℕ) → ℕ → Type 0
PrintsOrLacks text due old new status = (Appends old new text × (status ≡ due))
    ⊎ (WritesPart old new text × (status ≡ 4))

-- how the run stands that is kept: no limit ended it
abbrev pub end_of : Followed → End
end_of Whole = end.Stalled
end_of (Parted i wanted booked) = end.Stalled
end_of Memory = end.Memory

-- a journal is followed by this plan and this script of the operator, which is printed, and what was booked is kept; or
-- memory was refused before, and nothing was written
abbrev pub WritesFollowed : Bool → Plan → List Line → List Entry → Option (List ℕ) → Option (List ℕ) → ℕ → Option Kept
    → Type 0
WritesFollowed alone plan script journal old new status run =
    ((how : Followed) × (J : List Entry) × IsFollowed (limits_of plan) plan script journal J how
    × PrintsOrLacks (followed_text alone how J) (followed_status how) old new status
    × (run ≡ Some (kept J (end_of how) plan)))
    ⊎ (WritesError old new [] 4 status × (run ≡ None))

-- a first part of what is printed of a journal that is followed was written, and not all of it
abbrev pub PartOfFollowed : Bool → Plan → List Line → List Entry → Option (List ℕ) → Option (List ℕ) → Type 0
PartOfFollowed alone plan script journal old new =
    (how : Followed) × (J : List Entry) × IsFollowed (limits_of plan) plan script journal J how
    × WritesPart old new (followed_text alone how J)

-- this was read of a text: the answer is due for it, and the entries in the book are its first, up to the place that
-- the answer names
abbrev pub IsRead : Audited → List ℕ → Type 0
IsRead reading text = IsReading reading.answer reading.book.entries (rows_of text)
    × IsBefore reading.answer reading.book.entries

-- a text of a legal journal with these entries: its first records are theirs, and the answer that an audit owes it has
-- their counts
abbrev pub AreEntries : List ℕ → List Entry → Type 0
AreEntries text J = SpellsFirst J (rows_of text) × ((number : ℕ) × Due (rows_of text) (Ok (number, count_of J)))

-- a journal's text is refused or can't be read, which is told as an audit tells it
abbrev pub TellsRefused : List ℕ → Option (List ℕ) → Option (List ℕ) → ℕ → Type 0
TellsRefused text old new status = (e : AuditError) × IsAnswer text (Err e) × WritesAnswer old new (Err e) status

abbrev pub PartOfRefused : List ℕ → Option (List ℕ) → Option (List ℕ) → Type 0
PartOfRefused text old new = (e : AuditError) × IsAnswer text (Err e) × WritesPart old new (lines_of (Err e))

-- what is printed where the texts of a run are good, or of the first that is refused: a journal's text is followed, or
-- is refused itself
abbrev pub FollowsInputs : List ℕ → Bool → Option (List ℕ) → Option (List ℕ) → ℕ → Option Kept
    → Result Inputs InputError → Type 0
FollowsInputs text alone old new status run (Ok inputs) =
    ((journal : List Entry) × AreEntries text journal
    × WritesFollowed alone inputs.plan inputs.script journal old new status run)
    ⊎ (TellsRefused text old new status × (run ≡ None))
FollowsInputs text alone old new status run (Err e) = WritesError old new (input_line e) (input_status e) status
    × (run ≡ None)

-- what was written is the line of the first text that is refused, in the order settings, faults, operator, journal, or
-- is of the journal's being followed, of which what was booked is kept
abbrev pub KeepsFollowed : List ℕ → List ℕ → List ℕ → List ℕ → Bool → Option (List ℕ) → Option (List ℕ) → ℕ
    → Option Kept → Type 0
KeepsFollowed text settings faults operator alone old new status run =
    (inputs : Result Inputs InputError) × AreInputs settings faults operator inputs
    × FollowsInputs text alone old new status run inputs

-- the same, and nothing is handed on
abbrev pub TellsFollowed : List ℕ → List ℕ → List ℕ → List ℕ → Bool → Option (List ℕ) → Option (List ℕ) → ℕ → Type 0
TellsFollowed text settings faults operator alone old new status =
    (run : Option Kept) × KeepsFollowed text settings faults operator alone old new status run

abbrev pub PartOfInputs : List ℕ → Bool → Option (List ℕ) → Option (List ℕ) → Result Inputs InputError → Type 0
PartOfInputs text alone old new (Ok inputs) =
    ((journal : List Entry) × AreEntries text journal × PartOfFollowed alone inputs.plan inputs.script journal old new)
    ⊎ PartOfRefused text old new
PartOfInputs text alone old new (Err e) = WritesPart old new (input_line e)

-- a first part of what is printed of these texts was written, and not all of it
abbrev pub TellsPartFollowed : List ℕ → List ℕ → List ℕ → List ℕ → Bool → Option (List ℕ) → Option (List ℕ) → Type 0
TellsPartFollowed text settings faults operator alone old new =
    (inputs : Result Inputs InputError) × AreInputs settings faults operator inputs
    × PartOfInputs text alone old new inputs
