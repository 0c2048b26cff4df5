-- What is printed of a run that goes on from a journal, and the status
use Rattle.std.specs.Prelude.{◌≡◌, ◌⊎◌, ◌+◌, ℕ, Bool, true, List, ◌∷◌, ◌++◌, length, Option, Some, None, Result, Ok}
use Rattle.std.specs.Prelude.{Err}
use Rattle.cell_types.specs.declared.words.Entry.{Entry}
use Rattle.cell_rules.specs.declared.limits.BookLimits.{BookLimits}
use Rattle.cell_rules.specs.declared.refusal.Refusal.{Refusal}
use Rattle.cell_rules.specs.Legal.{first_of, legal}
use Rattle.cell_audit.specs.declared.error.AuditError.{AuditError}
use Rattle.cell_audit.specs.declared.error.AuditError.TheVariants as audit
use Rattle.cell_audit.specs.Lines.{WritesAnswer, lines_of}
use Rattle.cell_measures.specs.declared.durations.Durations.{Durations}
use Rattle.cell_output.specs.Watched.{WritesPart}
use Rattle.cell_runs.specs.Inputs.{AreRead, WritesError, input_line, input_status}
use Rattle.cell_runs.specs.Runs.{Kept, PartOfRoundsFrom, WritesRoundsFrom, limits_of}
use Rattle.cell_runs.specs.Told.{AreEntries, PartOfRefused, TellsRefused}
use Rattle.cell_runs.specs.declared.inputs.Inputs.{Inputs}
use Rattle.cell_runs.specs.declared.inputs.InputError.{InputError}

-- the entry of this number, counted from 1, is the first of a journal that limits don't allow, for this reason
pub record IsFirstRefused (l : BookLimits) (J : List Entry) (i : ℕ) (why : Refusal) : Type 0 where
  pub same : List Entry
  pub entry : Entry
  pub left : List Entry
  pub in_order : J ≡ same ++ entry ∷ left
  pub number : i ≡ length same + 1
  pub allowed : legal l same ≡ true
  pub refused : first_of l same entry ≡ Some why

-- why an entry of this number isn't booked after a journal: limits don't allow it, or memory was refused
abbrev pub IsNotBooked : BookLimits → List Entry → Entry → ℕ → AuditError → Type 0
IsNotBooked l J e number (audit.Refused i why) = (i ≡ number) × (first_of l J e ≡ Some why)
IsNotBooked l J e number audit.OutOfMemory = Unit {0}
IsNotBooked l J e number _ = ⊥

-- why a journal isn't booked within limits: they refuse an entry, or memory was refused
abbrev pub IsExceeded : BookLimits → List Entry → AuditError → Type 0
IsExceeded l J (audit.Refused number why) = IsFirstRefused l J number why
IsExceeded l J audit.OutOfMemory = Unit {0}
IsExceeded l J _ = ⊥

-- an entry of a journal that limits refuse is told as an audit tells it; or memory was refused, and nothing was written
abbrev pub TellsExceeded : BookLimits → List Entry → Option (List ℕ) → Option (List ℕ) → ℕ → Type 0
TellsExceeded l J old new status = (e : AuditError) × IsExceeded l J e × WritesAnswer old new (Err e) status

abbrev pub PartOfExceeded : BookLimits → List Entry → Option (List ℕ) → Option (List ℕ) → Type 0
PartOfExceeded l J old new = (e : AuditError) × IsExceeded l J e × WritesPart old new (lines_of (Err e))

-- a run goes on from this journal within the settings' limits, which is printed, and it is kept; or it is told that
-- they refuse an entry of the journal, and nothing runs
abbrev pub GoesOn : Bool → Inputs → List Entry → Option (List ℕ) → Option (List ℕ) → ℕ → Option Kept → Type 0
GoesOn alone inputs before old new status run =
    WritesRoundsFrom before alone inputs old new status run
    ⊎ (TellsExceeded (limits_of inputs.plan) before old new status × (run ≡ None))

-- a first part of what is printed of that was written, and not all of it
abbrev pub PartOfGoingOn : Bool → Inputs → List Entry → Option (List ℕ) → Option (List ℕ) → Type 0
PartOfGoingOn alone inputs before old new =
    PartOfRoundsFrom before alone inputs old new
    ⊎ PartOfExceeded (limits_of inputs.plan) before old new

-- what is printed where the texts of a run are good, or of the first that is refused: a run goes on from a journal's
-- text, or the text is refused itself
abbrev pub GoesOnBy : List ℕ → Bool → Option (List ℕ) → Option (List ℕ) → ℕ → Option Kept → Result Inputs InputError
    → Type 0
GoesOnBy text alone old new status run (Ok inputs) =
    ((before : List Entry) × AreEntries text before × GoesOn alone inputs before old new status run)
    ⊎ (TellsRefused text old new status × (run ≡ None))
GoesOnBy text alone old new status run (Err e) = WritesError old new (input_line e) (input_status e) status
    × (run ≡ None)

-- what was written is the line of the first text that is refused, in the order settings, faults, operator, journal, or
-- of an entry of the journal that the settings' limits refuse, or is of a run from the journal on, which is kept
abbrev pub KeepsRunFrom : Durations → List ℕ → List ℕ → List ℕ → List ℕ → Bool → Option (List ℕ) → Option (List ℕ)
    → ℕ → Option Kept → Type 0
KeepsRunFrom timing text settings faults operator alone old new status run =
    (inputs : Result Inputs InputError) × AreRead timing settings faults operator inputs
    × GoesOnBy text alone old new status run inputs

-- the same, and nothing is handed on
abbrev pub TellsRunFrom : Durations → List ℕ → List ℕ → List ℕ → List ℕ → Bool → Option (List ℕ) → Option (List ℕ)
    → ℕ → Type 0
TellsRunFrom timing text settings faults operator alone old new status =
    (run : Option Kept) × KeepsRunFrom timing text settings faults operator alone old new status run

abbrev pub PartOfInputsFrom : List ℕ → Bool → Option (List ℕ) → Option (List ℕ) → Result Inputs InputError → Type 0
PartOfInputsFrom text alone old new (Ok inputs) =
    ((before : List Entry) × AreEntries text before × PartOfGoingOn alone inputs before old new)
    ⊎ PartOfRefused text old new
PartOfInputsFrom text alone old new (Err e) = WritesPart old new (input_line e)

-- a first part of what is printed of these texts was written, and not all of it
abbrev pub TellsPartFrom : Durations → List ℕ → List ℕ → List ℕ → List ℕ → Bool → Option (List ℕ) → Option (List ℕ)
    → Type 0
TellsPartFrom timing text settings faults operator alone old new =
    (inputs : Result Inputs InputError) × AreRead timing settings faults operator inputs
    × PartOfInputsFrom text alone old new inputs
