-- What is written where the entries of a journal are told with their times, by the words of the command line
use Rattle.std.specs.Prelude.{◌≡◌, ◌⊎◌, ℕ, Bool, true, false, List, Option, Some, None, Result, Ok, Err, IfOk}
use Rattle.std.specs.Prelude.{MatchOption, MatchResult}
use Rattle.std.specs.Io.KnownBytes.{Appends}
use Rattle.cell_types.specs.declared.words.Entry.{Entry}
use Rattle.cell_rules.specs.Legal.{legal}
use Rattle.cell_rules.specs.Views.{count_of}
use Rattle.cell_rows.specs.Rows.{rows_of}
use Rattle.cell_audit.specs.Judged.{audit_limits}
use Rattle.cell_audit.specs.Lines.{IsAnswer, WritesAnswer, lines_of}
use Rattle.cell_audit.specs.Meaning.{SpellsLegal, spelled}
use Rattle.cell_audit.specs.Profiles.{number_of}
use Rattle.cell_audit.specs.declared.error.AuditError.{AuditError}
use Rattle.cell_audit.specs.declared.profile.Profile.{Profile}
use Rattle.cell_output.specs.Watched.{WritesPart}
use Rattle.cell_output.specs.declared.watched.WriteFault.{WriteFault}
use Rattle.cell_measures.specs.declared.durations.Durations.{Durations}
use Rattle.cell_events.specs.Rows.{csv_text}
use Rattle.cell_events.specs.declared.write.EventForm.{EventForm}
use Rattle.cell_events.specs.declared.write.EventForm.TheVariants as form
use Rattle.cell_command.specs.declared.order.Listing.{Listing}
use Rattle.cell_orders.specs.Texts.{AreTimes, IsGiven, IsWrong, TellsTimes}

-- the form that the flags of CSV, of a trace and of a value change dump ask for, if they ask for one alone; with no
-- flag it is CSV
abbrev pub form_asked : Bool → Bool → Bool → Option EventForm
form_asked csv false false = Some form.Csv
form_asked false true false = Some form.Trace
form_asked false false true = Some form.Vcd
form_asked _ _ _ = None

-- a text spells a legal journal, of which these are the entries
abbrev pub SpellsJournal : List ℕ → List Entry → Type 0
SpellsJournal text J = (p : Profile) × (rows_of text ≡ spelled p J) × (legal audit_limits J ≡ true)
    × SpellsLegal (rows_of text) (number_of p) (count_of J)

-- entries are told in a form with their times, and the status is 0: in CSV the text of their rows was written, or a
-- first part of it, and not all, where a write was refused
abbrev pub ListsEntries : EventForm → Durations → List Entry → Option (List ℕ) → Option (List ℕ) → Result ℕ WriteFault
    → Type 0
ListsEntries asked durations J old new written = IfOk written (λ status. status ≡ 0)
    × (asked ≡ form.Csv → MatchResult written (λ _. Appends old new (csv_text durations J))
    (λ _. WritesPart old new (csv_text durations J)))

-- a text is no legal journal's, which is told as an audit tells it
abbrev pub TellsRefused : Option (List ℕ) → Option (List ℕ) → Result ℕ WriteFault → Type 0
TellsRefused old new written =
    (text : List ℕ) × (why : AuditError) × IsAnswer text (Err why)
    × MatchResult written (WritesAnswer old new (Err why)) (λ _. WritesPart old new (lines_of (Err why)))

-- the entries are told of the journal that some text spells, or that text is refused
abbrev pub ListsJournal : EventForm → Durations → Option (List ℕ) → Option (List ℕ) → Result ℕ WriteFault → Type 0
ListsJournal asked durations old new written =
    ((text : List ℕ) × (J : List Entry) × SpellsJournal text J × ListsEntries asked durations J old new written)
    ⊎ TellsRefused old new written

-- what is written for the words of the command in a form: the entries with their times by the durations, unless these
-- are refused
abbrev pub ListsIn : EventForm → Listing → Option (List ℕ) → Option (List ℕ) → Result ℕ WriteFault → Type 0
ListsIn asked listing old new written =
    ((durations : Durations) × AreTimes listing.times durations × ListsJournal asked durations old new written)
    ⊎ (IsGiven listing.times × TellsTimes old new written)

-- what is written for the words of the command: the entries in the form that they ask for; or they ask for several, a
-- line among the errors says so, and nothing is printed
abbrev pub ListsWords : Listing → Option (List ℕ) → Option (List ℕ) → Option (List ℕ) → Option (List ℕ)
    → Result ℕ WriteFault → Type 0
ListsWords listing old new old_errors new_errors written =
    MatchOption (form_asked listing.csv listing.trace listing.vcd)
    ((status : ℕ) × (written ≡ Ok status) × IsWrong old new old_errors new_errors status)
    (λ asked. ListsIn asked listing old new written × (new_errors ≡ old_errors))
