-- What is said of a journal's text
use Rattle.std.specs.Prelude.{◌≡◌, ◌≢◌, ◌⊎◌, ◌+◌, ℕ, List, [], length, Option, Some, Result, Ok, Err, codes}
use Rattle.std.specs.Prelude.{slice_get}
use Rattle.std.specs.Io.KnownBytes.{Appends}
use Rattle.cell_rows.specs.Rows.{Row, rows_of}
use Rattle.cell_types.specs.declared.words.Entry.{Entry}
use Rattle.cell_types.specs.declared.words.Totals.{Totals}
use Rattle.cell_rules.specs.declared.refusal.Refusal.{Refusal}
use Rattle.cell_audit.specs.declared.error.AuditError.{AuditError}
use Rattle.cell_audit.specs.declared.error.AuditError.TheVariants as error
use Rattle.cell_audit.specs.Reading.{SpellsFirst}
use Rattle.cell_output.specs.Watched.{WritesPart}
use Rattle.cell_audit.specs.Lines.{IsAnswer, lines_of, status_of}
use Rattle.cell_explain.specs.declared.due.Circumstances.{Circumstances}
use Rattle.cell_explain.specs.declared.wanted.Trouble.{Trouble}
use Rattle.cell_types.specs.Records.{read_row}
use Rattle.cell_explain.specs.Facts.{IsSince}
use Rattle.cell_explain.specs.Places.{HasLine, HasRecord}
use Rattle.cell_explain.specs.Sayings.{profile_line, record_line, refused_line}

-- one of these sayings was written
abbrev pub Tells : (List ℕ → Type 0) → Option (List ℕ) → Option (List ℕ) → Type 0
Tells says old new = (saying : List ℕ) × says saying × Appends old new saying

-- a first part of one of these sayings was written, and not all of it
abbrev pub TellsPart : (List ℕ → Type 0) → Option (List ℕ) → Option (List ℕ) → Type 0
TellsPart says old new = (saying : List ℕ) × says saying × WritesPart old new saying

-- this was written, with this status
abbrev pub WritesSaying : Option (List ℕ) → Option (List ℕ) → ℕ → List ℕ → ℕ → Type 0
WritesSaying old new status saying ended = Appends old new saying × (ended ≡ status)

-- memory was refused, and nothing is said
abbrev pub SaysNothing : ℕ → List ℕ → Type 0
SaysNothing status saying = (status ≡ 4) × (saying ≡ [])

-- the text is refused, and this is said of it, or memory was refused
abbrev pub SaysRefusal : (List ℕ → Type 0) → ℕ → List ℕ → Type 0
SaysRefusal says status saying = ((status ≡ 1) × says saying) ⊎ SaysNothing status saying

-- what is said of a record that can't be read, by its place from 0 and the number that it is told by: its line, its
-- number, itself, and why
abbrev pub SaysRecord : List ℕ → List ℕ → ℕ → ℕ → List ℕ → Type 0
SaysRecord text name place number saying =
    (line : ℕ) × (bytes : List ℕ) × (why : Trouble) × HasRecord text place line bytes
    × (saying ≡ record_line line name number bytes why)

-- the record of this number, counted from 0, is the entry's
abbrev pub IsEntryOf : List Row → ℕ → Entry → Type 0
IsEntryOf rows number e = (row : Row) × (slice_get rows number ≡ Some row) × (read_row row ≡ Some e)

-- what is said of a refused entry: its line, its number, its record, the refusal, since which of the entries before it,
-- and what is so beside
abbrev pub SaysRefused : List ℕ → ℕ → Refusal → List ℕ → Type 0
SaysRefused text number why saying =
    (line : ℕ) × (bytes : List ℕ) × (J : List Entry) × (e : Entry) × (made : Circumstances)
    × HasRecord text number line bytes × SpellsFirst J (rows_of text) × (length J + 1 ≡ number)
    × IsEntryOf (rows_of text) number e × IsSince J e why made.since
    × (saying ≡ refused_line line number bytes why made)

-- what is said of a record of a journal that can't be read; record 0 is the profile's
abbrev pub SaysUnreadable : List ℕ → ℕ → List ℕ → Type 0
SaysUnreadable text number saying =
    ((number ≡ 0) × ((line : ℕ) × HasLine text 0 line × (saying ≡ profile_line line)))
    ⊎ ((number ≢ 0) × SaysRecord text (codes "entry") number number saying)

-- what is said of a text by the audit's answer: the audit's lines where it is legal, and nothing where memory was
-- refused
abbrev pub SaysOf : List ℕ → Result (ℕ × Totals) AuditError → List ℕ → Type 0
SaysOf text (Ok totals) saying = saying ≡ lines_of (Ok totals)
SaysOf text (Err (error.Unreadable number)) saying = SaysUnreadable text number saying
SaysOf text (Err (error.Refused number why)) saying = SaysRefused text number why saying
SaysOf text (Err error.ReadFault) saying = saying ≡ []
SaysOf text (Err error.OutOfMemory) saying = saying ≡ []

-- the audit's lines are said, with the status of an answer that the audit may give to the text
abbrev pub SaysAudit : List ℕ → ℕ → List ℕ → Type 0
SaysAudit text status saying =
    (answer : Result (ℕ × Totals) AuditError) × IsAnswer text answer × (saying ≡ lines_of answer)
    × (status ≡ status_of answer)

-- what is said of a journal's text with a status: by an answer that the audit may give to it, whose status it is
abbrev pub SaysJournal : List ℕ → ℕ → List ℕ → Type 0
SaysJournal text status saying =
    (answer : Result (ℕ × Totals) AuditError) × IsAnswer text answer × SaysOf text answer saying
    × (status ≡ status_of answer)
