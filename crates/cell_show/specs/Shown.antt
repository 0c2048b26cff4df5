-- What is told of a journal's text beside the picture
use Rattle.std.specs.Prelude.{◌≡◌, ◌≢◌, ◌==◌, ◌⊎◌, ◌<◌, ◌≤◌, ℕ, List, [], ◌++◌, length, Option, None, Some, IfSome}
use Rattle.std.specs.Prelude.{Result, Ok, Err, ⊤, codes, decimal, if◌then◌else◌}
use Rattle.std.specs.Borrow.{Bor}
use Rattle.std.specs.Result.{result_err}
use Rattle.cell_rows.specs.Rows.{Row, rows_of}
use Rattle.cell_types.specs.declared.words.Entry.{Entry}
use Rattle.cell_types.specs.declared.words.Totals.{Totals}
use Rattle.cell_audit.specs.Meaning.{Due, IsFault}
use Rattle.cell_audit.specs.Reading.{IsBefore, SpellsFirst}
use Rattle.cell_audit.specs.declared.error.AuditError.{AuditError}
use Rattle.cell_audit.specs.declared.error.AuditError.TheVariants as audit
use Rattle.cell_audit.specs.Lines.{status_of}
use Rattle.cell_rules.specs.declared.limits.BookLimits.{BookLimits}
use Rattle.cell_rules.specs.declared.refusal.Refusal.{Refusal}
use Rattle.cell_rules.specs.Legal.{first_of}
use Rattle.cell_show.specs.Beside.{WritesBeside}
use Rattle.cell_show.specs.Page.{WritesPage}
use Rattle.cell_show.specs.declared.page.error.PageError.{PageError}
use Rattle.cell_show.specs.declared.page.error.PageError.TheVariants as page
use Rattle.cell_show.specs.declared.error.ShowError.{ShowError}
use Rattle.cell_show.specs.declared.error.ShowError.TheVariants as error
use Rattle.cell_show.specs.declared.show.Form.{Form}
use Rattle.cell_show.specs.declared.show.Form.TheVariants as form

-- the error where a page isn't written
abbrev pub of_page : PageError → ShowError
of_page page.TooManyEntries = error.TooManyEntries
of_page page.WriteFault = error.WriteFault

-- the status is that of the answer that is due for the records of a text, or of one on the reader or on memory
abbrev pub TellsStatus : Option (List Row) → ℕ → Type 0
TellsStatus rows status =
    (answer : Result (ℕ × Totals) AuditError) × IfSome rows (λ known. IsFault answer ⊎ Due known answer)
    × (status ≡ status_of answer)

-- the good entries of a text: its first records are theirs, and the answer that is due for it names the place after
-- them, or has their counts
abbrev pub AreGood : List Entry → List Row → Type 0
AreGood J rows = (answer : Result (ℕ × Totals) AuditError) × Due rows answer × IsBefore answer J × SpellsFirst J rows

-- after how many entries a page begins; of another form nothing is asked
abbrev pub start_of : Form → ℕ
start_of (form.Page window) = window.from
start_of (form.TimedPage durations window) = window.from
start_of _ = 0

-- where there is no such entry, more entries were asked for than are told, or a page begins after more
abbrev pub AsksPast : Option ℕ → ℕ → ShowError → Type 0
AsksPast entry start (error.NoSuchEntry n) = ((k : ℕ) × (entry ≡ Some k) × (n < k)) ⊎ (n < start)
AsksPast entry start error.TooManyEntries = ⊤
AsksPast entry start error.WriteFault = ⊤

-- a text has as many good entries as are told where there is no such entry, and else too many for a chart
abbrev pub TellsEntries : ShowError → List Row → Type 0
TellsEntries (error.NoSuchEntry n) rows = (J : List Entry) × AreGood J rows × (length J ≡ n)
TellsEntries error.TooManyEntries rows = (J : List Entry) × AreGood J rows × (20000 < length J)
TellsEntries error.WriteFault rows = ⊤

-- a text has at least as many good entries as were asked for, if any were, and as a page begins after
abbrev pub HasEntry : Option ℕ → ℕ → List Row → Type 0
HasEntry entry start rows =
    (J : List Entry) × AreGood J rows × IfSome entry (λ k. k ≤ length J) × (start ≤ length J)

-- an entry, where there is one, is refused after those of a journal, for something and in a book of some limits
abbrev pub IsBarred : List Entry → Option Entry → Type 0
IsBarred J refused = IfSome refused (λ e. (limits : BookLimits) × (why : Refusal) × (first_of limits J e ≡ Some why))

-- only where the answer is that an entry is refused there may be one, and that is refused after those of the journal
abbrev pub IsRefused : List Entry → Option AuditError → Option Entry → Type 0
IsRefused J (Some (audit.Refused place why)) refused = IsBarred J refused
IsRefused J _ refused = refused ≡ None

-- a page of some entries is written, whose last step has the entry that is refused, where there is one, with some chart
-- where the form has one; of another form nothing is said
abbrev pub IsPage : Form → List Entry → Option AuditError → Option (List ℕ) → Option (List ℕ) → Type 0
IsPage (form.Page window) J answer old new = (refused : Option Entry) × IsRefused J answer refused
    × WritesPage old new window J answer refused None
IsPage (form.TimedPage durations window) J answer old new =
    (refused : Option Entry) × IsRefused J answer refused × (chart : Bor (List ℕ))
    × WritesPage old new window J answer refused (Some chart)
IsPage _ J answer old new = ⊤

-- a page is that of a text's good entries, with the answer's line where the text isn't legal
abbrev pub ShowsPage : Form → Option (List ℕ) → Option (List ℕ) → List Row → Type 0
ShowsPage form old new rows =
    (J : List Entry) × (answer : Result (ℕ × Totals) AuditError) × Due rows answer × IsBefore answer J
    × SpellsFirst J rows
    × IsPage form J (result_err answer) old new

-- a form in which only journals of so many entries are shown
abbrev pub HasBound : Form → Type 0
HasBound (form.Chart durations) = ⊤
HasBound form.Moving = ⊤
HasBound _ = ⊥

-- a text has fewer good entries than a page begins after, or too many for a form that isn't a page
abbrev pub HasNoPage : Form → List Row → Type 0
HasNoPage form rows = (why : ShowError) × (why ≢ error.WriteFault) × AsksPast None (start_of form) why
    × (why ≡ error.TooManyEntries → HasBound form) × TellsEntries why rows

-- the page of another journal: that of its good entries, or a line in its place where it has none
abbrev pub IsOther : Form → List ℕ → List Row → Type 0
IsOther form page rows = ShowsPage form (Some []) (Some page) rows ⊎ HasNoPage form rows

-- two pages were written into one, each behind its name: that of a text's good entries, and that of another text
abbrev pub ShowsBeside : Form → List ℕ → List ℕ → List Row → Option (List ℕ) → Option (List ℕ) → List Row → Type 0
ShowsBeside form first_name second_name others old new rows =
    (first : List ℕ) × (second : List ℕ) × WritesBeside old new first_name second_name first second
    × ShowsPage form (Some []) (Some first) rows × IsOther form second others

-- what holds of the text that a reader tells, or of some text where it tells none
abbrev pub OfReader : Option (List ℕ) → (List ℕ → Type 0) → Type 0
OfReader known P = (text : List ℕ) × IfSome known (λ told. told ≡ text) × P text

-- what is answered where the cell is shown by the records of a text: the status that is due, and as many good entries
-- as were asked for, and as a page begins after, of which something is written; or why nothing is
abbrev pub ShownOf : List Row → Option ℕ → ℕ → (List Row → Type 0) → Result ℕ ShowError → Type 0
ShownOf rows entry start Written (Ok status) = TellsStatus (Some rows) status
    × (status ≤ 1 → HasEntry entry start rows × Written rows)
ShownOf rows entry start Written (Err why) = TellsEntries why rows

-- some text is shown
abbrev pub ShowsSome : Form → Option ℕ → Option (List ℕ) → Option (List ℕ) → Result ℕ ShowError → Type 0
ShowsSome form entry old new answer =
    (text : List ℕ) × ShownOf (rows_of text) entry (start_of form) (ShowsPage form old new) answer

-- some text is shown beside another one
abbrev pub ShowsSomeBeside : Form → Option ℕ → List ℕ → List ℕ → Option (List ℕ) → Option (List ℕ)
    → Option (List ℕ) → Result ℕ ShowError → Type 0
ShowsSomeBeside form entry first_name second_name other old new answer =
    (text : List ℕ)
    × OfReader other (λ others. ShownOf (rows_of text) entry (start_of form)
    (ShowsBeside form first_name second_name (rows_of others) old new) answer)

-- the word for so many entries
abbrev pub entries_word : ℕ → List ℕ
entries_word n = if n == 1 then codes "entry" else codes "entries"

-- what is printed of an error
abbrev pub error_text : ShowError → List ℕ
error_text (error.NoSuchEntry n) = codes "NoSuchEntry: the journal has " ++ (decimal n ++ (codes " " ++ entries_word n))
error_text error.TooManyEntries = codes "TooManyEntries: such a picture shows at most "
    ++ (decimal 20000 ++ codes " entries; of a longer journal --html --from N --count M shows a part")
error_text error.WriteFault = codes "WriteFault"
