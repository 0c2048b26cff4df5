-- What a page says of a journal
use Rattle.std.specs.Prelude.{ℕ, zero, suc, ◌+◌, Option, Some, None, List, [], ◌++◌, codes, decimal, length, take, ⊤}
use Rattle.std.specs.Borrow.{Bor}
use Rattle.std.specs.Io.KnownBytes.{Appends}
use Rattle.cell_types.specs.declared.words.Entry.{Entry}
use Rattle.cell_sentences.specs.Sentences.{entry_sentence}
use Rattle.cell_audit.specs.declared.error.AuditError.{AuditError}
use Rattle.cell_picture.specs.Answers.{answer_text}
use Rattle.cell_picture.specs.Told.{facts_told, last_of}
use Rattle.cell_show.specs.Refused.{refused_line}
use Rattle.cell_show.specs.Rows.{row_text}
use Rattle.cell_show.specs.Waits.{TellsWaits, waits_text}
use Rattle.cell_show.specs.Window.{answer_at, end_of, shown_of, window_data, window_line}
use Rattle.cell_show.specs.declared.page.error.PageError.{PageError}
use Rattle.cell_show.specs.declared.page.window.Window.{Window}
use Rattle.cell_show.specs.declared.page.error.PageError.TheVariants as error

-- an error as it is told
abbrev pub error_text : PageError → List ℕ
error_text error.TooManyEntries = codes "TooManyEntries"
error_text error.WriteFault = codes "WriteFault"

-- the row of a journal: what a picture shows of it, and its last entry
abbrev pub row_of : List Entry → List ℕ
row_of J = row_text (facts_told J) (last_of J)

-- the rows after so many of a journal's entries and after each of some more, each on a line of its own
unfoldable pub rows_on : List Entry → ℕ → ℕ → List ℕ
rows_on J from zero = row_of (take from J)
rows_on J from (suc more) = rows_on J from more ++ (codes ",\n" ++ row_of (take (from + suc more) J))

-- the rows of the states that are shown of a journal
abbrev pub rows_text : Window → List Entry → List ℕ
rows_text w J = rows_on J w.from (shown_of w (length J))

-- the last entry as it is told where no scripts run
abbrev pub last_text : Option Entry → List ℕ
last_text None = codes "Nothing is booked."
last_text (Some e) = codes "The last entry: " ++ entry_sentence e

-- what is shown where no scripts run, of the entries up to the last state
abbrev pub no_scripts_text : List Entry → List ℕ
no_scripts_text J =
    codes "<noscript><p class=\"answer\">This page needs scripts to show the states after "
    ++ (decimal (length J) ++ (codes " entries. "
    ++ (last_text (last_of J) ++ codes "</p></noscript>\n")))

-- the line of an answer, where there is one
abbrev pub answer_line : Option AuditError → List ℕ
answer_line None = []
answer_line (Some why) = codes "<p class=\"answer\">" ++ (answer_text why ++ codes "</p>\n")

-- the beginning of a chart's section
abbrev pub chart_start : List ℕ
chart_start =
    codes "<section class=\"chart\">\n<h2>The entries on an axis of time</h2>\n"
    ++ codes "<div tabindex=\"0\" style=\"overflow-x: auto\" onkeydown=\"event.stopPropagation()\">\n"

-- the section of a chart, where there is one
abbrev pub chart_section : Option (Bor (List ℕ)) → List ℕ
chart_section None = []
chart_section (Some chart) = chart_start ++ (chart.now ++ codes "</div>\n</section>\n")

-- the data of a page behind its words: its numbers, its last step, where it shows the last good entry, for what
-- machines wait, and its rows
abbrev pub data_text : List ℕ → Window → List Entry → Option AuditError → Option Entry → List ℕ
data_text waits w J answer refused =
    window_data w (length J) ++ (refused_line (answer_at w (length J) answer) refused
    ++ (waits_text waits ++ (codes "\"rows\":[\n" ++ rows_text w J)))

-- the data were written: with what machines wait for in each of the states
pub record WritesData (old new : Option (List ℕ)) (w : Window) (J : List Entry) (answer : Option AuditError)
    (refused : Option Entry) : Type 0 where
  pub waits : List ℕ
  pub waiting : TellsWaits J w.from (shown_of w (length J)) waits
  pub whole : Appends old new (data_text waits w J answer refused)

-- the text of a page, whose other parts are its head, its drawing, its lists, its middle, its words, what is waited for
-- and its scripts
abbrev pub page_text : List ℕ → List ℕ → List ℕ → List ℕ → List ℕ → List ℕ → List ℕ → Window → List Entry
    → Option AuditError → Option Entry → Option (Bor (List ℕ)) → List ℕ
page_text head drawing lists middle words waits scripts w J answer refused chart =
    head ++ (no_scripts_text (take (end_of w (length J)) J) ++ (drawing ++ (answer_line answer
    ++ (window_line w (length J) ++ (lists ++ (chart_section chart ++ (middle ++ (words
    ++ (data_text waits w J answer refused ++ scripts)))))))))

-- some text was written
pub record AppendsSome (old new : Option (List ℕ)) : Type 0 where
  pub text : List ℕ
  pub whole : Appends old new text

-- a page was written: the text of one with the rows of these states of a journal, with what machines wait for in each
-- of them, and with the last step of this answer and refused entry
pub record WritesPage (old new : Option (List ℕ)) (w : Window) (J : List Entry) (answer : Option AuditError)
    (refused : Option Entry) (chart : Option (Bor (List ℕ))) : Type 0 where
  pub head : List ℕ
  pub drawing : List ℕ
  pub lists : List ℕ
  pub middle : List ℕ
  pub words : List ℕ
  pub waits : List ℕ
  pub waiting : TellsWaits J w.from (shown_of w (length J)) waits
  pub scripts : List ℕ
  pub whole : Appends old new (page_text head drawing lists middle words waits scripts w J answer refused chart)

-- in what was written a text stands as it is
pub record HasText (old new : Option (List ℕ)) (text : List ℕ) : Type 0 where
  pub before : List ℕ
  pub after : List ℕ
  pub whole : Appends old new (before ++ (text ++ after))

-- a chart's text stands in what was written, where there is a chart
abbrev pub ShowsChart : Option (List ℕ) → Option (List ℕ) → Option (Bor (List ℕ)) → Type 0
ShowsChart old new None = ⊤
ShowsChart old new (Some chart) = HasText old new chart.now
