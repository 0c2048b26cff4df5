-- What is written where a journal is shown, by the words of the command line
use Rattle.std.specs.Prelude.{◌≡◌, ◌≢◌, ◌⊎◌, ◌<◌, ◌≤◌, ℕ, Bool, true, false, List, Option, Some, None, Ok, IfSome, ⊤}
use Rattle.std.specs.Borrow.{Bor}
use Rattle.cell_audit.specs.Migrated.{rows_in}
use Rattle.cell_command.specs.Counts.{Counts, IsNumber}
use Rattle.cell_command.specs.declared.count.Count.{Count}
use Rattle.cell_command.specs.declared.order.Showing.{Showing}
use Rattle.cell_show.specs.Shown.{AsksPast, HasEntry, TellsEntries, TellsStatus, start_of}
use Rattle.cell_show.specs.Window.{first_window}
use Rattle.cell_show.specs.declared.error.ShowError.{ShowError}
use Rattle.cell_show.specs.declared.show.Form.{Form}
use Rattle.cell_orders.specs.declared.show.Timed.{Timed}
use Rattle.cell_orders.specs.Texts.{OfText, IsWrong, IsGiven, TellsTimes}
use Rattle.cell_orders.specs.Windows.{BeginsAfter, HasNoWindow, HasWindow, IsNoNumber, is_page}
use Rattle.cell_show.specs.declared.error.ShowError.TheVariants as error
use Rattle.cell_show.specs.declared.show.Form.TheVariants as form
use Rattle.cell_orders.specs.declared.show.Timed.TheVariants as timed

-- the form that the flags for a picture, a page and box-drawing characters ask for, if they ask for one alone; a page
-- has the first states
abbrev pub form_of : Bool → Bool → Bool → Option Form
form_of false false false = Some form.Text
form_of false false true = Some form.Unicode
form_of true false false = Some form.Picture
form_of false true false = Some (form.Page first_window)
form_of _ _ _ = None

-- the cell is shown as a text's good entries left it, or so many of them
abbrev pub IsShown : Option ℕ → ℕ → Option (List ℕ) → Option (List ℕ) → Option (List ℕ) → ℕ → Type 0
IsShown entry start text old new status = TellsStatus (rows_in text) status × (1 < status → new ≡ old)
    × (status ≤ 1 → IfSome (rows_in text) (HasEntry entry start))

-- a text has fewer good entries than these, or than a page begins after, or too many for a picture
abbrev pub HasNone : Option ℕ → ℕ → Option (List ℕ) → Type 0
HasNone entry start text = (why : ShowError) × (why ≢ error.WriteFault) × AsksPast entry start why
    × IfSome (rows_in text) (TellsEntries why)

-- the cell is shown; or the text hasn't got what was asked for, which is told
abbrev pub Shows : Option ℕ → ℕ → Option (List ℕ) → Option (List ℕ) → Option (List ℕ) → Option (List ℕ)
    → Option (List ℕ) → ℕ → Type 0
Shows entry start text old new old_errors new_errors status =
    IsShown entry start text old new status
    ⊎ (IsWrong old new old_errors new_errors status × HasNone entry start text)

-- the same of some text
abbrev pub ShowsSome : Option ℕ → ℕ → Option (List ℕ) → Option (List ℕ) → Option (List ℕ) → Option (List ℕ) → ℕ
    → Type 0
ShowsSome entry start old new old_errors new_errors status =
    (text : List ℕ) × Shows entry start (Some text) old new old_errors new_errors status

-- a number of entries, or all of them, is that of a count
abbrev pub IsAsked : Option Count → Option ℕ → Type 0
IsAsked None entry = entry ≡ None
IsAsked (Some count) entry = (n : ℕ) × (entry ≡ Some n) × Counts count n

-- the number of entries that a word asks for, or all where there is none
abbrev pub AsksFor : Option (Bor (List ℕ)) → Option ℕ → Type 0
AsksFor None entry = entry ≡ None
AsksFor (Some word) entry = (n : ℕ) × (entry ≡ Some n) × IsNumber word.now n

-- as many entries are shown as a word says, or all, of a form that begins after so many; or the word is no number
abbrev pub ShowsEntry : Showing → ℕ → Option (List ℕ) → Option (List ℕ) → Option (List ℕ) → Option (List ℕ)
    → Option (List ℕ) → ℕ → Type 0
ShowsEntry showing start input old new old_errors new_errors status =
    ((entry : Option ℕ) × AsksFor showing.entry entry
    × OfText showing.file input (λ text. Shows entry start text old new old_errors new_errors status))
    ⊎ (IsWrong old new old_errors new_errors status × IsNoNumber showing.entry)

-- the same with the states that words ask for; or these are wrong
abbrev pub ShowsWindow : Showing → Form → Option (List ℕ) → Option (List ℕ) → Option (List ℕ) → Option (List ℕ)
    → Option (List ℕ) → ℕ → Type 0
ShowsWindow showing asked input old new old_errors new_errors status =
    ((shown : Form) × HasWindow showing.from showing.count asked shown × BeginsAfter showing.from (start_of shown)
    × ShowsEntry showing (start_of shown) input old new old_errors new_errors status)
    ⊎ (IsWrong old new old_errors new_errors status × HasNoWindow showing.from showing.count asked)

-- whether durations go with a form, which they change
abbrev pub takes_times : Form → Bool
takes_times form.Picture = true
takes_times (form.Page window) = true
takes_times _ = false

-- durations are given, and neither a picture nor a page is asked for, or not it alone
abbrev pub IsLoose : Option (Bor (List ℕ)) → Option Form → Type 0
IsLoose times asked = IsGiven times × IfSome asked (λ f. takes_times f ≡ false)

-- another journal is to be shown beside, and no page is asked for
abbrev pub IsAlone : Option (Bor (List ℕ)) → Option Form → Type 0
IsAlone beside asked = IsGiven beside × IfSome asked (λ f. is_page f ≡ false)

-- the form with some durations: a chart for a picture, and for a page one with a chart and the same states
abbrev pub HasTimes : Form → Form → Type 0
HasTimes form.Picture (form.Chart durations) = ⊤
HasTimes (form.Page window) (form.TimedPage durations same) = same ≡ window
HasTimes _ _ = ⊥

-- the form that is shown, which is the one that is asked for unless durations are given, and whether they go with it
abbrev pub IsTimed : Option (Bor (List ℕ)) → Form → Timed → Type 0
IsTimed None asked (timed.Form shown) = shown ≡ asked
IsTimed (Some path) asked (timed.Form shown) = HasTimes asked shown
IsTimed times asked (timed.Refused line) = IsGiven times
IsTimed times asked timed.Loose = IsLoose times (Some asked)

-- the flags ask for one form, which is this one with the durations that are given
abbrev pub IsAskedAs : Showing → Form → Type 0
IsAskedAs showing shown = (asked : Form) × (form_of showing.svg showing.html showing.unicode ≡ Some asked)
    × IsTimed showing.times asked (timed.Form shown)

-- the flags ask for one form, in which a journal is shown; or the durations are refused; or the flags are wrong
abbrev pub ShowsStill : Showing → Option (List ℕ) → Option (List ℕ) → Option (List ℕ) → Option (List ℕ)
    → Option (List ℕ) → ℕ → Type 0
ShowsStill showing input old new old_errors new_errors status =
    ((shown : Form) × IsAskedAs showing shown
    × ShowsWindow showing shown input old new old_errors new_errors status)
    ⊎ ((IsGiven showing.times × TellsTimes old new (Ok status))
    ⊎ (IsWrong old new old_errors new_errors status × ((form_of showing.svg showing.html showing.unicode ≡ None)
    ⊎ (IsLoose showing.times (form_of showing.svg showing.html showing.unicode)
    ⊎ IsAlone showing.beside (form_of showing.svg showing.html showing.unicode)))))

-- something is asked for that doesn't go with a journal that plays: no picture, or not it alone, or another option
abbrev pub IsMixed : Option Form → Option (Bor (List ℕ)) → Option (Bor (List ℕ)) → Option (Bor (List ℕ))
    → Option (Bor (List ℕ)) → Option (Bor (List ℕ)) → Type 0
IsMixed asked times beside file from count = (asked ≢ Some form.Picture)
    ⊎ (IsGiven times ⊎ (IsGiven beside ⊎ (IsGiven file ⊎ (IsGiven from ⊎ IsGiven count))))

-- a picture is asked for, in which the journal of a file plays; or something is asked for that doesn't go with it
abbrev pub Plays : Bor (List ℕ) → Showing → Option (List ℕ) → Option (List ℕ) → Option (List ℕ) → Option (List ℕ)
    → Option (List ℕ) → ℕ → Type 0
Plays path showing input old new old_errors new_errors status =
    ShowsEntry (record showing { file = Some path }) 0 input old new old_errors new_errors status
    ⊎ (IsWrong old new old_errors new_errors status
    × IsMixed (form_of showing.svg showing.html showing.unicode) showing.times showing.beside showing.file showing.from
    showing.count)

-- what is written where a journal is to play, and where it isn't
abbrev pub ShowsAsked : Option (Bor (List ℕ)) → Showing → Option (List ℕ) → Option (List ℕ) → Option (List ℕ)
    → Option (List ℕ) → Option (List ℕ) → ℕ → Type 0
ShowsAsked None showing = ShowsStill showing
ShowsAsked (Some path) showing = Plays path showing

-- a journal is shown, or plays, by the words of the command line
abbrev pub ShowsWords : Showing → Option (List ℕ) → Option (List ℕ) → Option (List ℕ) → Option (List ℕ)
    → Option (List ℕ) → ℕ → Type 0
ShowsWords showing = ShowsAsked showing.animate showing
