-- Which states of a journal a page shows, by the words of the command line
use Rattle.std.specs.Prelude.{◌≡◌, ◌⊎◌, ℕ, Bool, true, false, min, List, Option, Some, None}
use Rattle.std.specs.Borrow.{Bor}
use Rattle.cell_command.specs.Counts.{IsNumber}
use Rattle.cell_show.specs.declared.page.window.Window.{Window}
use Rattle.cell_show.specs.declared.show.Form.{Form}
use Rattle.cell_show.specs.declared.show.Form.TheVariants as form
use Rattle.cell_orders.specs.Numbers.{IsNoNumberIn, IsNumberIn}
use Rattle.cell_orders.specs.Texts.{IsGiven}

-- a word that is no number
abbrev pub IsNoNumber : Option (Bor (List ℕ)) → Type 0
IsNoNumber None = ⊥
IsNoNumber (Some word) = (n : ℕ) → IsNumber word.now n → ⊥

-- after how many entries a page begins: as many as a word says, or the greatest number of 32 bits where it says more
abbrev pub BeginsAfter : Option (Bor (List ℕ)) → ℕ → Type 0
BeginsAfter None start = start ≡ 0
BeginsAfter (Some word) start = (n : ℕ) × IsNumber word.now n × (start ≡ min n 4294967295)

-- how many entries a page shows: as many as a word says, up to 20,000
abbrev pub ShowsUpTo : Option (Bor (List ℕ)) → ℕ → Type 0
ShowsUpTo None count = count ≡ 20000
ShowsUpTo (Some word) count = IsNumberIn 0 20000 word.now count

-- a word says no number up to 20,000
abbrev pub IsNoCount : Option (Bor (List ℕ)) → Type 0
IsNoCount None = ⊥
IsNoCount (Some word) = IsNoNumberIn 0 20000 word.now

-- the words ask for these states
abbrev pub AsksWindow : Option (Bor (List ℕ)) → Option (Bor (List ℕ)) → Window → Type 0
AsksWindow from count window = BeginsAfter from window.from × ShowsUpTo count window.count

-- the words ask for none
abbrev pub AsksNoWindow : Option (Bor (List ℕ)) → Option (Bor (List ℕ)) → Type 0
AsksNoWindow from count = IsNoNumber from ⊎ IsNoCount count

-- whether a form is a page's
abbrev pub is_page : Form → Bool
is_page (form.Page window) = true
is_page (form.TimedPage durations window) = true
is_page _ = false

-- a page has the states that the words ask for, and another form is as it was
abbrev pub HasWindow : Option (Bor (List ℕ)) → Option (Bor (List ℕ)) → Form → Form → Type 0
HasWindow from count (form.Page old) (form.Page window) = AsksWindow from count window
HasWindow from count (form.TimedPage times old) (form.TimedPage same window) = (same ≡ times)
    × AsksWindow from count window
HasWindow from count asked shown = (shown ≡ asked) × (from ≡ None) × (count ≡ None)

-- the words ask for none, or for some where no page is asked for
abbrev pub HasNoWindow : Option (Bor (List ℕ)) → Option (Bor (List ℕ)) → Form → Type 0
HasNoWindow from count asked = AsksNoWindow from count ⊎ ((IsGiven from ⊎ IsGiven count) × (is_page asked ≡ false))
