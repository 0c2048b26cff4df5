-- What the status says of journals that are measured
use Rattle.std.specs.Prelude.{ℕ, ◌≡◌, ⊤, All, Bool, true, false, List, length, MatchOption, Option, Some, None}
use Rattle.cell_types.specs.declared.words.Totals.{Totals}
use Rattle.cell_rows.specs.Rows.{rows_of}
use Rattle.cell_audit.specs.Meaning.{SpellsLegal}
use Rattle.cell_command.specs.declared.order.Measuring.{Measuring}
use Rattle.cell_orders.specs.declared.measure.Found.{Found}
use Rattle.cell_orders.specs.declared.measure.Found.TheVariants as found
use Rattle.cell_orders.specs.declared.measure.MeasureForm.{MeasureForm}
use Rattle.cell_orders.specs.declared.measure.MeasureForm.TheVariants as form
use Rattle.cell_orders.specs.Texts.{IsWrong}

-- a text spells a legal journal
abbrev pub IsLegalText : List ℕ → Type 0
IsLegalText text = (number : ℕ) × (totals : Totals) × SpellsLegal (rows_of text) number totals

-- there is a text that spells a legal journal
abbrev pub HasLegalText : Type 0
HasLegalText = (text : List ℕ) × IsLegalText text

-- only a journal that has a legal text is measured
abbrev pub IsFound : Found → Type 0
IsFound (found.Legal measures) = HasLegalText
IsFound (found.Refused line) = ⊤

-- there are so many legal texts
abbrev pub AreLegal : ℕ → Type 0
AreLegal count = (texts : List (List ℕ)) × (length texts ≡ count) × All IsLegalText texts

-- status 0 comes only where the files that are named had legal texts
abbrev pub MeasuresJournals : Measuring → ℕ → Type 0
MeasuresJournals measuring status = status ≡ 0 → AreLegal (length measuring.journals.items)

-- the form that the flags of CSV and of a picture ask for, if they ask for one alone; with no flag it is a table
abbrev pub form_asked : Bool → Bool → Option MeasureForm
form_asked false false = Some form.Table
form_asked true false = Some form.Csv
form_asked false true = Some form.Picture
form_asked true true = None

-- the words ask for one form, and status 0 comes only where the journals are legal; or they ask for two, a line among
-- the errors says so, and nothing is printed
abbrev pub MeasuresWords : Measuring → Option (List ℕ) → Option (List ℕ) → Option (List ℕ) → Option (List ℕ) → ℕ
    → Type 0
MeasuresWords measuring old new old_errors new_errors status = MatchOption (form_asked measuring.csv measuring.svg)
    (IsWrong old new old_errors new_errors status) (λ asked. MeasuresJournals measuring status)
