-- What is written of every order of events, by the words of the command line
use Rattle.std.specs.Prelude.{◌≡◌, ◌⊎◌, ℕ, Bool, false, List, Option, Result, Ok, IfOk}
use Rattle.cell_output.specs.declared.watched.WriteFault.{WriteFault}
use Rattle.cell_command.specs.declared.order.Exploring.{Exploring}
use Rattle.cell_types.specs.declared.words.Entry.{Entry}
use Rattle.cell_explore.specs.Moves.{is_stuck}
use Rattle.cell_explore.specs.Printed.{TellsSearch}
use Rattle.cell_explore.specs.Told.{IsPossible, cell_told, opening_of}
use Rattle.cell_explore.specs.declared.question.Question.{Question}
use Rattle.cell_orders.specs.Asked.{Asks, AsksNothing}
use Rattle.cell_orders.specs.Texts.{IsWrong}

-- no list of entries that can happen one after another, whatever their order, leaves the cell stuck
abbrev pub IsNeverStuck : Question → Type 0
IsNeverStuck q = (es : List Entry) → IsPossible q (opening_of q) es → is_stuck q (cell_told q es) ≡ false

-- what is written of every order of events for a question, and what status 0 says
abbrev pub Explores : Question → ℕ → Bool → Option (List ℕ) → Option (List ℕ) → Result ℕ WriteFault → Type 0
Explores q limit journal old new written = IfOk written (TellsSearch q limit journal old new)
    × (written ≡ Ok 0 → IsNeverStuck q)

-- what is written of every order of events for the words of its command: for the question that they ask; or a word is
-- wrong, a line among the errors says so, and nothing is printed
abbrev pub ExploresWords : Exploring → Option (List ℕ) → Option (List ℕ) → Option (List ℕ) → Option (List ℕ)
    → Result ℕ WriteFault → Type 0
ExploresWords exploring old new old_errors new_errors written =
    ((question : Question) × (limit : ℕ) × Asks exploring question limit
    × Explores question limit exploring.journal old new written)
    ⊎ (AsksNothing exploring × ((status : ℕ) × (written ≡ Ok status) × IsWrong old new old_errors new_errors status))
