-- The line that tells what a machine shows
use Rattle.std.specs.Prelude.{ℕ, ◌+◌, Bool, true, false, List, [], ◌∷◌, ◌++◌, Option, Some, None, codes, decimal}
use Rattle.std.specs.Prelude.{slice_index, if◌then◌else◌}
use Rattle.cell_rows.specs.Lines.{line}
use Rattle.cell_types.specs.Sensors.{presence_words, switch_words}
use Rattle.cell_types.specs.Texts.{machine_word}
use Rattle.cell_types.specs.declared.words.Axis.{Axis}
use Rattle.cell_types.specs.declared.words.Axis.TheVariants as axis
use Rattle.cell_types.specs.declared.words.Machine.{Machine}
use Rattle.cell_types.specs.declared.words.Machine.TheVariants as machine
use Rattle.cell_diagnosis.specs.Readings.{bit}
use Rattle.cell_diagnosis.specs.declared.reading.Reading.{Reading}
use Rattle.cell_method.specs.Lines.{Row}

-- the sign before a word that comes after another one
abbrev pub sign_after : Bool → List ℕ
sign_after true = codes "+"
sign_after false = []

-- the words whose bits a byte has, the first at bit i, with a plus between them
unfoldable pub shown_after : Bool → ℕ → ℕ → List (List ℕ) → List ℕ
shown_after is_after byte i [] = []
shown_after is_after byte i (word ∷ words) =
    if bit byte i then (sign_after is_after ++ word) ++ shown_after true byte (i + 1) words else shown_after is_after
    byte (i + 1) words

abbrev pub shown : ℕ → List (List ℕ) → List ℕ
shown byte words = shown_after false byte 0 words

-- the poses that each axis of a machine shows, with a slash between them
abbrev pub switches_text : Machine → Reading → List ℕ
switches_text machine.Feed r = []
switches_text machine.Table r = shown (slice_index r.switches 0) (switch_words axis.TableLift) ++ 47
    ∷ shown (slice_index r.switches 1) (switch_words axis.TableTurn)
switches_text machine.Robot r =
    shown (slice_index r.switches 0) (switch_words axis.RobotTurn) ++ 47
    ∷ (shown (slice_index r.switches 1) (switch_words axis.ArmOne)
    ++ 47 ∷ shown (slice_index r.switches 2) (switch_words axis.ArmTwo))
switches_text machine.Press1 r = shown (slice_index r.switches 0) (switch_words axis.PressOne)
switches_text machine.Press2 r = shown (slice_index r.switches 0) (switch_words axis.PressTwo)
switches_text machine.Deposit r = []

abbrev pub reading_row : Machine → Option Reading → Row
reading_row m None = codes "missing" ∷ machine_word m ∷ [] ∷ [] ∷ []
reading_row m (Some r) = codes "reading" ∷ machine_word m ∷ switches_text m r ∷ shown r.presence (presence_words m) ∷ []

-- the line of a reading
abbrev pub reading_line : Machine → Option Reading → List ℕ
reading_line m r = line (reading_row m r)

-- the line that opens a round
abbrev pub round_line : ℕ → List ℕ
round_line n = line (codes "round" ∷ decimal n ∷ [] ∷ [] ∷ [])
