-- What the texts of a run say, and what is printed of the first that is refused
use Rattle.std.specs.Prelude.{◌≡◌, ℕ, List, [], Option, Result, Ok, Err, codes, ⊤}
use Rattle.std.specs.Io.KnownBytes.{Appends}
use Rattle.cell_measures.specs.declared.durations.Durations.{Durations}
use Rattle.cell_rows.specs.Rows.{rows_of}
use Rattle.cell_rows.specs.Scripts.{Gives, lines_of, script_status}
use Rattle.cell_rows.specs.declared.script.LineError.{LineError}
use Rattle.cell_rows.specs.declared.script.LineError.TheVariants as error
use Rattle.cell_output.specs.Numbers.{number_line}
use Rattle.cell_settings.specs.Settings.{AnswersText, Numbers, plan_numbers}
use Rattle.cell_settings.specs.Checked.{error_line, error_status}
use Rattle.cell_sim.specs.Script.{next_fault}
use Rattle.cell_sim.specs.declared.fault.PlannedFault.{PlannedFault}
use Rattle.operator_desk.specs.Lines.{line_of}
use Rattle.operator_desk.specs.declared.line.Line.{Line}
use Rattle.cell_runs.specs.declared.inputs.Inputs.{Inputs}
use Rattle.cell_runs.specs.declared.inputs.InputError.{InputError}
use Rattle.cell_runs.specs.declared.inputs.InputError.TheVariants as input

-- settings with these numbers
abbrev pub AreSettings : List ℕ → Numbers → Type 0
AreSettings text numbers = AnswersText text (Ok numbers)

-- a script with these faults
abbrev pub AreFaults : List ℕ → List PlannedFault → Type 0
AreFaults text faults = lines_of next_fault (rows_of text) ≡ Ok faults

-- a script with these lines of the operator
abbrev pub AreLines : List ℕ → List Line → Type 0
AreLines text lines = lines_of line_of (rows_of text) ≡ Ok lines

-- what three texts say, or the first that is refused, in the order settings, faults, operator
abbrev pub AreInputs : List ℕ → List ℕ → List ℕ → Result Inputs InputError → Type 0
AreInputs settings faults operator (Ok inputs) =
    AreSettings settings (plan_numbers inputs.plan) × AreFaults faults inputs.faults × AreLines operator inputs.script
AreInputs settings faults operator (Err (input.Settings e)) = AnswersText settings (Err e)
AreInputs settings faults operator (Err (input.Faults e)) =
    (numbers : Numbers) × AreSettings settings numbers × Gives (Err e) (lines_of next_fault (rows_of faults))
AreInputs settings faults operator (Err (input.Operator e)) =
    (numbers : Numbers) × AreSettings settings numbers
    × ((planned : List PlannedFault) × AreFaults faults planned × Gives (Err e) (lines_of line_of (rows_of operator)))

-- what is read besides: how many readings motions take
abbrev pub Takes : Durations → Result Inputs InputError → Type 0
Takes timing (Ok inputs) = inputs.durations ≡ timing
Takes timing (Err e) = ⊤

-- what three texts say whose motions take so many readings, or the first that is refused
abbrev pub AreRead : Durations → List ℕ → List ℕ → List ℕ → Result Inputs InputError → Type 0
AreRead timing settings faults operator inputs = AreInputs settings faults operator inputs × Takes timing inputs

-- a refused script's line, by its words for a record that is no line and for too many lines
abbrev pub script_line : List ℕ → List ℕ → LineError → List ℕ
script_line unread long (error.Unreadable i) = number_line unread i
script_line unread long error.TooManyLines = long
script_line unread long error.OutOfMemory = []

abbrev pub fault_line : LineError → List ℕ
fault_line e = script_line (codes "faults unreadable") (codes "faults too long\n") e

abbrev pub operator_line : LineError → List ℕ
operator_line e = script_line (codes "operator unreadable") (codes "operator too long\n") e

-- the line of a text that is refused, and the status
abbrev pub input_line : InputError → List ℕ
input_line (input.Settings e) = error_line e
input_line (input.Faults e) = fault_line e
input_line (input.Operator e) = operator_line e

abbrev pub input_status : InputError → ℕ
input_status (input.Settings e) = error_status e
input_status (input.Faults e) = script_status e
input_status (input.Operator e) = script_status e

-- an error's line was written, and this is its status
abbrev pub WritesError : Option (List ℕ) → Option (List ℕ) → List ℕ → ℕ → ℕ → Type 0
WritesError old new line wanted status = Appends old new line × (status ≡ wanted)
