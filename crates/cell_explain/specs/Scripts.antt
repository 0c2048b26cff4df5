-- What is said of a script's text
use Rattle.std.specs.Prelude.{◌≡◌, ◌⊎◌, ◌-◌, ℕ, List, [], length, Result, Ok, Err, codes}
use Rattle.cell_rows.specs.Rows.{rows_of}
use Rattle.cell_rows.specs.Scripts.{Gives, Reading, lines_of, script_status}
use Rattle.cell_rows.specs.declared.script.LineError.{LineError}
use Rattle.cell_rows.specs.declared.script.LineError.TheVariants as error
use Rattle.cell_explain.specs.Places.{HasLine}
use Rattle.cell_explain.specs.Sayings.{good_line, long_line}
use Rattle.cell_explain.specs.Told.{SaysNothing, SaysRecord}

-- the status of an answer to a script
abbrev pub script_ends : {L : Type 0} → Result (List L) LineError → ℕ
script_ends (Ok lines) = 0
script_ends (Err e) = script_status e

-- what is said of a script of this name by the answer of its reading: how many lines it has, or the first record that
-- is no line, or where the first of too many lines begins
abbrev pub SaysLines : {L : Type 0} → List ℕ → List ℕ → Result (List L) LineError → List ℕ → Type 0
SaysLines name text (Ok lines) saying = saying ≡ good_line name (length lines)
SaysLines name text (Err (error.Unreadable place)) saying = SaysRecord text (codes "record") (place - 1) place saying
SaysLines name text (Err error.TooManyLines) saying = (line : ℕ) × HasLine text 1000 line × (saying ≡ long_line line)
SaysLines name text (Err error.OutOfMemory) saying = saying ≡ []

-- what is said by an answer to a script, with its status; nothing where memory is refused, also later
abbrev pub SaysAnswer : {L : Type 0} → List ℕ → List ℕ → Result (List L) LineError → ℕ → List ℕ → Type 0
SaysAnswer name text answer status saying = (SaysLines name text answer saying × (status ≡ script_ends answer))
    ⊎ SaysNothing status saying

-- what is said of a script's text with a status: by the answer that is due to its records, unless memory was refused
abbrev pub SaysScript : {L : Type 0} → List ℕ → Reading L → List ℕ → ℕ → List ℕ → Type 0
SaysScript {L} name read text status saying =
    (answer : Result (List L) LineError) × Gives answer (lines_of read (rows_of text))
    × SaysAnswer name text answer status saying
