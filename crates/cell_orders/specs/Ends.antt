-- Whether a record goes on behind a text
use Rattle.std.specs.Prelude.{◌≡◌, ◌<◌, ◌+◌, ◌++◌, ◌∷◌, [], ℕ, Bool, true, false, List, Option, Result, Err, option_map}
use Rattle.std.specs.Prelude.{length}
use Rattle.csv.specs.Reading.{Ready, default_config, is_flexible, reader_config, reader_state, reader_trim, source_of}
use Rattle.csv.specs.declared.reader.Reader.{Reader}
use Rattle.csv.specs.declared.reader.Trim.TheVariants as trim
use Rattle.cell_rows.specs.Rows.{Row, rows_from, rows_of}
use Rattle.cell_rows.specs.declared.script.LineError.{LineError}
use Rattle.cell_rows.specs.declared.script.LineError.TheVariants as script
use Rattle.cell_types.specs.declared.words.Totals.{Totals}
use Rattle.cell_audit.specs.declared.error.AuditError.{AuditError}
use Rattle.cell_audit.specs.declared.error.AuditError.TheVariants as audit

-- with one byte more, which begins a record where none goes on, no record comes after the one of this number, counted
-- from 0
abbrev pub GoesOn : List ℕ → ℕ → Type 0
GoesOn text number = length (rows_of (text ++ 120 ∷ [])) < number + 2

-- a journal's text was cut within the record of an entry that can't be read
abbrev pub CutsEntry : Bool → Result (ℕ × Totals) AuditError → List ℕ → Type 0
CutsEntry is_whole answer bytes = (is_whole ≡ false) × (number : ℕ) × (0 < number)
    × (answer ≡ Err (audit.Unreadable number)) × GoesOn bytes number

-- a script was cut within its first record that is no line, by the answer to what was read
abbrev pub CutsLine : {L : Type 0} → Bool → Result (List L) LineError → List ℕ → Type 0
CutsLine is_whole answer bytes = (is_whole ≡ false) × (number : ℕ) × (answer ≡ Err (script.Unreadable (number + 1)))
    × GoesOn bytes number

-- a reader of csv is set up as texts are read here
abbrev pub IsSetUp : {R : Type 0} → Reader R → Type 0
IsSetUp reader = (reader_trim reader ≡ trim.None) × Ready reader × (reader_config reader ≡ default_config)
    × (is_flexible reader ≡ true)

-- the records that it goes on with, where its bytes are known
abbrev pub rows_to_come : {R : Type 0} → (R → Option (List ℕ)) → Reader R → Option (List Row)
rows_to_come rem reader = option_map (rows_from (reader_state reader)) (source_of rem reader)
