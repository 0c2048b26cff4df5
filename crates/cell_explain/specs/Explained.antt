-- How the explaining of a text ends
use Rattle.std.specs.Prelude.{◌≡◌, ℕ, List, Result}
use Rattle.cell_types.specs.declared.words.Totals.{Totals}
use Rattle.cell_audit.specs.declared.error.AuditError.{AuditError}
use Rattle.cell_audit.specs.Lines.{IsAnswer, status_of}
use Rattle.cell_settings.specs.Checked.{status_of as check_status}
use Rattle.cell_settings.specs.Settings.{AnswersText, Numbers}
use Rattle.cell_settings.specs.declared.error.SettingsError.{SettingsError}
use Rattle.cell_rows.specs.Rows.{rows_of}
use Rattle.cell_rows.specs.Scripts.{Gives, Reading, lines_of}
use Rattle.cell_rows.specs.declared.script.LineError.{LineError}
use Rattle.cell_sim.specs.Script.{next_fault}
use Rattle.operator_desk.specs.Lines.{line_of}
use Rattle.cell_explain.specs.Scripts.{script_ends}

-- the status is that of an answer that an audit may give to the text
abbrev pub EndsAsAudit : List ℕ → ℕ → Type 0
EndsAsAudit text status = (answer : Result (ℕ × Totals) AuditError) × IsAnswer text answer × (status ≡ status_of answer)

-- the status is that of an answer to the settings
abbrev pub EndsAsCheck : List ℕ → ℕ → Type 0
EndsAsCheck text status = (answer : Result Numbers SettingsError) × AnswersText text answer
    × (status ≡ check_status answer)

-- the status is that of an answer to a script whose lines are read so
abbrev pub EndsAsLines : {L : Type 0} → Reading L → List ℕ → ℕ → Type 0
EndsAsLines {L} read text status = (answer : Result (List L) LineError) × Gives answer (lines_of read (rows_of text))
    × (status ≡ script_ends answer)

-- the status is that of an answer to the script of faults
abbrev pub EndsAsFaults : List ℕ → ℕ → Type 0
EndsAsFaults text status = EndsAsLines next_fault text status

-- the status is that of an answer to the operator's script
abbrev pub EndsAsScript : List ℕ → ℕ → Type 0
EndsAsScript text status = EndsAsLines line_of text status
