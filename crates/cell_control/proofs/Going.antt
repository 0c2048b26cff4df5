-- A text has the lines of one script
use Rattle.std.proofs.Common.{◌≡◌, ◌∙◌, [], ℕ, List, sym, subst, drop, ap}
use Rattle.std.specs.Prelude.{Err, Ok, Result}
use Rattle.cell_rows.specs.Rows.{rows_of}
use Rattle.cell_rows.specs.Scripts.{lines_of}
use Rattle.cell_rows.specs.declared.script.LineError.{LineError}
use Rattle.cell_types.specs.declared.words.Entry.{Entry}
use Rattle.cell_runs.specs.Inputs.{AreLines}
use Rattle.operator_desk.specs.Lines.{line_of}
use Rattle.operator_desk.specs.declared.line.Line.{Line}
use Rattle.cell_explain.specs.Waiting.{Leaves}

abbrev lines_in : Result (List Line) LineError → List Line
lines_in (Ok lines) = lines
lines_in (Err e) = []

-- what is left of the lines that were read is left of the script
pub left-due : (text : List ℕ) (script read left : List Line) (J : List Entry) (n m : ℕ) → n ≡ m
    → left ≡ drop n script → lines_of line_of (rows_of text) ≡ Ok read → AreLines text script
    → Leaves read J (drop m read) → Leaves script J left
left-due text script read left J n m is kept exact says leaves =
    let one : read ≡ script = ap lines_in (sym exact ∙ says) in
    let due : Leaves script J (drop m script) =
    subst (λ (lines : List Line). Leaves lines J (drop m lines)) one leaves in
    rw (kept, is) due
