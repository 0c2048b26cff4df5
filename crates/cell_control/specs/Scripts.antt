-- Which lines of a script a run still has to do
use Rattle.std.specs.Prelude.{◌≡◌, ℕ, Bool, true, false, List, drop}
use Rattle.cell_types.specs.declared.words.Entry.{Entry}
use Rattle.operator_desk.specs.declared.line.Line.{Line}
use Rattle.cell_explain.specs.Waiting.{Leaves}
use Rattle.cell_runs.specs.Inputs.{AreLines}

-- the lines that a run has to do: all of the script, of a new one; of one that goes on from a journal the last part of
-- the script, and if the operator's text has the script's lines, those that the journal leaves
abbrev pub AreDue : Bool → List ℕ → List Entry → List Line → List Line → Type 0
AreDue false text J script lines = lines ≡ script
AreDue true text J script lines = (n : ℕ) × (lines ≡ drop n script) × (AreLines text script → Leaves script J lines)
