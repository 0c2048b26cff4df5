-- A run in rounds of a cell that tells what it is asked, and of the simulated cell
use Rattle.std.specs.Prelude.{◌≡◌, Bool, true, false, None, List}
use Rattle.cell_types.specs.declared.words.Entry.{Entry}
use Rattle.cell_rules.specs.declared.limits.BookLimits.{BookLimits}
use Rattle.cell_ports.specs.declared.plan.Plan.{Plan}
use Rattle.cell_plant.specs.Asked.{Asked}
use Rattle.cell_plant.specs.PlantLogs.{is_ported}
use Rattle.cell_plant.specs.declared.keeper.Unkept.{Unkept}
use Rattle.cell_workers.specs.declared.ends.End.{End}
use Rattle.cell_rounds.specs.Moves.{terms_of}
use Rattle.cell_rounds.specs.Runs.{Controlled, end_of}
use Rattle.cell_rounds.specs.declared.progress.Halt.{Halt}
use Rattle.operator_desk.specs.declared.line.Line.{Line}
use Rattle.sim_plant.specs.Answers.{AnswersSo, SimCell}
use Rattle.cell_runs.specs.Rounds.{IsRunFrom}

-- a cell is always reached, and nobody does or wants anything there
module _ {C : Type 0} (told : C → C → Asked → Type 0) where
  abbrev pub IsReached : Type 0
  IsReached = (old new : C) (asked : Asked) → told old new asked → is_ported asked ≡ true

-- no entry is refused by what keeps none
abbrev pub AllKept : Unkept → Unkept → Entry → Bool → Type 0
AllKept old new e kept = kept ≡ true

-- rounds over a cell lead from one state of it, this journal and this script to another state, a journal and an end:
-- each machine in turn books what the book decides at what the cell then shows, the cell does its command, and the
-- operator does the script's next action in it
abbrev pub Ran : {C : Type 0} → (C → C → Asked → Type 0) → BookLimits → Plan → C → List Entry → List Line → C
    → List Entry → End → Type 0
Ran told l p old before script new J e =
    (h : Halt) × (k k' : Unkept) × (e ≡ end_of h)
    × Controlled told AllKept (terms_of l p false) h old k before script None new k' J

-- a run in rounds of the simulated cell, of which each reading is what its world shows, and each command and act by
-- hand does in the world what its definition and the faults say, leads from a cell and a journal to a cell, a journal
-- and an end
pub record IsSimulated (l : BookLimits) (p : Plan) (old : SimCell) (before : List Entry) (script : List Line)
    (new : SimCell) (J : List Entry) (e : End) : Type 0 where
  pub run : IsRunFrom l p before script J e
  pub ran : Ran AnswersSo l p old before script new J e
