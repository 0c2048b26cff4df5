-- The whole cell, in a run without an operator and without a fault
use Rattle.std.specs.Prelude.{◌≡◌, ◌≢◌, None, List, []}
use Rattle.cell_types.specs.declared.words.Entry.{Entry}
use Rattle.cell_types.specs.declared.words.Machine.{Machine}
use Rattle.cell_rules.specs.declared.limits.BookLimits.{BookLimits}
use Rattle.cell_measures.specs.declared.durations.Durations.{Durations}
use Rattle.cell_ports.specs.declared.plan.Plan.{Plan}
use Rattle.cell_turns.specs.Minds.{Mind}
use Rattle.cell_turns.specs.Six.{at}
use Rattle.cell_plant.specs.declared.keeper.Unkept.{Unkept}
use Rattle.cell_workers.specs.declared.ends.End.{End}
use Rattle.cell_workers.specs.declared.ends.End.TheVariants as end
use Rattle.cell_rounds.specs.Moves.{Leads, Terms}
use Rattle.cell_rounds.specs.Stands.{Stand, start}
use Rattle.cell_sim.specs.Simulated.{Simulated}
use Rattle.sim_plant.specs.Answers.{AnswersSo, SimCell, sim_cell}
use Rattle.cell_runs.specs.Cells.{AllKept, Ran}
use Rattle.cell_world.specs.Tie.{IsFairPlan}
use Rattle.cell_world.specs.Whole.{CellAsBooked, opening_for}

-- the simulated cell at its opening, whose motions take so long, without a fault
abbrev pub opened : Plan → Durations → SimCell
opened p ds = sim_cell (opening_for p ds) []

-- a run of it from the empty journal, without a script, comes to this stand
abbrev pub ComesTo : Terms → Durations → Stand SimCell Unkept → Type 0
ComesTo T ds s = (k : Unkept) × Leads AnswersSo AllKept T (start (opened T.plan ds) k [] [] None) s

-- the cell is as booked, and no collision was counted
abbrev pub IsBooked : BookLimits → List Entry → Plan → (Machine → Mind) → Simulated → Type 0
IsBooked l J p minds w = CellAsBooked l J p minds w × (w.collisions ≡ 0)

-- the plan's limits let each motion be as long as it is
abbrev pub Allows : Plan → Durations → Type 0
Allows p ds = IsFairPlan p (opening_for p ds)

-- so it is wherever the run comes to
abbrev pub RunIsWorld : Type 0
RunIsWorld =
    (T : Terms) (ds : Durations) (s : Stand SimCell Unkept) → Allows T.plan ds → ComesTo T ds s
    → IsBooked T.limits s.now.journal T.plan (at s.now.minds) s.cell.world

-- and at its end, unless memory or a turn was refused: a machine may have been read since
abbrev pub EndIsWorld : Type 0
EndIsWorld =
    (l : BookLimits) (p : Plan) (ds : Durations) (new : SimCell) (J : List Entry) (e : End) → Allows p ds
    → Ran AnswersSo l p (opened p ds) [] [] new J e → e ≢ end.Memory → e ≢ end.Full
    → (minds : Machine → Mind) × IsBooked l J p minds new.world

-- no collision was counted, whatever the end
abbrev pub NoneCollides : Type 0
NoneCollides =
    (l : BookLimits) (p : Plan) (ds : Durations) (new : SimCell) (J : List Entry) (e : End) → Allows p ds
    → Ran AnswersSo l p (opened p ds) [] [] new J e → new.world.collisions ≡ 0
