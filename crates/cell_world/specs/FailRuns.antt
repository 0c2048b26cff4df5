-- A run of the simulated cell, without an operator, in which machines fail by faults that last
use Rattle.std.specs.Prelude.{◌≡◌, ◌≢◌, ℕ, Bool, true, false, not, Option, None, List, [], IfSome}
use Rattle.std.specs.List.{list_any}
use Rattle.cell_types.specs.declared.words.Entry.{Entry}
use Rattle.cell_types.specs.declared.words.Entry.TheVariants.{Declared, StopAsked}
use Rattle.cell_types.specs.declared.words.Machine.{Machine}
use Rattle.cell_rules.specs.declared.limits.BookLimits.{BookLimits}
use Rattle.cell_measures.specs.declared.durations.Durations.{Durations}
use Rattle.cell_ports.specs.declared.plan.Plan.{Plan}
use Rattle.cell_turns.specs.Minds.{Mind}
use Rattle.cell_turns.specs.Six.{at}
use Rattle.cell_plant.specs.declared.keeper.Unkept.{Unkept}
use Rattle.cell_workers.specs.declared.ends.End.{End}
use Rattle.cell_workers.specs.declared.ends.End.TheVariants as end
use Rattle.cell_rounds.specs.Moves.{Leads, Terms}
use Rattle.cell_rounds.specs.Stands.{Stand, start}
use Rattle.cell_sim.specs.declared.fault.PlannedFault.{PlannedFault}
use Rattle.cell_sim.specs.Simulated.{Simulated, one_each}
use Rattle.sim_plant.specs.Answers.{AnswersSo, SimCell, sim_cell}
use Rattle.cell_runs.specs.Cells.{AllKept, Ran}
use Rattle.cell_runs.specs.Inputs.{AreFaults, AreLines}
use Rattle.cell_runs.specs.Runs.{KeepsRun, Kept, limits_of}
use Rattle.cell_runs.specs.declared.texts.Mode.TheVariants as mode
use Rattle.cell_world.specs.FailCell.{AllLast, CellWithFailing, has_fault}
use Rattle.cell_world.specs.Running.{Allows}
use Rattle.cell_world.specs.Whole.{opening_for}

-- the simulated cell at its opening, whose motions take so long, with these faults
abbrev pub opened_with : Plan → Durations → List PlannedFault → SimCell
opened_with p ds faults = sim_cell (opening_for p ds) faults

-- a run of it from the empty journal, without a script, comes to this stand
abbrev pub ComesWith : Terms → Durations → List PlannedFault → Stand SimCell Unkept → Type 0
ComesWith T ds faults s = (k : Unkept) × Leads AnswersSo AllKept T (start (opened_with T.plan ds faults) k [] [] None) s

-- an entry declares a machine failed for which no fault is planned, or asks one to stop
abbrev pub disturbs_other : List PlannedFault → Entry → Bool
disturbs_other faults (Declared m cause) = not (has_fault faults m)
disturbs_other faults (StopAsked m) = true
disturbs_other faults _ = false

-- no entry of a journal does
abbrev pub IsCalmBeside : List PlannedFault → List Entry → Type 0
IsCalmBeside faults J = list_any (disturbs_other faults) J ≡ false

-- the cell is as booked, but for the machines that fail by these faults; no other machine was declared failed, and none
-- was asked to stop; and no collision was counted
pub record IsBookedBeside (faults : List PlannedFault) (l : BookLimits) (J : List Entry) (p : Plan)
    (minds : Machine → Mind) (w : Simulated) : Type 0
  where
    pub cell : CellWithFailing faults l J p minds w
    pub calm : IsCalmBeside faults J
    pub collisions : w.collisions ≡ 0

-- so it is wherever a run comes to of which all planned faults are of axes with switches and last, at whichever of
-- their motions they are
abbrev pub RunWithFailing : Type 0
RunWithFailing =
    (T : Terms) (ds : Durations) (faults : List PlannedFault) (s : Stand SimCell Unkept)
    → AllLast faults → Allows T.plan ds → ComesWith T ds faults s
    → IsBookedBeside faults T.limits s.now.journal T.plan (at s.now.minds) s.cell.world

-- and at its end, unless memory or a turn was refused
abbrev pub EndWithFailing : Type 0
EndWithFailing =
    (l : BookLimits) (p : Plan) (ds : Durations) (faults : List PlannedFault) (new : SimCell) (J : List Entry) (e : End)
    → AllLast faults → Allows p ds → Ran AnswersSo l p (opened_with p ds faults) [] [] new J e
    → e ≢ end.Memory → e ≢ end.Full → (minds : Machine → Mind) × IsBookedBeside faults l J p minds new.world

-- no collision was counted and no other machine declared failed, whatever the end
abbrev pub NoneCollidesBeside : Type 0
NoneCollidesBeside =
    (l : BookLimits) (p : Plan) (ds : Durations) (faults : List PlannedFault) (new : SimCell) (J : List Entry) (e : End)
    → AllLast faults → Allows p ds → Ran AnswersSo l p (opened_with p ds faults) [] [] new J e
    → (new.world.collisions ≡ 0) × IsCalmBeside faults J

-- a run that is kept, whose motions take so long, goes with these faults from the opening to a world in which no
-- collision was counted and which, unless memory or a turn was refused, is as booked, but for the machines that fail by
-- them
pub record LeavesBeside (ds : Durations) (faults : List PlannedFault) (run : Kept) : Type 0 where
  pub left : SimCell
  pub ran : Ran AnswersSo (limits_of run.plan) run.plan (opened_with run.plan ds faults) [] [] left run.entries run.end
  pub collisions : left.world.collisions ≡ 0
  pub calm : IsCalmBeside faults run.entries
  pub booked : run.end ≢ end.Memory → run.end ≢ end.Full
      → (minds : Machine → Mind) × IsBookedBeside faults (limits_of run.plan) run.entries run.plan minds left.world

-- so it is with the run of which is written, if its script of faults has only such ones and its plan's limits let its
-- motions be so long
abbrev pub FaultyTextIsWorld : Type 0
FaultyTextIsWorld =
    (ds : Durations) (planned : List PlannedFault) (settings faults operator : List ℕ) (journal : Bool)
    (old new : Option (List ℕ)) (status : ℕ) (run : Option Kept)
    → AllLast planned → AreFaults faults planned → AreLines operator []
    → KeepsRun ds settings faults operator mode.Rounds journal old new status run
    → IfSome run (λ r. Allows r.plan ds → LeavesBeside ds planned r)

-- they do in `run_texts`, where motions are as short as they can be
abbrev pub FaultyRunIsWorld : Type 0
FaultyRunIsWorld =
    (planned : List PlannedFault) (settings faults operator : List ℕ) (journal : Bool) (old new : Option (List ℕ))
    (status : ℕ) (run : Option Kept)
    → AllLast planned → AreFaults faults planned → AreLines operator []
    → KeepsRun one_each settings faults operator mode.Rounds journal old new status run
    → IfSome run (LeavesBeside one_each planned)
