-- A run of the simulated cell in which the operator stops, clears and repairs machines without a belt, without a fault
use Rattle.std.specs.Prelude.{◌≡◌, ◌≢◌, ◌⊎◌, false, List, [], ◌∷◌, None}
use Rattle.cell_types.specs.declared.words.Entry.{Entry}
use Rattle.cell_types.specs.declared.words.Machine.{Machine}
use Rattle.cell_types.specs.declared.words.Station.{Station}
use Rattle.cell_types.specs.Cell.{machine_of_station}
use Rattle.cell_rules.specs.declared.limits.BookLimits.{BookLimits}
use Rattle.cell_measures.specs.declared.durations.Durations.{Durations}
use Rattle.cell_ports.specs.declared.plan.Plan.{Plan}
use Rattle.cell_turns.specs.Minds.{Mind}
use Rattle.cell_turns.specs.Six.{at}
use Rattle.cell_plant.specs.declared.keeper.Unkept.{Unkept}
use Rattle.cell_workers.specs.declared.ends.End.{End}
use Rattle.cell_workers.specs.declared.ends.End.TheVariants as end
use Rattle.operator_desk.specs.declared.line.Line.{Line}
use Rattle.operator_desk.specs.declared.line.Task.TheVariants as task
use Rattle.cell_rounds.specs.Moves.{Leads, Terms}
use Rattle.cell_rounds.specs.Stands.{Stand, start}
use Rattle.cell_sim.specs.Simulated.{Simulated}
use Rattle.sim_plant.specs.Answers.{AnswersSo, SimCell}
use Rattle.cell_runs.specs.Cells.{AllKept, Ran}
use Rattle.cell_world.specs.Agreeing.{has_belt}
use Rattle.cell_world.specs.Running.{Allows, opened}
use Rattle.cell_world.specs.Stopping.{CellWithStops}

-- each line of the script asks a machine without a belt to stop, is a repair of one, or clears a station of one
abbrev pub IsOfMachine : Line → Type 0
IsOfMachine line =
    (m : Machine) × (has_belt m ≡ false) × ((line.task ≡ task.Stop m) ⊎ (line.task ≡ task.Repair m))

abbrev pub IsClearing : Line → Type 0
IsClearing line = (s : Station) × (has_belt (machine_of_station s) ≡ false) × (line.task ≡ task.Clear s)

abbrev pub IsService : Line → Type 0
IsService line = IsOfMachine line ⊎ IsClearing line

abbrev pub AreServices : List Line → Type 0
AreServices [] = Unit {0}
AreServices (line ∷ rest) = IsService line × AreServices rest

-- a run from the opening with this script comes to this stand
abbrev pub ComesBy : Terms → Durations → List Line → Stand SimCell Unkept → Type 0
ComesBy T ds lines s = (k : Unkept) × Leads AnswersSo AllKept T (start (opened T.plan ds) k [] lines None) s

-- each machine without a belt is as booked, has stopped or was repaired, the rest is as booked, and no collision was
-- counted
abbrev pub IsBookedOrStopped : BookLimits → List Entry → Plan → (Machine → Mind) → Simulated → Type 0
IsBookedOrStopped l J p minds w = CellWithStops l J p minds w × (w.collisions ≡ 0)

-- so it is wherever the run comes to
abbrev pub RunWithStops : Type 0
RunWithStops =
    (T : Terms) (ds : Durations) (lines : List Line) (s : Stand SimCell Unkept) → Allows T.plan ds → AreServices lines
    → ComesBy T ds lines s → IsBookedOrStopped T.limits s.now.journal T.plan (at s.now.minds) s.cell.world

-- and at its end, unless memory or a turn was refused
abbrev pub EndWithStops : Type 0
EndWithStops =
    (l : BookLimits) (p : Plan) (ds : Durations) (lines : List Line) (new : SimCell) (J : List Entry) (e : End)
    → Allows p ds → AreServices lines → Ran AnswersSo l p (opened p ds) [] lines new J e
    → e ≢ end.Memory → e ≢ end.Full → (minds : Machine → Mind) × IsBookedOrStopped l J p minds new.world

-- no collision was counted, whatever the end
abbrev pub NoneCollidesByStops : Type 0
NoneCollidesByStops =
    (l : BookLimits) (p : Plan) (ds : Durations) (lines : List Line) (new : SimCell) (J : List Entry) (e : End)
    → Allows p ds → AreServices lines → Ran AnswersSo l p (opened p ds) [] lines new J e → new.world.collisions ≡ 0
