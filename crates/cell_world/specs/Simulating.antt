-- The run of which `run_kept` of cell_runs writes in rounds, where its texts have no fault and no line of the operator
use Rattle.std.specs.Prelude.{◌≡◌, ◌≢◌, ℕ, Bool, Option, List, [], IfSome}
use Rattle.cell_types.specs.declared.words.Machine.{Machine}
use Rattle.cell_measures.specs.declared.durations.Durations.{Durations}
use Rattle.cell_ports.specs.declared.plan.Plan.{Plan}
use Rattle.cell_settings.specs.Settings.{plan_numbers}
use Rattle.cell_turns.specs.Minds.{Mind}
use Rattle.cell_workers.specs.declared.ends.End.TheVariants as end
use Rattle.operator_desk.specs.declared.line.Line.{Line}
use Rattle.cell_sim.specs.Simulated.{one_each}
use Rattle.sim_plant.specs.Answers.{AnswersSo, SimCell}
use Rattle.cell_runs.specs.Cells.{Ran}
use Rattle.cell_runs.specs.Inputs.{AreFaults, AreLines, AreSettings}
use Rattle.cell_runs.specs.Runs.{KeepsRun, Kept, limits_of, opening_of}
use Rattle.cell_runs.specs.declared.inputs.Inputs.{Inputs}
use Rattle.cell_runs.specs.declared.texts.Mode.TheVariants as mode
use Rattle.cell_world.specs.Running.{Allows, IsBooked, opened}
use Rattle.cell_world.specs.StopRuns.{AreServices, IsBookedOrStopped}
use Rattle.cell_world.specs.Whole.{opening_for}

-- it begins in the opening that is as booked
abbrev pub OpensSo : Type 0
OpensSo = (inputs : Inputs) → opening_of inputs ≡ opening_for inputs.plan inputs.durations

-- settings that are read let each motion be as short as it can be
abbrev pub SettingsAreFair : Type 0
SettingsAreFair = (text : List ℕ) (p : Plan) → AreSettings text (plan_numbers p) → Allows p one_each

-- a run that is kept, whose motions take so long, goes from the opening to a world in which no collision was counted
-- and which, unless memory or a turn was refused, is as booked
pub record LeavesBooked (ds : Durations) (run : Kept) : Type 0 where
  pub left : SimCell
  pub ran : Ran AnswersSo (limits_of run.plan) run.plan (opened run.plan ds) [] [] left run.entries run.end
  pub collisions : left.world.collisions ≡ 0
  pub booked : run.end ≢ end.Memory → run.end ≢ end.Full
      → (minds : Machine → Mind) × IsBooked (limits_of run.plan) run.entries run.plan minds left.world

-- so it is with the run of which is written, if its plan's limits let motions be so long
abbrev pub TimedTextIsWorld : Type 0
TimedTextIsWorld =
    (ds : Durations) (settings faults operator : List ℕ) (journal : Bool) (old new : Option (List ℕ)) (status : ℕ)
    (run : Option Kept)
    → AreFaults faults [] → AreLines operator []
    → KeepsRun ds settings faults operator mode.Rounds journal old new status run
    → IfSome run (λ r. Allows r.plan ds → LeavesBooked ds r)

-- they do where motions are as short as they can be, as in `run_texts`
abbrev pub TextIsWorld : Type 0
TextIsWorld =
    (settings faults operator : List ℕ) (journal : Bool) (old new : Option (List ℕ)) (status : ℕ) (run : Option Kept)
    → AreFaults faults [] → AreLines operator []
    → KeepsRun one_each settings faults operator mode.Rounds journal old new status run
    → IfSome run (LeavesBooked one_each)

-- the same of a run with this script, where each machine without a belt is as booked, stands still or is at home
pub record LeavesServed (ds : Durations) (lines : List Line) (run : Kept) : Type 0 where
  pub left : SimCell
  pub ran : Ran AnswersSo (limits_of run.plan) run.plan (opened run.plan ds) [] lines left run.entries run.end
  pub collisions : left.world.collisions ≡ 0
  pub booked : run.end ≢ end.Memory → run.end ≢ end.Full
      → (minds : Machine → Mind) × IsBookedOrStopped (limits_of run.plan) run.entries run.plan minds left.world

-- so it is with the run of which is written, if the operator's script stops, clears and repairs
-- machines without a belt
abbrev pub ServedTextIsWorld : Type 0
ServedTextIsWorld =
    (ds : Durations) (settings faults operator : List ℕ) (lines : List Line) (journal : Bool)
    (old new : Option (List ℕ)) (status : ℕ) (run : Option Kept)
    → AreFaults faults [] → AreLines operator lines → AreServices lines
    → KeepsRun ds settings faults operator mode.Rounds journal old new status run
    → IfSome run (λ r. Allows r.plan ds → LeavesServed ds lines r)

-- the same of `run_texts`, in which motions are as short as they can be
abbrev pub ServedRunIsWorld : Type 0
ServedRunIsWorld =
    (settings faults operator : List ℕ) (lines : List Line) (journal : Bool) (old new : Option (List ℕ)) (status : ℕ)
    (run : Option Kept)
    → AreFaults faults [] → AreLines operator lines → AreServices lines
    → KeepsRun one_each settings faults operator mode.Rounds journal old new status run
    → IfSome run (LeavesServed one_each lines)
