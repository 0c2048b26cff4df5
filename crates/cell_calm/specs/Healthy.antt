-- Runs of the simulated cell without a fault and without an operator: no machine is declared failed, and they finish
use Rattle.std.specs.Prelude.{ℕ, ◌≡◌, ◌≢◌, ◌≤◌, ◌<◌, ◌+◌, ◌*◌, Bool, true, Option, List, [], IfSome}
use Rattle.cell_types.specs.declared.words.Axis.{Axis}
use Rattle.cell_types.specs.declared.words.Entry.{Entry}
use Rattle.cell_types.specs.declared.words.Pose.{Pose}
use Rattle.cell_rules.specs.Views.{count_of}
use Rattle.cell_rules.specs.declared.limits.BookLimits.{BookLimits}
use Rattle.cell_measures.specs.declared.durations.Durations.{Durations}
use Rattle.cell_ports.specs.declared.plan.Plan.{Plan}
use Rattle.cell_workers.specs.declared.ends.End.{End}
use Rattle.cell_workers.specs.declared.ends.End.TheVariants as end
use Rattle.cell_sim.specs.Simulated.{one_each}
use Rattle.sim_plant.specs.Answers.{AnswersSo, SimCell}
use Rattle.cell_runs.specs.Cells.{IsSimulated, Ran}
use Rattle.cell_runs.specs.Inputs.{AreFaults, AreLines}
use Rattle.cell_runs.specs.Runs.{KeepsRun, Kept}
use Rattle.cell_runs.specs.declared.texts.Mode.TheVariants as mode
use Rattle.cell_world.specs.Running.{Allows, opened}
use Rattle.cell_world.specs.Starting.{further_in}
use Rattle.cell_world.specs.Whole.{opening_for}
use Rattle.cell_calm.specs.Calm.{HasRoom, is_calm}

-- in none of them is a machine declared failed, however it ends, if the plan's limits let each motion be as long as it
-- is
abbrev pub NoneDeclared : Type 0
NoneDeclared =
    (l : BookLimits) (p : Plan) (ds : Durations) (new : SimCell) (J : List Entry) (e : End) → Allows p ds
    → Ran AnswersSo l p (opened p ds) [] [] new J e → is_calm J ≡ true

-- how many readings a motion takes: one that shows where it begins, one where it ends, and between them those that show
-- nothing
abbrev pub readings_of : Plan → Durations → Axis → Pose → ℕ
readings_of p ds a to = further_in (opening_for p ds) a to + 3

-- the plan has rounds enough, where no motion takes more than so many readings: for each plate more than 76 times as
-- many
pub record HasTime (p : Plan) (ds : Durations) (most : ℕ) : Type 0 where
  pub readings : (a : Axis) (to : Pose) → readings_of p ds a to ≤ most
  pub rounds : most * (76 * p.plates) < p.turns

-- all plates of the plan are admitted, forged and delivered
pub record AllForged (plates : ℕ) (J : List Entry) : Type 0 where
  pub admitted : (count_of J).admitted ≡ plates
  pub forged : (count_of J).forged ≡ plates
  pub delivered : (count_of J).delivered ≡ plates

-- where there are room and time, the run ends finished, with all plates forged and delivered, unless memory was refused
abbrev pub HealthyRunsFinish : Type 0
HealthyRunsFinish =
    (l : BookLimits) (p : Plan) (ds : Durations) (most : ℕ) (new : SimCell) (J : List Entry) (e : End) → Allows p ds
    → HasRoom l p.plates → HasTime p ds most → IsSimulated l p (opened p ds) [] [] new J e → e ≢ end.Memory
    → (e ≡ end.Finished) × AllForged p.plates J

-- so it is with a run that is kept, whose motions take three readings each, where the journal has room for more than 76
-- entries a plate, and the plan has more than 228 rounds a plate
abbrev pub Finishes : Kept → Type 0
Finishes run =
    76 * run.plan.plates < run.plan.journal_limit → 228 * run.plan.plates < run.plan.turns → run.end ≢ end.Memory
    → (run.end ≡ end.Finished) × AllForged run.plan.plates run.entries

-- and with the one of which `run_texts` writes in rounds, for texts with no fault and no line of the operator
abbrev pub WrittenRunsFinish : Type 0
WrittenRunsFinish =
    (settings faults operator : List ℕ) (journal : Bool) (old new : Option (List ℕ)) (status : ℕ) (run : Option Kept)
    → AreFaults faults [] → AreLines operator []
    → KeepsRun one_each settings faults operator mode.Rounds journal old new status run
    → IfSome run (λ r. (is_calm r.entries ≡ true) × Finishes r)
