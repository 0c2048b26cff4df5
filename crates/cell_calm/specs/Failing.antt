-- Runs of the simulated cell, without an operator, in which machines may fail by faults that last
use Rattle.std.specs.Prelude.{ℕ, ◌≡◌, ◌≢◌, ◌≤◌, ◌⊎◌, ◌+◌, ◌*◌, ◌<◌, Bool, Option, List, [], IfSome}
use Rattle.cell_types.specs.declared.words.Axis.{Axis}
use Rattle.cell_types.specs.declared.words.Entry.{Entry}
use Rattle.cell_rules.specs.Views.{count_of}
use Rattle.cell_rules.specs.declared.limits.BookLimits.{BookLimits}
use Rattle.cell_measures.specs.declared.durations.Durations.{Durations}
use Rattle.cell_ports.specs.declared.plan.Plan.{Plan}
use Rattle.cell_progress.specs.Orders.{IsOnePress}
use Rattle.cell_progress.specs.Rank.{most_failures}
use Rattle.cell_turns.specs.Moving.{limits_of}
use Rattle.cell_workers.specs.declared.ends.End.{End}
use Rattle.cell_workers.specs.declared.ends.End.TheVariants as end
use Rattle.cell_sim.specs.declared.fault.PlannedFault.{PlannedFault}
use Rattle.cell_sim.specs.Simulated.{one_each}
use Rattle.sim_plant.specs.Answers.{SimCell}
use Rattle.cell_runs.specs.Cells.{IsSimulated}
use Rattle.cell_runs.specs.Inputs.{AreFaults, AreLines}
use Rattle.cell_runs.specs.Runs.{KeepsRun, Kept}
use Rattle.cell_runs.specs.declared.texts.Mode.TheVariants as mode
use Rattle.cell_world.specs.FailCell.{AllLast, has_fault}
use Rattle.cell_world.specs.FailRuns.{opened_with}
use Rattle.cell_world.specs.Running.{Allows}
use Rattle.cell_calm.specs.Calm.{HasRoomFor, HasRoomToFail}
use Rattle.cell_calm.specs.Healthy.{AllForged}

-- how a run may end: never full; finished with all plates of the plan forged and delivered; or stalled with all
-- delivered but one
pub record DeliversAllButOne (plates : ℕ) (J : List Entry) (e : End) : Type 0 where
  pub room : e ≢ end.Full
  pub finished : e ≡ end.Finished → AllForged plates J
  pub stalled : e ≡ end.Stalled → (count_of J).delivered + 1 ≡ plates

-- so do those of which all planned faults are one press's, and last, at whichever of its motions they are: if the
-- plan's limits let each motion be as long as it is, and the book's have room
abbrev pub FailingRunsDeliver : Type 0
FailingRunsDeliver =
    (l : BookLimits) (p : Plan) (ds : Durations) (faults : List PlannedFault) (new : SimCell) (J : List Entry) (e : End)
    → AllLast faults → IsOnePress (has_fault faults) → Allows p ds → HasRoomToFail l p.plates
    → IsSimulated l p (opened_with p ds faults) [] [] new J e → DeliversAllButOne p.plates J e

-- with room for its entries a run that is kept ends so
abbrev pub KeepsAllButOne : Kept → Type 0
KeepsAllButOne run =
    76 * run.plan.plates + 10 < run.plan.journal_limit → DeliversAllButOne run.plan.plates run.entries run.end

-- and so do those that `run_texts` writes in rounds, with such a script of faults and an empty one of the operator
abbrev pub WrittenFailingRunsDeliver : Type 0
WrittenFailingRunsDeliver =
    (planned : List PlannedFault) (settings faults operator : List ℕ) (journal : Bool) (old new : Option (List ℕ))
    (status : ℕ) (run : Option Kept)
    → AllLast planned → IsOnePress (has_fault planned) → AreFaults faults planned → AreLines operator []
    → KeepsRun one_each settings faults operator mode.Rounds journal old new status run
    → IfSome run KeepsAllButOne

-- the plan has rounds enough for so many entries, where no watch waits for more readings of a motion than so many: as
-- many rounds for each
pub record HasTimeFor (p : Plan) (most entries : ℕ) : Type 0 where
  pub limits : (a : Axis) → (limits_of p a).limit ≤ most
  pub rounds : most * entries < p.turns

-- whichever machines without a belt the faults are of, such a run comes to rest before its rounds run out, unless
-- memory was refused, if there are room and rounds enough: finished with all plates forged and delivered, or stalled
abbrev pub FailingRunsEnd : Type 0
FailingRunsEnd =
    (l : BookLimits) (p : Plan) (ds : Durations) (faults : List PlannedFault) (most : ℕ) (new : SimCell)
    (J : List Entry) (e : End)
    → AllLast faults → Allows p ds → HasRoomFor (has_fault faults) l p.plates
    → HasTimeFor p most (76 * p.plates + most_failures (has_fault faults))
    → IsSimulated l p (opened_with p ds faults) [] [] new J e → e ≢ end.Memory
    → ((e ≡ end.Finished) × AllForged p.plates J) ⊎ (e ≡ end.Stalled)

-- it ended with all plates forged and delivered, or stalled with all delivered but one
abbrev pub EndsAllButOne : ℕ → List Entry → End → Type 0
EndsAllButOne plates J e =
    ((e ≡ end.Finished) × AllForged plates J) ⊎ ((e ≡ end.Stalled) × ((count_of J).delivered + 1 ≡ plates))

-- so it ends where all planned faults are one press's
abbrev pub OnePressRunsEnd : Type 0
OnePressRunsEnd =
    (l : BookLimits) (p : Plan) (ds : Durations) (faults : List PlannedFault) (most : ℕ) (new : SimCell)
    (J : List Entry) (e : End)
    → AllLast faults → IsOnePress (has_fault faults) → Allows p ds → HasRoomToFail l p.plates
    → HasTimeFor p most (76 * p.plates + 10) → IsSimulated l p (opened_with p ds faults) [] [] new J e
    → e ≢ end.Memory → EndsAllButOne p.plates J e

-- and so does a run that is kept
abbrev pub KeptEnds : Kept → Type 0
KeptEnds run =
    (most : ℕ) → 76 * run.plan.plates + 10 < run.plan.journal_limit
    → HasTimeFor run.plan most (76 * run.plan.plates + 10) → run.end ≢ end.Memory
    → EndsAllButOne run.plan.plates run.entries run.end

abbrev pub WrittenFailingRunsEnd : Type 0
WrittenFailingRunsEnd =
    (planned : List PlannedFault) (settings faults operator : List ℕ) (journal : Bool) (old new : Option (List ℕ))
    (status : ℕ) (run : Option Kept)
    → AllLast planned → IsOnePress (has_fault planned) → AreFaults faults planned → AreLines operator []
    → KeepsRun one_each settings faults operator mode.Rounds journal old new status run
    → IfSome run KeptEnds
