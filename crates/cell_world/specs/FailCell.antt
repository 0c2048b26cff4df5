-- The whole cell, of which machines fail by faults that last, through the turns of each machine, without an operator
use Rattle.std.specs.List.{list_any}
use Rattle.std.specs.Prelude.{Bool, ◌≡◌, ◌⊎◌, true, false, Option, List, [], ◌∷◌, ◌++◌, option_to_list}
use Rattle.cell_types.specs.declared.words.Axis.{Axis}
use Rattle.cell_types.specs.declared.words.Entry.{Entry}
use Rattle.cell_types.specs.declared.words.Machine.{Machine}
use Rattle.cell_types.specs.Cell.{machine_of_axis}
use Rattle.cell_types.specs.Same.{same_machine}
use Rattle.cell_rules.specs.declared.limits.BookLimits.{BookLimits}
use Rattle.cell_rules.specs.Legal.{legal}
use Rattle.cell_rules.specs.Views.{is_asked, is_failed}
use Rattle.cell_ports.specs.declared.plan.Plan.{Plan}
use Rattle.cell_turns.specs.Minds.{Mind}
use Rattle.cell_sim.specs.declared.fault.PlannedFault.{PlannedFault}
use Rattle.cell_sim.specs.Readings.{after_round}
use Rattle.cell_sim.specs.Looks.{is_belt}
use Rattle.cell_sim.specs.Simulated.{Simulated}
use Rattle.cell_world.specs.Agreeing.{has_belt}
use Rattle.cell_world.specs.BeltTurning.{BeltAsBooked, StationsAsBooked}
use Rattle.cell_world.specs.Failing.{IsSick}
use Rattle.cell_world.specs.FailStarts.{IsUnheard, after_turn_with, is_lasting, mind_with}
use Rattle.cell_world.specs.Stopping.{HasStopped}
use Rattle.cell_world.specs.Switched.{with_mind}
use Rattle.cell_world.specs.Tie.{IsFairPlan}
use Rattle.cell_world.specs.Turning.{IsAsBooked}
use Rattle.cell_world.specs.Whole.{CellAsBooked, IsTurnOf}

-- all planned faults are of axes with switches, and last
abbrev pub AllLast : List PlannedFault → Type 0
AllLast [] = Unit {0}
AllLast (f ∷ faults) = (is_belt f.axis ≡ false) × (is_lasting f.fault ≡ true) × AllLast faults

-- one is planned for an axis of a machine
abbrev pub has_fault : List PlannedFault → Machine → Bool
has_fault faults m = list_any (λ (f : PlannedFault). same_machine (machine_of_axis f.axis) m) faults

-- an axis goes with such a fault; or its command was lost; or its machine was declared failed, and stands still
abbrev pub FailsAt : List Entry → Plan → Axis → Mind → Simulated → Type 0
FailsAt J p a s w = IsSick J p a s w ⊎ (IsUnheard J a s w ⊎ HasStopped J (machine_of_axis a) s w)

-- a machine for which one is planned fails so
abbrev pub Fails : List PlannedFault → List Entry → Plan → Machine → Mind → Simulated → Type 0
Fails faults J p m s w =
    (a : Axis) × (machine_of_axis a ≡ m) × (has_fault faults m ≡ true) × FailsAt J p a s w

-- each machine without a belt is as booked or fails so; the belts are as booked, and all stations, but for a plate that
-- was laid in or taken out under a green light; and no machine is asked to stop
pub record CellWithFailing (faults : List PlannedFault) (l : BookLimits) (J : List Entry) (p : Plan)
    (minds : Machine → Mind) (w : Simulated) : Type 0
  where
    pub legal : legal l J ≡ true
    pub fair : IsFairPlan p w
    pub unasked : (m : Machine) → is_asked J m ≡ false
    pub switches : (m : Machine) → has_belt m ≡ false → IsAsBooked J p m (minds m) w ⊎ Fails faults J p m (minds m) w
    pub belts : (m : Machine) → has_belt m ≡ true → BeltAsBooked J p m (minds m) w
    pub stations : StationsAsBooked J p w

-- so it is where all is as booked
abbrev pub NoneFailedYet : Type 0
NoneFailedYet =
    (faults : List PlannedFault) (l : BookLimits) (J : List Entry) (p : Plan) (minds : Machine → Mind) (w : Simulated)
    → CellAsBooked l J p minds w → CellWithFailing faults l J p minds w

-- it stays so through the turn of each machine, whichever motions have such faults, and no collision is counted
abbrev pub FailingKept : Type 0
FailingKept =
    (faults : List PlannedFault) (l : BookLimits) (J : List Entry) (p : Plan) (minds : Machine → Mind) (w : Simulated)
    (m : Machine) (e : Option Entry)
    → AllLast faults → CellWithFailing faults l J p minds w → IsTurnOf l J p m (minds m) w e
    → CellWithFailing faults l (J ++ option_to_list e) p
    (with_mind m (mind_with faults J m p (minds m) w e) minds) (after_turn_with faults w m e)
    × ((after_turn_with faults w m e).collisions ≡ w.collisions)

-- and what fails so does after each turn, its own or another's
abbrev pub FailuresLast : Type 0
FailuresLast =
    (faults : List PlannedFault) (l : BookLimits) (J : List Entry) (p : Plan) (minds : Machine → Mind) (w : Simulated)
    (m n : Machine) (e : Option Entry)
    → AllLast faults → has_belt n ≡ false → CellWithFailing faults l J p minds w → IsTurnOf l J p m (minds m) w e
    → Fails faults J p n (minds n) w
    → Fails faults (J ++ option_to_list e) p n (with_mind m (mind_with faults J m p (minds m) w e) minds n)
    (after_turn_with faults w m e)

-- it stays so through the end of each round
abbrev pub FailingRoundKept : Type 0
FailingRoundKept =
    (faults : List PlannedFault) (l : BookLimits) (J : List Entry) (p : Plan) (minds : Machine → Mind) (w : Simulated)
    → CellWithFailing faults l J p minds w → CellWithFailing faults l J p minds (after_round w)

-- no machine is booked failed for which no fault is planned, and none is asked to stop
abbrev pub OthersHealthy : List PlannedFault → List Entry → Type 0
OthersHealthy faults J =
    ((m : Machine) → has_fault faults m ≡ false → is_failed J m ≡ false) × ((m : Machine) → is_asked J m ≡ false)

abbrev pub NoOtherFails : Type 0
NoOtherFails =
    (faults : List PlannedFault) (l : BookLimits) (J : List Entry) (p : Plan) (minds : Machine → Mind) (w : Simulated)
    → CellWithFailing faults l J p minds w → OthersHealthy faults J
