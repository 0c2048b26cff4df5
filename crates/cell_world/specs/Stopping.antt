-- The whole cell, where the operator stops, clears and repairs machines without a belt, without a fault
use Rattle.std.specs.Prelude.{◌≡◌, ◌⊎◌, ℕ, true, false, Option, Some, None, List, ◌++◌, option_to_list}
use Rattle.cell_types.specs.declared.words.Axis.{Axis}
use Rattle.cell_types.specs.declared.words.Entry.{Entry}
use Rattle.cell_types.specs.declared.words.Entry.TheVariants.{Quarantined, Repaired, StopAsked}
use Rattle.cell_types.specs.declared.words.Machine.{Machine}
use Rattle.cell_types.specs.declared.words.Station.{Station}
use Rattle.cell_types.specs.Cell.{machine_of_axis, machine_of_station}
use Rattle.cell_rules.specs.declared.limits.BookLimits.{BookLimits}
use Rattle.cell_rules.specs.Legal.{first_of, legal}
use Rattle.cell_rules.specs.Views.{is_failed, plate_of}
use Rattle.cell_diagnosis.specs.RestRules.{rest}
use Rattle.cell_diagnosis.specs.declared.verdict.Verdict.TheVariants.{Pending}
use Rattle.cell_ports.specs.declared.plan.Plan.{Plan}
use Rattle.cell_turns.specs.Minds.{Mind}
use Rattle.cell_turns.specs.Turns.{mind_after}
use Rattle.cell_sim.specs.Hands.{after_home, after_remove}
use Rattle.cell_sim.specs.Looks.{is_belt}
use Rattle.cell_sim.specs.Moves.{moves}
use Rattle.cell_sim.specs.Parts.{axis_at}
use Rattle.cell_sim.specs.Readings.{after_round, is_silent_in, shown}
use Rattle.cell_sim.specs.Simulated.{Simulated}
use Rattle.cell_world.specs.Agreeing.{has_belt}
use Rattle.cell_world.specs.BeltTurning.{BeltAsBooked, StationsAsBooked}
use Rattle.cell_world.specs.Belts.{Conveying}
use Rattle.cell_world.specs.Going.{IsAtRest, IsPlain}
use Rattle.cell_world.specs.Laying.{GreenIsWanted}
use Rattle.cell_world.specs.Starting.{StandsAs, one_more}
use Rattle.cell_world.specs.Switched.{AxisAsBooked, with_mind}
use Rattle.cell_world.specs.Tie.{IsFairPlan, IsTied}
use Rattle.cell_world.specs.Turning.{after_turn}
use Rattle.cell_world.specs.Whole.{CellAsBooked, IsTurnOf, WayAsBooked}

-- an axis stands still in the world, where the book has it or has it on its way to, and no reading of it is missing
pub record IsHalted (J : List Entry) (w : Simulated) (a : Axis) : Type 0 where
  pub stands : StandsAs J a (axis_at w a).pose
  pub still : moves (axis_at w a).motion ≡ false
  pub read : is_silent_in (axis_at w a).motion ≡ false

-- a machine is booked failed, as it was at its last turn, and all its axes stand still
pub record HasStopped (J : List Entry) (m : Machine) (s : Mind) (w : Simulated) : Type 0 where
  pub failed : is_failed J m ≡ true
  pub was_failed : s.memory.failed ≡ true
  pub was_obeyed : s.memory.command_failed ≡ false
  pub plain : IsPlain w
  pub halted : (a : Axis) → machine_of_axis a ≡ m → IsHalted J w a

-- a machine was repaired since its last turn, and its axes are at rest in the book and in the world
pub record IsRepaired (J : List Entry) (m : Machine) (s : Mind) (w : Simulated) : Type 0 where
  pub healthy : is_failed J m ≡ false
  pub was_failed : s.memory.failed ≡ true
  pub was_obeyed : s.memory.command_failed ≡ false
  pub plain : IsPlain w
  pub rest : (a : Axis) → machine_of_axis a ≡ m → IsAtRest J w a

-- a machine is as booked, whether it is asked to stop or not
pub record Works (J : List Entry) (m : Machine) (s : Mind) (Tie : Type 0) : Type 0 where
  pub healthy : is_failed J m ≡ false
  pub was_healthy : s.memory.failed ≡ false
  pub was_obeyed : s.memory.command_failed ≡ false
  pub tied : Tie
  pub agreed : rest s.rest ≡ Pending

abbrev pub WorksOrStopped : List Entry → Plan → Machine → Mind → Simulated → Type 0
WorksOrStopped J p m s w = Works J m s (IsTied J p m s.axis w) ⊎ (HasStopped J m s w ⊎ IsRepaired J m s w)

-- each machine without a belt is as booked, has stopped or was repaired; the belts are as booked, and all stations, but
-- for a plate that was laid in or taken out under a green light; and the light is green only while it is wanted
pub record CellWithStops (l : BookLimits) (J : List Entry) (p : Plan) (minds : Machine → Mind) (w : Simulated) : Type 0
  where
    pub legal : legal l J ≡ true
    pub fair : IsFairPlan p w
    pub wanted : GreenIsWanted J p
    pub switches : (m : Machine) → has_belt m ≡ false → WorksOrStopped J p m (minds m) w
    pub belts : (m : Machine) → has_belt m ≡ true → BeltAsBooked J p m (minds m) w
    pub stations : StationsAsBooked J p w

-- so it is where no machine is asked to stop
abbrev pub NoneStopped : Type 0
NoneStopped =
    (l : BookLimits) (J : List Entry) (p : Plan) (minds : Machine → Mind) (w : Simulated)
    → CellAsBooked l J p minds w → GreenIsWanted J p → CellWithStops l J p minds w

-- it stays so through the turn of each machine, and no collision is counted
abbrev pub StopsKept : Type 0
StopsKept =
    (l : BookLimits) (J : List Entry) (p : Plan) (minds : Machine → Mind) (w : Simulated) (m : Machine)
    (e : Option Entry)
    → CellWithStops l J p minds w → IsTurnOf l J p m (minds m) w e
    → CellWithStops l (J ++ option_to_list e) p (with_mind m (mind_after J m p (minds m) (shown w m) e) minds)
    (after_turn w m e)
    × ((after_turn w m e).collisions ≡ w.collisions)

-- and where the operator asks a machine without a belt to stop, of which nothing comes in the world yet
abbrev pub AskingKeeps : Type 0
AskingKeeps =
    (l : BookLimits) (J : List Entry) (p : Plan) (minds : Machine → Mind) (w : Simulated) (m : Machine)
    → has_belt m ≡ false → first_of l J (StopAsked m) ≡ None → CellWithStops l J p minds w
    → CellWithStops l (one_more J (StopAsked m)) p minds w

-- and where he repairs one, whose axes he first puts at home
abbrev pub RepairingKeeps : Type 0
RepairingKeeps =
    (l : BookLimits) (J : List Entry) (p : Plan) (minds : Machine → Mind) (w : Simulated) (m : Machine)
    → has_belt m ≡ false → first_of l J (Repaired m) ≡ None → CellWithStops l J p minds w
    → CellWithStops l (one_more J (Repaired m)) p minds (after_home m w)

-- and where he clears a station of one, from which he takes the plate that the book has there
abbrev pub ClearingKeeps : Type 0
ClearingKeeps =
    (l : BookLimits) (J : List Entry) (p : Plan) (minds : Machine → Mind) (w : Simulated) (k : ℕ) (s : Station)
    → has_belt (machine_of_station s) ≡ false → plate_of J s ≡ Some k → first_of l J (Quarantined k s) ≡ None
    → CellWithStops l J p minds w → CellWithStops l (one_more J (Quarantined k s)) p minds (after_remove s w)

-- and through the end of each round
abbrev pub StoppedRoundKept : Type 0
StoppedRoundKept =
    (l : BookLimits) (J : List Entry) (p : Plan) (minds : Machine → Mind) (w : Simulated)
    → CellWithStops l J p minds w → CellWithStops l J p minds (after_round w)

-- then each axis with switches rests in the world where it rests in the book, and goes where it goes, or stands still;
-- and so do the belts, of which none is stopped
abbrev pub StopsAreWorld : Type 0
StopsAreWorld =
    (l : BookLimits) (J : List Entry) (p : Plan) (minds : Machine → Mind) (w : Simulated)
    → CellWithStops l J p minds w
    → ((a : Axis) → is_belt a ≡ false
    → AxisAsBooked J w a ⊎ ((is_failed J (machine_of_axis a) ≡ true) × IsHalted J w a))
    × ((c : Conveying) → WayAsBooked J w c)
