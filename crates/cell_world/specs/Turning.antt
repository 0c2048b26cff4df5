-- A turn of a machine with switches, without an operator and without a fault
use Rattle.std.specs.Prelude.{◌≡◌, true, false, Bool, Option, Some, None, List, ◌++◌, IfSome, option_to_list}
use Rattle.cell_types.specs.declared.words.Machine.{Machine}
use Rattle.cell_types.specs.declared.words.Station.{Station}
use Rattle.cell_types.specs.declared.words.Station.TheVariants as station
use Rattle.cell_types.specs.declared.words.Entry.{Entry}
use Rattle.cell_types.specs.Cell.{machine_of_station}
use Rattle.cell_rules.specs.declared.limits.BookLimits.{BookLimits}
use Rattle.cell_rules.specs.Legal.{first_of, legal}
use Rattle.cell_rules.specs.Views.{is_asked, is_failed}
use Rattle.cell_diagnosis.specs.RestRules.{rest}
use Rattle.cell_diagnosis.specs.declared.verdict.Verdict.TheVariants.{Pending}
use Rattle.cell_ports.specs.declared.plan.Plan.{Plan}
use Rattle.cell_turns.specs.Minds.{Mind}
use Rattle.cell_turns.specs.Turns.{IsDecided, mind_after}
use Rattle.cell_sim.specs.Readings.{after_reading, shown}
use Rattle.cell_sim.specs.Simulated.{Simulated}
use Rattle.cell_world.specs.Agreeing.{has_belt}
use Rattle.cell_world.specs.Handing.{HasBooked}
use Rattle.cell_world.specs.Starting.{RobotMayStand, after_entry}
use Rattle.cell_world.specs.Tie.{IsFairPlan, IsTied}

-- a machine is as booked: it is healthy, as it was at its last turn; book, world and axis watch are tied; and the rest
-- watch found nothing
pub record AsBooked (J : List Entry) (m : Machine) (s : Mind) (Tie : Type 0) : Type 0 where
  pub healthy : is_failed J m ≡ false
  pub unasked : is_asked J m ≡ false
  pub was_healthy : s.memory.failed ≡ false
  pub was_obeyed : s.memory.command_failed ≡ false
  pub tied : Tie
  pub agreed : rest s.rest ≡ Pending

abbrev pub IsAsBooked : List Entry → Plan → Machine → Mind → Simulated → Type 0
IsAsBooked J p m s w = AsBooked J m s (IsTied J p m s.axis w)

-- all stations but those where the operator lays plates in and takes them
abbrev pub is_within : Station → Bool
is_within station.FeedIn = false
is_within station.DepEnd = false
is_within _ = true

-- what a turn of it begins with: the stations of machines that failed needn't be as booked
pub record TurnBegins (l : BookLimits) (J : List Entry) (p : Plan) (m : Machine) (s : Mind) (w : Simulated) : Type 0
  where
    pub legal : legal l J ≡ true
    pub fair : IsFairPlan p w
    pub as_booked : IsAsBooked J p m s w
    pub plates : (t : Station) → is_within t ≡ true → is_failed J (machine_of_station t) ≡ false → HasBooked J w t
    pub robot : RobotMayStand J w

-- the world after a turn that read the machine and booked this
abbrev pub after_turn : Simulated → Machine → Option Entry → Simulated
after_turn w m None = after_reading w m
after_turn w m (Some e) = after_entry (after_reading w m) e

-- what it leaves: the machine is as booked, and so is each station that was before; and no collision was counted
pub record TurnLeaves (J J' : List Entry) (p : Plan) (m : Machine) (s : Mind) (w w' : Simulated) : Type 0 where
  pub as_booked : IsAsBooked J' p m s w'
  pub plates : (t : Station) → HasBooked J w t → HasBooked J' w' t
  pub collisions : w'.collisions ≡ w.collisions

-- whatever it decides at what the world shows, and the book has
abbrev pub TurnKeeps : Type 0
TurnKeeps =
    (l : BookLimits) (J : List Entry) (p : Plan) (m : Machine) (s : Mind) (w : Simulated) (e : Option Entry)
    → has_belt m ≡ false → TurnBegins l J p m s w → IsDecided l J m p s (shown w m) e
    → IfSome e (λ x. first_of l J x ≡ None)
    → TurnLeaves J (J ++ option_to_list e) p m (mind_after J m p s (shown w m) e) w (after_turn w m e)

-- no turn changes how long motions take, or how many plates were cleared
abbrev pub DurationsStay : Type 0
DurationsStay =
    (w : Simulated) (m : Machine) (e : Option Entry)
    → ((after_turn w m e).durations ≡ w.durations) × ((after_turn w m e).cleared ≡ w.cleared)
