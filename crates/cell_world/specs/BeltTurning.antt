-- A turn of a belt's machine, without an operator and without a fault
use Rattle.std.specs.Prelude.{◌≡◌, true, Option, None, List, ◌++◌, ◌⊎◌, IfSome, option_to_list}
use Rattle.cell_types.specs.declared.words.Machine.{Machine}
use Rattle.cell_types.specs.declared.words.Machine.TheVariants as machine
use Rattle.cell_types.specs.declared.words.Station.{Station}
use Rattle.cell_types.specs.declared.words.Entry.{Entry}
use Rattle.cell_rules.specs.declared.limits.BookLimits.{BookLimits}
use Rattle.cell_rules.specs.Legal.{first_of, legal}
use Rattle.cell_ports.specs.declared.plan.Plan.{Plan}
use Rattle.cell_turns.specs.Following.{Following}
use Rattle.cell_turns.specs.Minds.{Mind}
use Rattle.cell_turns.specs.Turns.{IsDecided, mind_after}
use Rattle.cell_sim.specs.declared.world.Plate.{Plate}
use Rattle.cell_sim.specs.Readings.{shown}
use Rattle.cell_sim.specs.Simulated.{Simulated}
use Rattle.cell_world.specs.Agreeing.{has_belt}
use Rattle.cell_world.specs.Belts.{BeltGoes, BeltRests, Conveying, belt_of, machine_of, name_of, to_deposit_end}
use Rattle.cell_world.specs.Belts.{to_feed_end}
use Rattle.cell_world.specs.Handing.{HasBooked}
use Rattle.cell_world.specs.Laying.{LayingAsBooked, TakingAsBooked}
use Rattle.cell_world.specs.Starting.{RobotMayStand, further_in}
use Rattle.cell_world.specs.Tie.{IsFairPlan}
use Rattle.cell_world.specs.Tied.{Given, IsFair, further_of, motion_by}
use Rattle.cell_world.specs.Turning.{AsBooked, after_turn, is_within}

-- a motion of the machine's belt
abbrev pub way_of : Machine → Conveying
way_of machine.Feed = to_feed_end
way_of _ = to_deposit_end

-- the belt carries a plate on one of its motions, which takes as long as the world's motions do
pub record BeltCarries (J : List Entry) (p : Plan) (m : Machine) (f : Option Following) (w : Simulated) : Type 0 where
  pub way : Conveying
  pub plate : Plate
  pub given : Given
  pub of : machine_of way ≡ m
  pub long : further_of given ≡ further_in w (belt_of way) (name_of way)
  pub fair : IsFair (motion_by J p (belt_of way) (name_of way)) (further_of given)
  pub goes : BeltGoes J p way plate given f w

-- book, world and axis watch of a belt's machine are tied
abbrev pub IsBeltTied : List Entry → Plan → Machine → Option Following → Simulated → Type 0
IsBeltTied J p m f w = BeltRests J (way_of m) f w ⊎ BeltCarries J p m f w

-- a belt's machine is as booked
abbrev pub BeltAsBooked : List Entry → Plan → Machine → Mind → Simulated → Type 0
BeltAsBooked J p m s w = AsBooked J m s (IsBeltTied J p m s.axis w)

-- all stations are as booked, but for a plate that was laid in or taken out under a green light
pub record StationsAsBooked (J : List Entry) (p : Plan) (w : Simulated) : Type 0 where
  pub laying : LayingAsBooked J p w
  pub taking : TakingAsBooked J w
  pub within : (t : Station) → is_within t ≡ true → HasBooked J w t

-- what a turn of it begins with
pub record BeltTurnBegins (l : BookLimits) (J : List Entry) (p : Plan) (m : Machine) (s : Mind) (w : Simulated) : Type 0
  where
    pub legal : legal l J ≡ true
    pub fair : IsFairPlan p w
    pub as_booked : BeltAsBooked J p m s w
    pub stations : StationsAsBooked J p w
    pub robot : RobotMayStand J w

-- what it leaves: the machine and all stations are as booked, and no collision was counted
pub record BeltTurnLeaves (J : List Entry) (p : Plan) (m : Machine) (s : Mind) (w w' : Simulated) : Type 0 where
  pub as_booked : BeltAsBooked J p m s w'
  pub stations : StationsAsBooked J p w'
  pub collisions : w'.collisions ≡ w.collisions

-- whatever it decides at what the world shows, and the book has
abbrev pub BeltTurnKeeps : Type 0
BeltTurnKeeps =
    (l : BookLimits) (J : List Entry) (p : Plan) (m : Machine) (s : Mind) (w : Simulated) (e : Option Entry)
    → has_belt m ≡ true → BeltTurnBegins l J p m s w → IsDecided l J m p s (shown w m) e
    → IfSome e (λ x. first_of l J x ≡ None)
    → BeltTurnLeaves (J ++ option_to_list e) p m (mind_after J m p s (shown w m) e) w (after_turn w m e)
