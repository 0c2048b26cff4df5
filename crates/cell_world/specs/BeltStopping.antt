-- A belt's machine that the operator stops and repairs, without a fault
use Rattle.std.specs.Prelude.{◌≡◌, ◌≢◌, ◌⊎◌, ◌+◌, ◌<◌, ℕ, true, false, Option, Some, None, List, ◌++◌, option_to_list}
use Rattle.std.specs.Prelude.{IfSome}
use Rattle.cell_types.specs.declared.words.Axis.{Axis}
use Rattle.cell_types.specs.declared.words.Axis.TheVariants as axis
use Rattle.cell_types.specs.declared.words.Belt.TheVariants as belt
use Rattle.cell_types.specs.declared.words.Cause.TheVariants as cause
use Rattle.cell_types.specs.declared.words.Colour.TheVariants as colour
use Rattle.cell_types.specs.declared.words.Entry.{Entry}
use Rattle.cell_types.specs.declared.words.Entry.TheVariants.{Declared, Lamp, Quarantined, Repaired}
use Rattle.cell_types.specs.declared.words.Machine.{Machine}
use Rattle.cell_types.specs.declared.words.Machine.TheVariants as machine
use Rattle.cell_types.specs.declared.words.Station.{Station}
use Rattle.cell_types.specs.declared.words.Station.TheVariants as station
use Rattle.cell_types.specs.declared.words.Zone.TheVariants as zone
use Rattle.cell_types.specs.Cell.{machine_of_axis, machine_of_station}
use Rattle.cell_rules.specs.declared.limits.BookLimits.{BookLimits}
use Rattle.cell_rules.specs.Legal.{first_of, legal}
use Rattle.cell_rules.specs.Views.{expected_of, holder_of, is_asked, is_failed, lamp_of, plate_of}
use Rattle.cell_ports.specs.declared.plan.Plan.{Plan}
use Rattle.cell_turns.specs.Minds.{Mind}
use Rattle.cell_turns.specs.Turns.{IsDecided, mind_after}
use Rattle.cell_sim.specs.declared.motion.Phase.TheVariants.{Arrived}
use Rattle.cell_sim.specs.declared.world.Plate.{Plate}
use Rattle.cell_sim.specs.Hands.{after_home, after_remove, carried_by}
use Rattle.cell_sim.specs.Moves.{moves}
use Rattle.cell_sim.specs.Parts.{axis_at, plate_at, plate_here, with_plate}
use Rattle.cell_sim.specs.Readings.{is_silent_in, shown}
use Rattle.cell_sim.specs.Simulated.{Simulated}
use Rattle.cell_world.specs.Agreeing.{has_belt}
use Rattle.cell_world.specs.Belts.{BeltRests, Conveying, EndsAsBefore, belt_of, dest_of, from_of, light_of, machine_of}
use Rattle.cell_world.specs.Belts.{path_with}
use Rattle.cell_world.specs.BeltTurning.{IsBeltTied, StationsAsBooked, way_of}
use Rattle.cell_world.specs.Going.{IsPlain}
use Rattle.cell_world.specs.Handing.{HasBooked}
use Rattle.cell_world.specs.Laying.{GreenIsWanted, LayingAsBooked, NoneIsLaid, TakingAsBooked, admitted_in}
use Rattle.cell_world.specs.Sparing.{IsSpared}
use Rattle.cell_world.specs.Starting.{RobotMayStand, one_more}
use Rattle.cell_world.specs.Stopping.{Works}
use Rattle.cell_world.specs.Tie.{IsFairPlan}
use Rattle.cell_world.specs.Tied.{motion_along}
use Rattle.cell_world.specs.Turning.{after_turn, is_within}

-- a belt's machine is booked failed, as it was at its last turn; its light is red, and its belt stands still
pub record BeltHasStopped (J : List Entry) (m : Machine) (s : Mind) (w : Simulated) : Type 0 where
  pub failed : is_failed J m ≡ true
  pub was_failed : s.memory.failed ≡ true
  pub was_obeyed : s.memory.command_failed ≡ false
  pub plain : IsPlain w
  pub red : light_of (way_of m) w ≡ colour.Red
  pub still : (a : Axis) → machine_of_axis a ≡ m → moves (axis_at w a).motion ≡ false
  pub read : (a : Axis) → machine_of_axis a ≡ m → is_silent_in (axis_at w a).motion ≡ false

-- a plate of the plan was laid in under the green light before the machine stopped, and isn't booked
pub record OneIsLeft (J : List Entry) (p : Plan) (w : Simulated) : Type 0 where
  pub plate : plate_at w station.FeedIn ≡ Some (admitted_in J + 1)
  pub count : w.laid ≡ admitted_in J + 1
  pub planned : admitted_in J < p.plates
  pub unbooked : plate_of J station.FeedIn ≡ None

-- where plates are laid in, while the machine is stopped
pub record LayingStopped (J : List Entry) (p : Plan) (w : Simulated) : Type 0 where
  pub red : lamp_of J belt.Feed ≡ colour.Red
  pub light : w.feed_light ≡ colour.Red
  pub laid : NoneIsLaid J w ⊎ OneIsLeft J p w
  pub planned : w.planned ≡ p.plates
  pub untrusting : w.is_trusting ≡ false
  pub unexpected : expected_of J ≡ None

-- where plates are taken out, while the machine is stopped: a booked plate may be missing
pub record TakingStopped (J : List Entry) (w : Simulated) : Type 0 where
  pub red : lamp_of J belt.Deposit ≡ colour.Red
  pub light : w.deposit_light ≡ colour.Red
  pub taken : HasBooked J w station.DepEnd ⊎ (plate_at w station.DepEnd ≡ None)

abbrev pub LayingBy : List Entry → Plan → Machine → Simulated → Type 0
LayingBy J p machine.Feed w = LayingStopped J p w
LayingBy J p _ w = LayingAsBooked J p w

abbrev pub TakingBy : List Entry → Machine → Simulated → Type 0
TakingBy J machine.Deposit w = TakingStopped J w
TakingBy J _ w = TakingAsBooked J w

-- all stations are as booked while one belt's machine is stopped, but for a plate that was laid in or taken out before
-- it stopped
pub record StationsBut (J : List Entry) (p : Plan) (m : Machine) (w : Simulated) : Type 0 where
  pub laying : LayingBy J p m w
  pub taking : TakingBy J m w
  pub within : (t : Station) → is_within t ≡ true → HasBooked J w t

-- the world with the plate that a belt brought put back where its motion began
abbrev pub put_back : Conveying → Plate → Simulated → Simulated
put_back c k w = with_plate (from_of c) (Some k) (with_plate (dest_of c) None w)

-- a belt's plate is at its end in the world, and booked where its motion began: it came at the reading of the turn that
-- stopped the machine, and the motion still has its number
pub record HasBrought (J : List Entry) (m : Machine) (w : Simulated) : Type 0 where
  pub way : Conveying
  pub plate : Plate
  pub of : machine_of way ≡ m
  pub gone : plate_here w (from_of way) ≡ None
  pub there : plate_here w (dest_of way) ≡ Some plate
  pub booked : plate_of J (from_of way) ≡ Some plate.number
  pub free : plate_of J (dest_of way) ≡ None
  pub further : ℕ
  pub carried : (axis_at w (belt_of way)).motion
      ≡ Some (record (motion_along (path_with way plate) further Arrived) { stopped = true })

-- the stations while a belt's machine is stopped, with the plate that its belt brought put back, if it brought one
abbrev pub StationsStopped : List Entry → Plan → Machine → Simulated → Type 0
StationsStopped J p m w =
    StationsBut J p m w ⊎ ((b : HasBrought J m w) × StationsBut J p m (put_back b.way b.plate w))

-- what the turn of a belt's machine begins with that works and is asked to stop
pub record BeltStopBegins (l : BookLimits) (J : List Entry) (p : Plan) (m : Machine) (s : Mind) (w : Simulated) : Type 0
  where
    pub legal : legal l J ≡ true
    pub asked : is_asked J m ≡ true
    pub works : Works J m s (IsBeltTied J p m s.axis w)
    pub stations : StationsAsBooked J p w

-- what it leaves
pub record BeltStopLeaves (J : List Entry) (p : Plan) (m : Machine) (s : Mind) (w w' : Simulated) : Type 0 where
  pub stopped : BeltHasStopped J m s w'
  pub stations : StationsStopped J p m w'
  pub collisions : w'.collisions ≡ w.collisions

-- it stops, whatever is shown
abbrev pub BeltStops : Type 0
BeltStops =
    (l : BookLimits) (J : List Entry) (p : Plan) (m : Machine) (s : Mind) (w : Simulated) (e : Option Entry)
    → has_belt m ≡ true → BeltStopBegins l J p m s w → IsDecided l J m p s (shown w m) e
    → IfSome e (λ x. first_of l J x ≡ None)
    → (e ≡ Some (Declared m cause.OperatorStop))
    × BeltStopLeaves (J ++ option_to_list e) p m (mind_after J m p s (shown w m) e) w (after_turn w m e)

-- while it is stopped its turns book nothing and change nothing in the world
abbrev pub BeltStands : Type 0
BeltStands =
    (l : BookLimits) (J : List Entry) (p : Plan) (m : Machine) (s : Mind) (w : Simulated) (e : Option Entry)
    → has_belt m ≡ true → BeltHasStopped J m s w → IsDecided l J m p s (shown w m) e
    → (e ≡ None) × (after_turn w m e ≡ w)
    × BeltHasStopped J m (mind_after J m p s (shown w m) e) (after_turn w m e)

-- a belt's machine was repaired since its last turn, and its belt is at rest in the book and in the world
pub record BeltIsRepaired (J : List Entry) (m : Machine) (s : Mind) (w : Simulated) : Type 0 where
  pub healthy : is_failed J m ≡ false
  pub was_failed : s.memory.failed ≡ true
  pub was_obeyed : s.memory.command_failed ≡ false
  pub rests : BeltRests J (way_of m) None w

-- the repair of one leaves it so, and all stations as booked, but for a plate that was laid in before it stopped
abbrev pub BeltRepairs : Type 0
BeltRepairs =
    (l : BookLimits) (J : List Entry) (p : Plan) (m : Machine) (s : Mind) (w : Simulated)
    → has_belt m ≡ true → legal l J ≡ true → first_of l J (Repaired m) ≡ None → BeltHasStopped J m s w
    → StationsStopped J p m w
    → BeltIsRepaired (one_more J (Repaired m)) m s (after_home m w)
    × (StationsAsBooked (one_more J (Repaired m)) p (after_home m w)
    ⊎ ((m ≡ machine.Feed) × OneIsLeft (one_more J (Repaired m)) p (after_home m w)
    × StationsBut (one_more J (Repaired m)) p m (after_home m w)))

-- what the first turn begins with after a repair that left all stations as booked
pub record BeltAnewBegins (l : BookLimits) (J : List Entry) (p : Plan) (m : Machine) (s : Mind) (w : Simulated) : Type 0
  where
    pub legal : legal l J ≡ true
    pub fair : IsFairPlan p w
    pub unasked : is_asked J m ≡ false
    pub repaired : BeltIsRepaired J m s w
    pub stations : StationsAsBooked J p w
    pub robot : RobotMayStand J w

-- what it leaves: the machine works, all stations are as booked, and no collision was counted
pub record BeltAnewLeaves (J : List Entry) (p : Plan) (m : Machine) (s : Mind) (w w' : Simulated) : Type 0 where
  pub works : Works J m s (IsBeltTied J p m s.axis w')
  pub stations : StationsAsBooked J p w'
  pub collisions : w'.collisions ≡ w.collisions

-- whatever it decides at what the world shows
abbrev pub BeltBeginsAnew : Type 0
BeltBeginsAnew =
    (l : BookLimits) (J : List Entry) (p : Plan) (m : Machine) (s : Mind) (w : Simulated) (e : Option Entry)
    → has_belt m ≡ true → BeltAnewBegins l J p m s w → IsDecided l J m p s (shown w m) e
    → IfSome e (λ x. first_of l J x ≡ None)
    → BeltAnewLeaves (J ++ option_to_list e) p m (mind_after J m p s (shown w m) e) w (after_turn w m e)

-- what the first turn of the feed machine begins with after a repair that left a plate: no plate is booked on its belt,
-- and it holds no zone
pub record FeedAnewBegins (l : BookLimits) (J : List Entry) (p : Plan) (s : Mind) (w : Simulated) : Type 0 where
  pub legal : legal l J ≡ true
  pub unasked : is_asked J machine.Feed ≡ false
  pub repaired : BeltIsRepaired J machine.Feed s w
  pub stations : StationsBut J p machine.Feed w
  pub left : OneIsLeft J p w
  pub front : plate_of J station.FeedIn ≡ None
  pub back : plate_of J station.FeedEnd ≡ None
  pub unheld : holder_of J zone.Z1 ≢ Some machine.Feed

-- it turns the light green, under which the plate lies there as one that was laid in
abbrev pub FeedBeginsAnew : Type 0
FeedBeginsAnew =
    (l : BookLimits) (J : List Entry) (p : Plan) (s : Mind) (w : Simulated) (e : Option Entry)
    → FeedAnewBegins l J p s w → IsDecided l J machine.Feed p s (shown w machine.Feed) e
    → IfSome e (λ x. first_of l J x ≡ None)
    → (e ≡ Some (Lamp belt.Feed colour.Green))
    × BeltAnewLeaves (J ++ option_to_list e) p machine.Feed
    (mind_after J machine.Feed p s (shown w machine.Feed) e) w (after_turn w machine.Feed e)

-- no belt's motion begins at a station of the other belt, or where a belt ends
pub record PathsBegin (w : Simulated) : Type 0 where
  pub feed : (s : Station) → machine_of_station s ≢ machine.Feed
      → carried_by (axis_at w axis.FeedBelt).motion s ≡ None
  pub deposit : (s : Station) → s ≢ station.DepIn → carried_by (axis_at w axis.DepositBelt).motion s ≡ None

-- what the clearing of a station of a belt's stopped machine begins with
pub record BeltClearBegins (l : BookLimits) (J : List Entry) (p : Plan) (k : ℕ) (s : Station) (i : Mind)
    (w : Simulated) : Type 0
  where
    pub legal : legal l J ≡ true
    pub here : plate_of J s ≡ Some k
    pub allowed : first_of l J (Quarantined k s) ≡ None
    pub stopped : BeltHasStopped J (machine_of_station s) i w
    pub stations : StationsBut J p (machine_of_station s) w
    pub paths : PathsBegin w
    pub wanted : GreenIsWanted J p

-- where no plate was brought at the last reading, it takes the booked plate out, or none where that was taken out
-- already
abbrev pub BeltClears : Type 0
BeltClears =
    (l : BookLimits) (J : List Entry) (p : Plan) (k : ℕ) (s : Station) (i : Mind) (w : Simulated)
    → has_belt (machine_of_station s) ≡ true → BeltClearBegins l J p k s i w
    → BeltHasStopped (one_more J (Quarantined k s)) (machine_of_station s) i (after_remove s w)
    × StationsBut (one_more J (Quarantined k s)) p (machine_of_station s) (after_remove s w)

-- what the clearing of the station begins with where a plate is booked that a stopped machine's belt brought to its end
pub record BroughtClearBegins (l : BookLimits) (J : List Entry) (p : Plan) (m : Machine) (i : Mind) (w : Simulated)
    (b : HasBrought J m w) : Type 0
  where
    pub legal : legal l J ≡ true
    pub allowed : first_of l J (Quarantined b.plate.number (from_of b.way)) ≡ None
    pub stopped : BeltHasStopped J m i w
    pub stations : StationsBut J p m (put_back b.way b.plate w)
    pub paths : PathsBegin w
    pub wanted : GreenIsWanted J p

-- it takes the plate out where it is, and all stations are then as booked, but for a plate that was laid in or taken
-- out before the machine stopped
abbrev pub BroughtClears : Type 0
BroughtClears =
    (l : BookLimits) (J : List Entry) (p : Plan) (m : Machine) (i : Mind) (w : Simulated) (b : HasBrought J m w)
    → BroughtClearBegins l J p m i w b
    → BeltHasStopped (one_more J (Quarantined b.plate.number (from_of b.way))) m i (after_remove (from_of b.way) w)
    × StationsBut (one_more J (Quarantined b.plate.number (from_of b.way))) p m (after_remove (from_of b.way) w)

-- what another machine's turn, the operator or a round leaves as it is of a stopped machine's light and stations
pub record IsBeside (J K : List Entry) (m : Machine) (w v : Simulated) : Type 0 where
  pub spared : IsSpared m J K w v
  pub failed : is_failed K m ≡ is_failed J m
  pub light : light_of (way_of m) v ≡ light_of (way_of m) w
  pub world : (c : Conveying) → machine_of c ≡ m → EndsAsBefore c w v
  pub book : (c : Conveying) → machine_of c ≡ m
      → (plate_of K (from_of c) ≡ plate_of J (from_of c)) × (plate_of K (dest_of c) ≡ plate_of J (dest_of c))

-- then it is stopped as before, and a plate that its belt brought is where it was
abbrev pub StoppedSpared : Type 0
StoppedSpared =
    (J K : List Entry) (m : Machine) (s : Mind) (w v : Simulated) → has_belt m ≡ true → IsBeside J K m w v
    → (BeltHasStopped J m s w → BeltHasStopped K m s v) × (HasBrought J m w → HasBrought K m v)

-- what the first turn begins with after a repair that left all stations as booked, where the machine is asked to stop
-- again
pub record BeltStopAnewBegins (l : BookLimits) (J : List Entry) (p : Plan) (m : Machine) (s : Mind) (w : Simulated)
    : Type 0
  where
    pub legal : legal l J ≡ true
    pub asked : is_asked J m ≡ true
    pub repaired : BeltIsRepaired J m s w
    pub stations : StationsAsBooked J p w

-- it stops again
abbrev pub BeltStopsAnew : Type 0
BeltStopsAnew =
    (l : BookLimits) (J : List Entry) (p : Plan) (m : Machine) (s : Mind) (w : Simulated) (e : Option Entry)
    → has_belt m ≡ true → BeltStopAnewBegins l J p m s w → IsDecided l J m p s (shown w m) e
    → IfSome e (λ x. first_of l J x ≡ None)
    → (e ≡ Some (Declared m cause.OperatorStop))
    × BeltStopLeaves (J ++ option_to_list e) p m (mind_after J m p s (shown w m) e) w (after_turn w m e)
