-- Which entries are refused, and by which test: for each kind of entry its tests in the order of the refusals
use Rattle.std.specs.Prelude.{ℕ, ◌==◌, ◌+◌, nat_le, Bool, true, false, not, ◌&&◌, ◌||◌, Option, Some, None, is_some}
use Rattle.std.specs.Prelude.{is_none, List, [], ◌∷◌, ◌++◌, if◌then◌else◌}
use Rattle.cell_types.specs.declared.words.Machine.{Machine}
use Rattle.cell_types.specs.declared.words.Machine.TheVariants as machine
use Rattle.cell_types.specs.declared.words.Station.{Station}
use Rattle.cell_types.specs.declared.words.Station.TheVariants as station
use Rattle.cell_types.specs.declared.words.Axis.{Axis}
use Rattle.cell_types.specs.declared.words.Axis.TheVariants as axis
use Rattle.cell_types.specs.declared.words.Pose.{Pose}
use Rattle.cell_types.specs.declared.words.Pose.TheVariants as pose
use Rattle.cell_types.specs.declared.words.Zone.{Zone}
use Rattle.cell_types.specs.declared.words.Zone.TheVariants as zone
use Rattle.cell_types.specs.declared.words.Arm.{Arm}
use Rattle.cell_types.specs.declared.words.Arm.TheVariants as arm
use Rattle.cell_types.specs.declared.words.Belt.{Belt}
use Rattle.cell_types.specs.declared.words.Belt.TheVariants as belt
use Rattle.cell_types.specs.declared.words.Colour.{Colour}
use Rattle.cell_types.specs.declared.words.Colour.TheVariants as colour
use Rattle.cell_types.specs.declared.words.Entry.{Entry}
use Rattle.cell_types.specs.declared.words.Entry.TheVariants.{Lamp, Admitted, Claimed, Yielded, Started, Arrived}
use Rattle.cell_types.specs.declared.words.Entry.TheVariants.{Conveyed, Forged, Gripped, Dropped, Delivered, Declared}
use Rattle.cell_types.specs.declared.words.Entry.TheVariants.{StopAsked, Quarantined, Repaired, Expected, Reinstated}
use Rattle.cell_types.specs.Same.{same_machine, same_station, same_pose, same_colour}
use Rattle.cell_types.specs.declared.cell.BeltMotion.{BeltMotion}
use Rattle.cell_types.specs.Cell.{machine_of_axis, machine_of_station, is_before_press, machine_of_belt, is_pose_of}
use Rattle.cell_types.specs.Cell.{owner, visitor, axis_of_arm, station_of_arm, motion_to, Faced, faced, grips_at}
use Rattle.cell_types.specs.Cell.{drops_at}
use Rattle.cell_types.specs.After.{is_machine, is_plate}
use Rattle.cell_types.specs.Room.{is_full}
use Rattle.cell_rules.specs.Situations.{Situation}
use Rattle.cell_rules.specs.declared.limits.BookLimits.{BookLimits}
use Rattle.cell_rules.specs.declared.refusal.Refusal.{Refusal}
use Rattle.cell_rules.specs.declared.refusal.Refusal.TheVariants.{JournalFull, PlateLimit, MachineFailed}
use Rattle.cell_rules.specs.declared.refusal.Refusal.TheVariants.{MachineHealthy, OwnerFailed, WrongPose, ZoneTaken}
use Rattle.cell_rules.specs.declared.refusal.Refusal.TheVariants.{NotHolder, NotNeighbour, StationEmpty, StationFull}
use Rattle.cell_rules.specs.declared.refusal.Refusal.TheVariants.{WrongPlate, LampRed, LampAlready, NoPress}
use Rattle.cell_rules.specs.declared.refusal.Refusal.TheVariants.{AlreadyAsked, PlateStillThere, PlateExpected}
use Rattle.cell_rules.specs.declared.refusal.Refusal.TheVariants.{NotReturnable}

-- a condition, and the refusal where it holds
abbrev pub Test : Type 0
Test = Bool × Refusal

-- the refusal of the first test that holds
unfoldable pub first_true : List (Bool × Refusal) → Option Refusal
first_true [] = None
first_true (t ∷ ts) = if t.0 then Some t.1 else first_true ts

-- words on the cell

abbrev pub is_pose : Pose → Option Pose → Bool
is_pose p (Some q) = same_pose q p
is_pose p None = false

abbrev pub rests_at : Situation → Axis → Pose → Bool
rests_at c a p = is_none (c.going a) && same_pose (c.at a) p

-- what an arm faces while the turn is at rest
abbrev pub faces : Situation → Arm → Option Faced
faces c arm = if is_some (c.going axis.RobotTurn) then None else faced arm (c.at axis.RobotTurn)

abbrev pub is_faced : Station → Option Faced → Bool
is_faced s (Some f) = same_station f.station s
is_faced s None = false

-- the tests, each with its refusal

-- six places past the limit are for declarations alone
abbrev pub journal_full : BookLimits → Situation → Entry → Test
journal_full limits c e = (is_full limits.entries c.entries e, JournalFull)

abbrev pub plate_limit : BookLimits → Situation → Test
plate_limit limits c = (nat_le limits.plates c.admitted, PlateLimit)

abbrev pub machine_failed : Situation → Machine → Test
machine_failed c m = (c.failed m, MachineFailed m)

abbrev pub machine_healthy : Situation → Machine → Test
machine_healthy c m = (not (c.failed m), MachineHealthy m)

abbrev pub owner_failed : Situation → Machine → Test
owner_failed c m = (c.failed m, OwnerFailed m)

abbrev pub not_at_rest : Situation → Axis → Test
not_at_rest c a = (is_some (c.going a), WrongPose a)

abbrev pub not_resting_at : Situation → Axis → Pose → Test
not_resting_at c a p = (not (rests_at c a p), WrongPose a)

abbrev pub all_resting : Situation → List (Axis × Pose) → List (Bool × Refusal)
all_resting c [] = []
all_resting c (x ∷ xs) = not_resting_at c x.0 x.1 ∷ all_resting c xs

-- the axis moves, has no such pose or is there already
abbrev pub cannot_go : Situation → Axis → Pose → Test
cannot_go c a to =
    (is_some (c.going a) || (not (is_pose_of a to) || same_pose (c.at a) to), WrongPose a)

abbrev pub not_going : Situation → Axis → Pose → Test
not_going c a to = (not (is_pose to (c.going a)), WrongPose a)

abbrev pub no_such_motion : Axis → Test
no_such_motion a = (true, WrongPose a)

abbrev pub zone_taken : Situation → Zone → Test
zone_taken c z = (is_some (c.holder z), ZoneTaken z)

abbrev pub not_holder : Situation → Machine → Zone → Test
not_holder c m z = (not (is_machine m (c.holder z)), NotHolder z)

abbrev pub station_empty : Situation → Station → Test
station_empty c s = (not (c.occupied s), StationEmpty s)

abbrev pub station_full : Situation → Station → Test
station_full c s = (c.occupied s, StationFull s)

abbrev pub plate_not_at : Situation → Station → ℕ → Test
plate_not_at c s k = (not (c.holds s k), WrongPlate)

abbrev pub other_plate_at : Situation → Station → ℕ → Test
other_plate_at c s k = (c.other s k, WrongPlate)

-- a plate waits in quarantine from a station that isn't before a press
abbrev pub waits_behind : Option Station → Bool
waits_behind (Some s) = not (is_before_press s)
waits_behind None = false

-- plate k isn't in quarantine
abbrev pub not_waiting : Situation → ℕ → Test
not_waiting c k = (is_none (c.waits k), WrongPlate)

abbrev pub plate_expected : Situation → Test
plate_expected c = (is_some c.expected, PlateExpected)

abbrev pub not_returnable : Situation → ℕ → Test
not_returnable c k = (waits_behind (c.waits k), NotReturnable)

-- k isn't the plate that is expected
abbrev pub not_expected : Situation → ℕ → Test
not_expected c k = (not (is_plate k c.expected), WrongPlate)

-- k isn't the next plate's number
abbrev pub wrong_number : Situation → ℕ → Test
wrong_number c k = (not (k == c.admitted + 1), WrongPlate)

abbrev pub lamp_red : Situation → Belt → Test
lamp_red c b = (same_colour (c.lamp b) colour.Red, LampRed b)

abbrev pub lamp_already : Situation → Belt → Colour → Test
lamp_already c b to = (same_colour (c.lamp b) to, LampAlready b)

-- a zone of m is held by its visitor
abbrev pub visited : Situation → Machine → Zone → Test
visited c m z = (same_machine (owner z) m && is_machine (visitor z) (c.holder z), ZoneTaken z)

unfoldable pub any_visited : Situation → Machine → List (Bool × Refusal)
any_visited c m =
    visited c m zone.Z1 ∷ visited c m zone.Z2 ∷ visited c m zone.Z3 ∷ visited c m zone.Z4 ∷ visited c m zone.Z5 ∷ []

-- a station of m has a plate
abbrev pub still_there : Situation → Machine → Station → Test
still_there c m s = (same_machine (machine_of_station s) m && c.occupied s, PlateStillThere s)

unfoldable pub any_still_there : Situation → Machine → List (Bool × Refusal)
any_still_there c m =
    still_there c m station.FeedIn ∷ still_there c m station.FeedEnd ∷ still_there c m station.Table
    ∷ still_there c m station.Arm1 ∷ still_there c m station.Arm2 ∷ still_there c m station.Press1
    ∷ still_there c m station.Press2 ∷ still_there c m station.DepIn ∷ still_there c m station.DepEnd ∷ []

-- the tests of each kind of entry, beyond those that all have

abbrev pub lamp_tests : Situation → Belt → Colour → List (Bool × Refusal)
lamp_tests c belt.Feed colour.Green =
    not_at_rest c axis.FeedBelt ∷ station_full c station.FeedIn ∷ station_full c station.FeedEnd
    ∷ lamp_already c belt.Feed colour.Green ∷ []
lamp_tests c belt.Deposit colour.Green =
    not_at_rest c axis.DepositBelt ∷ station_empty c station.DepEnd ∷ lamp_already c belt.Deposit colour.Green ∷ []
lamp_tests c b colour.Red = lamp_already c b colour.Red ∷ []

-- m would visit a machine that failed
abbrev pub visits_failed : Situation → Machine → Zone → Test
visits_failed c m z = (same_machine m (visitor z) && c.failed (owner z), OwnerFailed (owner z))

abbrev pub no_neighbour : Machine → Zone → Test
no_neighbour m z = (not (same_machine m (owner z) || same_machine m (visitor z)), NotNeighbour)

abbrev pub claimed_tests : Situation → Machine → Zone → List (Bool × Refusal)
claimed_tests c m z = visits_failed c m z ∷ zone_taken c z ∷ no_neighbour m z ∷ []

-- the axes that have to stand before a machine gives up a zone
abbrev pub parked_tests : Situation → Machine → List (Bool × Refusal)
parked_tests c machine.Feed = not_at_rest c axis.FeedBelt ∷ []
parked_tests c machine.Table = not_at_rest c axis.TableLift ∷ not_at_rest c axis.TableTurn ∷ []
parked_tests c machine.Robot = not_resting_at c axis.ArmOne pose.In ∷ not_resting_at c axis.ArmTwo pose.In ∷ []
parked_tests c machine.Press1 = not_at_rest c axis.PressOne ∷ []
parked_tests c machine.Press2 = not_at_rest c axis.PressTwo ∷ []
parked_tests c machine.Deposit = not_at_rest c axis.DepositBelt ∷ []

abbrev pub outward_tests : Situation → Axis → Option Faced → List (Bool × Refusal)
outward_tests c a None = (true, WrongPose axis.RobotTurn) ∷ []
outward_tests c a (Some f) =
    owner_failed c f.owner
    ∷ (all_resting c f.before ++ not_resting_at c a pose.In ∷ all_resting c f.after ++ not_holder c machine.Robot f.zone
    ∷ [])

abbrev pub arm_tests : Situation → Arm → Pose → List (Bool × Refusal)
arm_tests c arm pose.Out = outward_tests c (axis_of_arm arm) (faces c arm)
arm_tests c arm pose.In = not_resting_at c (axis_of_arm arm) pose.Out ∷ []
arm_tests c arm _ = no_such_motion (axis_of_arm arm) ∷ []

abbrev pub press_tests : Situation → Machine → Axis → Zone → Station → Pose → List (Bool × Refusal)
press_tests c m a z s pose.Top = not_resting_at c a pose.Middle ∷ not_holder c m z ∷ station_empty c s ∷ []
press_tests c m a z s pose.Bottom = not_resting_at c a pose.Top ∷ not_holder c m z ∷ []
press_tests c m a z s pose.Middle = not_resting_at c a pose.Bottom ∷ not_holder c m z ∷ station_full c s ∷ []
press_tests c m a z s _ = no_such_motion a ∷ []

abbrev pub feed_belt_tests : Situation → Pose → List (Bool × Refusal)
feed_belt_tests c pose.ToEnd =
    not_at_rest c axis.FeedBelt ∷ station_empty c station.FeedIn ∷ station_full c station.FeedEnd ∷ []
feed_belt_tests c pose.ToTable =
    owner_failed c machine.Table ∷ not_at_rest c axis.FeedBelt ∷ not_resting_at c axis.TableLift pose.Low
    ∷ not_resting_at c axis.TableTurn pose.Belt ∷ not_holder c machine.Feed zone.Z1
    ∷ station_empty c station.FeedEnd ∷ station_full c station.Table ∷ []
feed_belt_tests c _ = no_such_motion axis.FeedBelt ∷ []

abbrev pub deposit_belt_tests : Situation → Pose → List (Bool × Refusal)
deposit_belt_tests c pose.ToEnd =
    not_at_rest c axis.DepositBelt ∷ not_holder c machine.Deposit zone.Z5
    ∷ station_empty c station.DepIn ∷ station_full c station.DepEnd ∷ []
deposit_belt_tests c _ = no_such_motion axis.DepositBelt ∷ []

abbrev pub started_tests : Situation → Axis → Pose → List (Bool × Refusal)
started_tests c axis.FeedBelt to = feed_belt_tests c to
started_tests c axis.TableLift to =
    cannot_go c axis.TableLift to ∷ not_at_rest c axis.TableTurn
    ∷ not_holder c machine.Table zone.Z1 ∷ not_holder c machine.Table zone.Z2 ∷ []
started_tests c axis.TableTurn to =
    not_at_rest c axis.TableLift ∷ cannot_go c axis.TableTurn to
    ∷ not_holder c machine.Table zone.Z1 ∷ not_holder c machine.Table zone.Z2 ∷ []
started_tests c axis.RobotTurn to =
    cannot_go c axis.RobotTurn to ∷ not_resting_at c axis.ArmOne pose.In ∷ not_resting_at c axis.ArmTwo pose.In ∷ []
started_tests c axis.ArmOne to = arm_tests c arm.Arm1 to
started_tests c axis.ArmTwo to = arm_tests c arm.Arm2 to
started_tests c axis.PressOne to = press_tests c machine.Press1 axis.PressOne zone.Z3 station.Press1 to
started_tests c axis.PressTwo to = press_tests c machine.Press2 axis.PressTwo zone.Z4 station.Press2 to
started_tests c axis.DepositBelt to = deposit_belt_tests c to

-- whether a motion of the axis to this pose ends by Arrived: no belt's, and no press's to Top
abbrev pub ends_by_arrival : Axis → Pose → Bool
ends_by_arrival axis.FeedBelt _ = false
ends_by_arrival axis.DepositBelt _ = false
ends_by_arrival axis.PressOne pose.Top = false
ends_by_arrival axis.PressTwo pose.Top = false
ends_by_arrival _ _ = true

abbrev pub no_arrival : Situation → Axis → Pose → Test
no_arrival c a p = (not (is_pose p (c.going a) && ends_by_arrival a p), WrongPose a)

abbrev pub conveyed_tests : Situation → Axis → ℕ → Option BeltMotion → List (Bool × Refusal)
conveyed_tests c a k None = no_such_motion a ∷ []
conveyed_tests c a k (Some m) = not_going c a m.to ∷ plate_not_at c m.from k ∷ []

abbrev pub forged_tests : Situation → Machine → ℕ → List (Bool × Refusal)
forged_tests c machine.Press1 k = not_going c axis.PressOne pose.Top ∷ plate_not_at c station.Press1 k ∷ []
forged_tests c machine.Press2 k = not_going c axis.PressTwo pose.Top ∷ plate_not_at c station.Press2 k ∷ []
forged_tests c _ k = (true, NoPress) ∷ []

-- arm and station, and between them the tests of a grip or a drop, from one station to another
abbrev pub handing_tests : Situation → Arm → Station → Station → Station → ℕ → List (Bool × Refusal)
handing_tests c arm at from to k =
    owner_failed c (machine_of_station at)
    ∷ (not (is_faced at (faces c arm)), WrongPose axis.RobotTurn)
    ∷ not_resting_at c (axis_of_arm arm) pose.Out
    ∷ station_empty c from ∷ station_full c to ∷ other_plate_at c from k ∷ []

abbrev pub neighbour_tests : Bool → List (Bool × Refusal) → List (Bool × Refusal)
neighbour_tests true ts = ts
neighbour_tests false ts = (true, NotNeighbour) ∷ []

abbrev pub quarantined_tests : Situation → ℕ → Station → List (Bool × Refusal)
quarantined_tests c k src =
    machine_healthy c (machine_of_station src)
    ∷ (any_visited c (machine_of_station src) ++ station_empty c src ∷ other_plate_at c src k ∷ [])

abbrev pub repaired_tests : Situation → Machine → List (Bool × Refusal)
repaired_tests c m = machine_healthy c m ∷ (any_visited c m ++ any_still_there c m)

abbrev pub expected_tests : Situation → ℕ → List (Bool × Refusal)
expected_tests c k =
    not_waiting c k ∷ lamp_already c belt.Feed colour.Green ∷ plate_expected c ∷ not_returnable c k ∷ []

abbrev pub reinstated_tests : Situation → ℕ → List (Bool × Refusal)
reinstated_tests c k = machine_failed c machine.Feed ∷ not_expected c k ∷ lamp_red c belt.Feed ∷ []

-- the tests of an entry by its kind
abbrev pub kind_tests : BookLimits → Situation → Entry → List (Bool × Refusal)
kind_tests l c (Lamp b to) = machine_failed c (machine_of_belt b) ∷ lamp_tests c b to
kind_tests l c (Admitted k) =
    plate_limit l c ∷ machine_failed c machine.Feed
    ∷ wrong_number c k ∷ lamp_red c belt.Feed ∷ plate_expected c ∷ []
kind_tests l c (Claimed m z) = machine_failed c m ∷ claimed_tests c m z
kind_tests l c (Yielded m z) = machine_failed c m ∷ (parked_tests c m ++ not_holder c m z ∷ [])
kind_tests l c (Started a to) = machine_failed c (machine_of_axis a) ∷ started_tests c a to
kind_tests l c (Arrived a at) =
    machine_failed c (machine_of_axis a) ∷ no_arrival c a at ∷ []
kind_tests l c (Conveyed a k dest) =
    machine_failed c (machine_of_axis a) ∷ conveyed_tests c a k (motion_to a dest)
kind_tests l c (Forged m k) = machine_failed c m ∷ forged_tests c m k
kind_tests l c (Gripped arm k src) =
    machine_failed c machine.Robot
    ∷ neighbour_tests (grips_at arm src) (handing_tests c arm src src (station_of_arm arm) k)
kind_tests l c (Dropped arm k dest) =
    machine_failed c machine.Robot
    ∷ neighbour_tests (drops_at arm dest) (handing_tests c arm dest (station_of_arm arm) dest k)
kind_tests l c (Delivered k) =
    machine_failed c machine.Deposit ∷ other_plate_at c station.DepEnd k ∷ lamp_red c belt.Deposit ∷ []
kind_tests l c (Declared m cause) = machine_failed c m ∷ []
kind_tests l c (StopAsked m) = machine_failed c m ∷ (c.asked m, AlreadyAsked m) ∷ []
kind_tests l c (Quarantined k src) = quarantined_tests c k src
kind_tests l c (Repaired m) = repaired_tests c m
kind_tests l c (Expected k) = expected_tests c k
kind_tests l c (Reinstated k) = reinstated_tests c k

-- all of them: there is room for the entry, and then those of its kind
abbrev pub tests : BookLimits → Situation → Entry → List (Bool × Refusal)
tests l c e = journal_full l c e ∷ kind_tests l c e

-- the refusal of an entry by a cell, if there is one
abbrev pub first : BookLimits → Situation → Entry → Option Refusal
first l c e = first_true (tests l c e)
