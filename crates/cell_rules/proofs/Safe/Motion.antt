-- The part of the invariant that is about axes and zones, and what several kinds of entries need to keep it.
use Rattle.std.proofs.Common.{◌≡◌, Bool, true, false, cond, ◌&&◌, ◌||◌, not, Option, Some, None, refl, arith}
use Rattle.std.specs.List.{list_any}
use Rattle.cell_types.specs.declared.words.Machine.{Machine}
use Rattle.cell_types.specs.declared.words.Station.{Station}
use Rattle.cell_types.specs.declared.words.Axis.{Axis}
use Rattle.cell_types.specs.declared.words.Pose.{Pose}
use Rattle.cell_types.specs.declared.words.Zone.{Zone}
use Rattle.cell_types.specs.declared.words.Arm.{Arm}
use Rattle.cell_types.specs.declared.words.AxisState.{AxisState}
use Rattle.cell_types.specs.Same.{same_axis, same_pose}
use Rattle.cell_types.specs.Cell.{machine_of_axis, poses, axis_of_arm}
use Rattle.cell_types.specs.After.{with_at}
use Rattle.cell_rules.proofs.Safe.Facts.{pose_same, and_both, and_true, Axes, rest, going_to}

-- where an arm may stand out: the six rows of arm and turn pose
pub data Spot : Type 0 where
  TableSpot : Spot
  Load1 : Spot
  Load2 : Spot
  Unload1 : Spot
  Unload2 : Spot
  DepositSpot : Spot

abbrev pub spot_arm : Spot → Arm
spot_arm TableSpot = Arm.Arm1
spot_arm Load1 = Arm.Arm1
spot_arm Load2 = Arm.Arm1
spot_arm Unload1 = Arm.Arm2
spot_arm Unload2 = Arm.Arm2
spot_arm DepositSpot = Arm.Arm2

abbrev pub spot_pose : Spot → Pose
spot_pose TableSpot = Pose.Table1
spot_pose Load1 = Pose.P1Load
spot_pose Load2 = Pose.P2Load
spot_pose Unload1 = Pose.P1Unload
spot_pose Unload2 = Pose.P2Unload
spot_pose DepositSpot = Pose.Deposit2

abbrev pub spot_zone : Spot → Zone
spot_zone TableSpot = Zone.Z2
spot_zone Load1 = Zone.Z3
spot_zone Load2 = Zone.Z4
spot_zone Unload1 = Zone.Z3
spot_zone Unload2 = Zone.Z4
spot_zone DepositSpot = Zone.Z5

abbrev pub spot_station : Spot → Station
spot_station TableSpot = Station.Table
spot_station Load1 = Station.Press1
spot_station Load2 = Station.Press2
spot_station Unload1 = Station.Press1
spot_station Unload2 = Station.Press2
spot_station DepositSpot = Station.DepIn

abbrev pub Holders : Type 0
Holders = Zone → Option Machine

-- the owner at a spot is where an arm may reach it
abbrev pub Ready : Axes → Spot → Type 0
Ready ax TableSpot = (ax Axis.TableLift ≡ rest Pose.High) × (ax Axis.TableTurn ≡ rest Pose.Robot)
Ready ax Load1 = ax Axis.PressOne ≡ rest Pose.Middle
Ready ax Load2 = ax Axis.PressTwo ≡ rest Pose.Middle
Ready ax Unload1 = ax Axis.PressOne ≡ rest Pose.Bottom
Ready ax Unload2 = ax Axis.PressTwo ≡ rest Pose.Bottom
Ready ax DepositSpot = ax Axis.DepositBelt ≡ rest Pose.Rest

-- an arm may be out at this spot
pub record Facing (ax : Axes) (h : Holders) (x : Spot) : Type 0 where
  pub turn : ax Axis.RobotTurn ≡ rest (spot_pose x)
  pub zone : h (spot_zone x) ≡ Some Machine.Robot
  pub ready : Ready ax x

-- an arm is in, or it is where it may be out
pub data ArmSafe (ax : Axes) (h : Holders) (arm : Arm) : Type 0 where
  inside : ax (axis_of_arm arm) ≡ rest Pose.In → ArmSafe ax h arm
  facing : (x : Spot) → spot_arm x ≡ arm → Facing ax h x → ArmSafe ax h arm

-- the table waits for the feed belt
pub record TableWaits (ax : Axes) (h : Holders) : Type 0 where
  pub zone : h Zone.Z1 ≡ Some Machine.Feed
  pub lift : ax Axis.TableLift ≡ rest Pose.Low
  pub turn : ax Axis.TableTurn ≡ rest Pose.Belt

abbrev pub has_pose : Axis → Pose → Bool
has_pose a p = list_any (same_pose p) (poses a)

-- a press goes round one way only
abbrev pub press_goes : Pose → Pose → Bool
press_goes Pose.Middle q = same_pose q Pose.Top
press_goes Pose.Top q = same_pose q Pose.Bottom
press_goes Pose.Bottom q = same_pose q Pose.Middle
press_goes _ q = false

-- the motions of an axis, from the pose where it rests
abbrev pub may_go : Axis → Pose → Pose → Bool
may_go Axis.FeedBelt p q = same_pose q Pose.ToEnd || same_pose q Pose.ToTable
may_go Axis.PressOne p q = press_goes p q
may_go Axis.PressTwo p q = press_goes p q
may_go Axis.DepositBelt p q = same_pose q Pose.ToEnd
may_go a p q = has_pose a q && not (same_pose p q)

abbrev pub fits_going : Axis → Pose → Option Pose → Bool
fits_going a p None = true
fits_going a p (Some q) = may_go a p q

-- the pose is one of the axis, and the motion one from there
abbrev pub fits : Axis → AxisState → Bool
fits a s = fits_going a s.at s.going && has_pose a s.at

-- the zones in which an axis moves
abbrev pub runs_in : Axis → Zone → Bool
runs_in Axis.TableLift Zone.Z1 = true
runs_in Axis.TableLift Zone.Z2 = true
runs_in Axis.TableTurn Zone.Z1 = true
runs_in Axis.TableTurn Zone.Z2 = true
runs_in Axis.PressOne Zone.Z3 = true
runs_in Axis.PressTwo Zone.Z4 = true
runs_in Axis.DepositBelt Zone.Z5 = true
runs_in _ _ = false

-- what moves holds its zones
abbrev pub Owned : Axes → Holders → Type 0
Owned ax h = (a : Axis) (q : Pose) (z : Zone) → (ax a).going ≡ Some q → runs_in a z ≡ true
    → h z ≡ Some (machine_of_axis a)

pub record MotionSafe (ax : Axes) (h : Holders) : Type 0 where
  pub arm_one : ArmSafe ax h Arm.Arm1
  pub arm_two : ArmSafe ax h Arm.Arm2
  pub feed : (ax Axis.FeedBelt).going ≡ Some Pose.ToTable → TableWaits ax h
  pub fitting : (a : Axis) → fits a (ax a) ≡ true
  pub owned : Owned ax h

-- an axis on which a spot doesn't depend
abbrev pub Away : Spot → Axis → Type 0
Away TableSpot a = (same_axis a Axis.RobotTurn ≡ false) × (same_axis a Axis.TableLift ≡ false)
    × (same_axis a Axis.TableTurn ≡ false)
Away Load1 a = (same_axis a Axis.RobotTurn ≡ false) × (same_axis a Axis.PressOne ≡ false)
Away Load2 a = (same_axis a Axis.RobotTurn ≡ false) × (same_axis a Axis.PressTwo ≡ false)
Away Unload1 a = (same_axis a Axis.RobotTurn ≡ false) × (same_axis a Axis.PressOne ≡ false)
Away Unload2 a = (same_axis a Axis.RobotTurn ≡ false) × (same_axis a Axis.PressTwo ≡ false)
Away DepositSpot a = (same_axis a Axis.RobotTurn ≡ false) × (same_axis a Axis.DepositBelt ≡ false)

-- put, at the place and elsewhere
pub put_rest : (ax : Axes) (a y : Axis) (s : AxisState) (p : Pose) → ax y ≡ rest p → same_axis a y ≡ false
    → with_at (same_axis a) s ax y ≡ rest p
put_rest ax a y s p e d = rw d e

-- another axis changes
pub facing_put : (ax : Axes) (h : Holders) (a : Axis) (s : AxisState) (x : Spot) → Away x a → Facing ax h x
    → Facing (with_at (same_axis a) s ax) h x
facing_put ax h a s x e f = grind (arith, pose_same)

-- an axis changes on which no spot depends where an arm may be out
pub arm_put : (ax : Axes) (h : Holders) (a : Axis) (s : AxisState) (arm : Arm) → ((x : Spot) → Facing ax h x → Away x a)
    → same_axis a (axis_of_arm arm) ≡ false → ArmSafe ax h arm → ArmSafe (with_at (same_axis a) s ax) h arm
arm_put ax h a s arm w d (inside e) = inside (put_rest ax a (axis_of_arm arm) s Pose.In e d)
arm_put ax h a s arm w d (facing x e f) = facing x e (facing_put ax h a s x (w x f) f)

-- the test of the two axes is named, so that the proof can go by its two values
fits_case : (ax : Axes) (a b : Axis) (s : AxisState) (t : Bool) → same_axis a b ≡ t → fits a s ≡ true
    → fits b (ax b) ≡ true → fits b (cond t s (ax b)) ≡ true
fits_case ax a b s t e f g = grind (arith, pose_same)

pub fits_put : (ax : Axes) (a : Axis) (s : AxisState) → fits a s ≡ true → ((b : Axis) → fits b (ax b) ≡ true)
    → (b : Axis) → fits b (with_at (same_axis a) s ax b) ≡ true
fits_put ax a s n o b = fits_case ax a b s (same_axis a b) refl n (o b)

-- A motion is started: the axis keeps its pose, and goes where it may go from there.
pub fits_starts : (a : Axis) (s : AxisState) (to : Pose) → may_go a s.at to ≡ true → fits a s ≡ true
    → fits a (going_to s.at to) ≡ true
fits_starts a s to g f = and_true (may_go a s.at to) (has_pose a s.at) g
    (and_both (fits_going a s.at s.going) (has_pose a s.at) f).1

abbrev pub begun : Axes → Axis → Pose → Axes
begun ax a to = with_at (same_axis a) (going_to (ax a).at to) ax

-- an axis starts that holds its zones
begun_owned_case : (ax : Axes) (h : Holders) (a y : Axis) (to q : Pose) (z : Zone) (b : Bool) → same_axis a y ≡ b
    → (runs_in a z ≡ true → h z ≡ Some (machine_of_axis a)) → ((ax y).going ≡ Some q → h z ≡ Some (machine_of_axis y))
    → (cond b (going_to (ax a).at to) (ax y)).going ≡ Some q → runs_in y z ≡ true → h z ≡ Some (machine_of_axis y)
begun_owned_case ax h a y to q z b e f g p r = grind (arith, pose_same)

pub begun_owned : (ax : Axes) (h : Holders) (a : Axis) (to : Pose) → Owned ax h
    → ((z : Zone) → runs_in a z ≡ true → h z ≡ Some (machine_of_axis a)) → Owned (begun ax a to) h
begun_owned ax h a to o n y q z g r = begun_owned_case ax h a y to q z (same_axis a y) refl (n z) (λ d. o y q z d r) g r
