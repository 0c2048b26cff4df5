-- An arm starts: its tests say where it stands, and it keeps the part of the invariant about axes and zones.
use Rattle.std.proofs.Common.{◌≡◌, ◌≢◌, true, Option, None, is_some, refl, sym, ap, ◌∙◌}
use Rattle.std.proofs.Common.{arith, if◌then◌else◌}
use Rattle.cell_types.specs.declared.words.Axis.{Axis}
use Rattle.cell_types.specs.declared.words.Pose.{Pose}
use Rattle.cell_types.specs.declared.words.Arm.{Arm}
use Rattle.cell_types.specs.declared.words.AxisState.{AxisState}
use Rattle.cell_types.specs.Same.{same_axis}
use Rattle.cell_types.specs.Cell.{axis_of_arm, faced}
use Rattle.cell_rules.specs.First.{outward_tests, arm_tests}
use Rattle.cell_types.specs.After.{is_machine, Snapshot, with_at}
use Rattle.cell_rules.specs.SituationIn.{situation_in}
use Rattle.cell_rules.proofs.Safe.Facts.{pose_same, Axes, axes_of, rest, going_to, Passed}
use Rattle.cell_rules.proofs.Safe.Motion.{Spot, spot_arm}
use Rattle.cell_rules.proofs.Safe.Motion.{Holders, Facing, ArmSafe, facing, may_go, MotionSafe, Away}
use Rattle.cell_rules.proofs.Safe.Motion.{facing_put, arm_put, fits_put, fits_starts, begun, begun_owned}

-- the arm itself moves out, or on its way
pub arm_put_facing : (ax : Axes) (h : Holders) (a : Axis) (s : AxisState) (arm : Arm) (x : Spot) → spot_arm x ≡ arm
    → Away x a → Facing ax h x → ArmSafe (with_at (same_axis a) s ax) h arm
arm_put_facing ax h a s arm x e w f = facing x e (facing_put ax h a s x w f)

-- what an arm reaches is told by the robot's turn and the owner's axes, and never by an arm
one_away : (x : Spot) → Away x Axis.ArmOne
one_away x = grind (arith, pose_same)

two_away : (x : Spot) → Away x Axis.ArmTwo
two_away x = grind (arith, pose_same)

-- An arm goes out: where it stands, and that it is in.
pub record GoesOut (s : Snapshot) (arm : Arm) : Type 0 where
  pub spot : Spot
  pub own : spot_arm spot ≡ arm
  pub faced : Facing (axes_of s) s.holder spot
  pub in_before : axes_of s (axis_of_arm arm) ≡ rest Pose.In

-- the pose of the robot's turn tells the spot, and the tests say that the owner is ready there
out_row : (s : Snapshot) (arm : Arm) (p : Pose) → axes_of s Axis.RobotTurn ≡ rest p
    → Passed (outward_tests (situation_in s) (axis_of_arm arm) (faced arm p)) → GoesOut s arm
unfolding is_machine
out_row s arm p e f = grind (arith, pose_same)

-- a robot that turns faces nothing, so an arm is let out only where the turn rests
goes_out_case : (s : Snapshot) (arm : Arm) (o : Option Pose) → s.going Axis.RobotTurn ≡ o
    → Passed (outward_tests (situation_in s) (axis_of_arm arm)
    (if is_some o then None else faced arm (s.at Axis.RobotTurn))) → GoesOut s arm
unfolding is_machine
goes_out_case s arm o e f = grind (arith, pose_same)

pub goes_out : (s : Snapshot) (arm : Arm) → Passed (arm_tests (situation_in s) arm Pose.Out) → GoesOut s arm
goes_out s arm h = goes_out_case s arm (s.going Axis.RobotTurn) refl h

-- An arm goes out, or in: then the other is in.
arm_begins : (ax : Axes) (h : Holders) (arm : Arm) (x : Spot) (to : Pose) → spot_arm x ≡ arm → Facing ax h x
    → ArmSafe (begun ax (axis_of_arm arm) to) h arm
arm_begins ax h Arm.Arm1 x to e f =
    arm_put_facing ax h Axis.ArmOne (going_to (ax Axis.ArmOne).at to) Arm.Arm1 x e (one_away x) f
arm_begins ax h Arm.Arm2 x to e f =
    arm_put_facing ax h Axis.ArmTwo (going_to (ax Axis.ArmTwo).at to) Arm.Arm2 x e (two_away x) f

-- the spot of either arm doesn't depend on an arm's axis, so both stay where they may be
pub start_one : (ax : Axes) (h : Holders) (x : Spot) (to : Pose) → MotionSafe ax h
    → may_go Axis.ArmOne (ax Axis.ArmOne).at to ≡ true → spot_arm x ≡ Arm.Arm1 → Facing ax h x
    → MotionSafe (begun ax Axis.ArmOne to) h
start_one ax h x to m g e f =
    record {
      owned = begun_owned ax h Axis.ArmOne to m.owned (λ z r. cc);
      arm_one = arm_begins ax h Arm.Arm1 x to e f;
      arm_two = arm_put ax h Axis.ArmOne (going_to (ax Axis.ArmOne).at to) Arm.Arm2 (λ y d. one_away y) refl m.arm_two;
      feed = λ t. let w = m.feed t in record { zone = w.zone; lift = w.lift; turn = w.turn };
      fitting = fits_put ax Axis.ArmOne (going_to (ax Axis.ArmOne).at to)
          (fits_starts Axis.ArmOne (ax Axis.ArmOne) to g (m.fitting Axis.ArmOne)) m.fitting;
    }

pub start_two : (ax : Axes) (h : Holders) (x : Spot) (to : Pose) → MotionSafe ax h
    → may_go Axis.ArmTwo (ax Axis.ArmTwo).at to ≡ true → spot_arm x ≡ Arm.Arm2 → Facing ax h x
    → MotionSafe (begun ax Axis.ArmTwo to) h
start_two ax h x to m g e f =
    record {
      owned = begun_owned ax h Axis.ArmTwo to m.owned (λ z r. cc);
      arm_one = arm_put ax h Axis.ArmTwo (going_to (ax Axis.ArmTwo).at to) Arm.Arm1 (λ y d. two_away y) refl m.arm_one;
      arm_two = arm_begins ax h Arm.Arm2 x to e f;
      feed = λ t. let w = m.feed t in record { zone = w.zone; lift = w.lift; turn = w.turn };
      fitting = fits_put ax Axis.ArmTwo (going_to (ax Axis.ArmTwo).at to)
          (fits_starts Axis.ArmTwo (ax Axis.ArmTwo) to g (m.fitting Axis.ArmTwo)) m.fitting;
    }

-- an arm that rests at Out stands somewhere
pub record Stands (ax : Axes) (h : Holders) (arm : Arm) : Type 0 where
  pub spot : Spot
  pub own : spot_arm spot ≡ arm
  pub faced : Facing ax h spot

pub stands : (ax : Axes) (h : Holders) (arm : Arm) → ArmSafe ax h arm → ax (axis_of_arm arm) ≢ rest Pose.In
    → Stands ax h arm
stands ax h arm e f = grind (arith, pose_same)

pub not_in : (s : AxisState) (p : Pose) → s ≡ rest p → p ≢ Pose.In → s ≢ rest Pose.In
not_in s p e n i = let a : p ≡ Pose.In = ap (λ (t : AxisState). t.at) (sym e ∙ i) in n a

pub at_is : (s : Snapshot) (a : Axis) (p : Pose) → axes_of s a ≡ rest p → s.at a ≡ p
at_is s a p e = ap (λ (t : AxisState). t.at) e

-- which motion of an arm the tests let through
pub arm_may_go : (s : Snapshot) (arm : Arm) (to : Pose) → Passed (arm_tests (situation_in s) arm to)
    → may_go (axis_of_arm arm) (axes_of s (axis_of_arm arm)).at to ≡ true
unfolding is_machine
arm_may_go s arm to e = grind (arith, pose_same)

-- an arm on its way out is told its spot by the tests, and one on its way in is out at a spot already
pub arm_stands : (s : Snapshot) (arm : Arm) (to : Pose) → ArmSafe (axes_of s) s.holder arm
    → Passed (arm_tests (situation_in s) arm to) → Stands (axes_of s) s.holder arm
unfolding is_machine
arm_stands s arm to e f = grind (arith, pose_same)
