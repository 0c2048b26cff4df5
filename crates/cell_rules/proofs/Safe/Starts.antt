-- A motion is started: the part of the invariant that is about axes and zones is kept.
use Rattle.std.proofs.Common.{◌≡◌, Bool, true, false, ◌&&◌, ◌||◌, not, Some, None, refl, arith}
use Rattle.cell_types.specs.declared.words.Machine.{Machine}
use Rattle.cell_types.specs.declared.words.Station.{Station}
use Rattle.cell_types.specs.declared.words.Axis.{Axis}
use Rattle.cell_types.specs.declared.words.Pose.{Pose}
use Rattle.cell_types.specs.declared.words.Zone.{Zone}
use Rattle.cell_types.specs.declared.words.Arm.{Arm}
use Rattle.cell_types.specs.Same.{same_axis}
use Rattle.cell_types.specs.Cell.{machine_of_axis}
use Rattle.cell_rules.specs.First.{press_tests, started_tests}
use Rattle.cell_types.specs.After.{is_machine, Snapshot}
use Rattle.cell_rules.specs.SituationIn.{situation_in}
use Rattle.cell_rules.proofs.Safe.Facts.{pose_same, Axes, axes_of, rest, going_to, Passed, resting, held}
use Rattle.cell_rules.proofs.Safe.Motion.{Spot, Holders, Facing, inside, TableWaits, press_goes, may_go, runs_in}
use Rattle.cell_rules.proofs.Safe.Motion.{MotionSafe, Away, arm_put, fits_put, fits_starts, begun, begun_owned}
use Rattle.cell_rules.proofs.Safe.Arms.{start_one, start_two, arm_may_go, arm_stands}

-- the tests ask for just those zones in which the axis runs, one row for each axis with zones
lift_own : (h : Holders) → h Zone.Z1 ≡ Some Machine.Table → h Zone.Z2 ≡ Some Machine.Table → (z : Zone)
    → runs_in Axis.TableLift z ≡ true → h z ≡ Some Machine.Table
lift_own h e f z g = grind (arith, pose_same)

turn_own : (h : Holders) → h Zone.Z1 ≡ Some Machine.Table → h Zone.Z2 ≡ Some Machine.Table → (z : Zone)
    → runs_in Axis.TableTurn z ≡ true → h z ≡ Some Machine.Table
turn_own h e f z g = grind (arith, pose_same)

press_one_own : (h : Holders) → h Zone.Z3 ≡ Some Machine.Press1 → (z : Zone) → runs_in Axis.PressOne z ≡ true
    → h z ≡ Some Machine.Press1
press_one_own h e z f = grind (arith, pose_same)

press_two_own : (h : Holders) → h Zone.Z4 ≡ Some Machine.Press2 → (z : Zone) → runs_in Axis.PressTwo z ≡ true
    → h z ≡ Some Machine.Press2
press_two_own h e z f = grind (arith, pose_same)

deposit_own : (h : Holders) → h Zone.Z5 ≡ Some Machine.Deposit → (z : Zone) → runs_in Axis.DepositBelt z ≡ true
    → h z ≡ Some Machine.Deposit
deposit_own h e z f = grind (arith, pose_same)

-- an axis starts that is no arm
start_other : (ax : Axes) (h : Holders) (a : Axis) (to : Pose) → MotionSafe ax h → may_go a (ax a).at to ≡ true
    → ((x : Spot) → Facing ax h x → Away x a) → same_axis a Axis.ArmOne ≡ false → same_axis a Axis.ArmTwo ≡ false
    → ((z : Zone) → runs_in a z ≡ true → h z ≡ Some (machine_of_axis a))
    → ((begun ax a to Axis.FeedBelt).going ≡ Some Pose.ToTable → TableWaits (begun ax a to) h)
    → MotionSafe (begun ax a to) h
start_other ax h a to m g w one two own feed =
    record {
      owned = begun_owned ax h a to m.owned own;
      arm_one = arm_put ax h a (going_to (ax a).at to) Arm.Arm1 w one m.arm_one;
      arm_two = arm_put ax h a (going_to (ax a).at to) Arm.Arm2 w two m.arm_two;
      feed = feed;
      fitting = fits_put ax a (going_to (ax a).at to) (fits_starts a (ax a) to g (m.fitting a)) m.fitting;
    }

-- arms reach the table, the presses and the deposit belt, and none of these spots looks at the feed belt
feed_away : (x : Spot) → Away x Axis.FeedBelt
feed_away x = grind (arith, pose_same)

-- who holds the zone keeps the robot away
lift_away : (ax : Axes) (h : Holders) → h Zone.Z2 ≡ Some Machine.Table → (x : Spot) → Facing ax h x
    → Away x Axis.TableLift
lift_away ax h e x f = grind (arith, pose_same)

turn_away : (ax : Axes) (h : Holders) → h Zone.Z2 ≡ Some Machine.Table → (x : Spot) → Facing ax h x
    → Away x Axis.TableTurn
turn_away ax h e x f = grind (arith, pose_same)

press_one_away : (ax : Axes) (h : Holders) → h Zone.Z3 ≡ Some Machine.Press1 → (x : Spot) → Facing ax h x
    → Away x Axis.PressOne
press_one_away ax h e x f = grind (arith, pose_same)

press_two_away : (ax : Axes) (h : Holders) → h Zone.Z4 ≡ Some Machine.Press2 → (x : Spot) → Facing ax h x
    → Away x Axis.PressTwo
press_two_away ax h e x f = grind (arith, pose_same)

deposit_away : (ax : Axes) (h : Holders) → h Zone.Z5 ≡ Some Machine.Deposit → (x : Spot) → Facing ax h x
    → Away x Axis.DepositBelt
deposit_away ax h e x f = grind (arith, pose_same)

-- the tests of a press say that it goes round, and that it holds its zone
pub record PressStarts (s : Snapshot) (m : Machine) (a : Axis) (z : Zone) (to : Pose) : Type 0 where
  pub goes : press_goes (s.at a) to ≡ true
  pub zone : s.holder z ≡ Some m
  pub still : s.going a ≡ None

-- the tests name the pose at which the press rests, and from each there is one way on
press_starts_from : (s : Snapshot) (m : Machine) (a : Axis) (z : Zone) (from to : Pose) → press_goes from to ≡ true
    → axes_of s a ≡ rest from → s.holder z ≡ Some m → PressStarts s m a z to
unfolding is_machine
press_starts_from s m a z from to e f g = grind (arith, pose_same)

pub press_starts : (s : Snapshot) (m : Machine) (a : Axis) (z : Zone) (t : Station) (to : Pose)
    → Passed (press_tests (situation_in s) m a z t to) → PressStarts s m a z to
unfolding is_machine
press_starts s m a z t to e = grind (arith, pose_same)

-- the test of an axis with poses
pub may_start : (g u v : Bool) → (g || (not u || v)) ≡ false → (u && not v) ≡ true
may_start g u v e = grind (arith, pose_same)

-- axis by axis: the tests of each ask for what the invariant wants of it while it moves
pub motion_started : (s : Snapshot) (a : Axis) (to : Pose) → MotionSafe (axes_of s) s.holder
    → Passed (started_tests (situation_in s) a to) → MotionSafe (begun (axes_of s) a to) s.holder
motion_started s Axis.FeedBelt Pose.ToEnd m h =
    start_other (axes_of s) s.holder Axis.FeedBelt Pose.ToEnd m refl (λ x f. feed_away x) refl refl (λ z r. cc)
    (λ t. cc)
motion_started s Axis.FeedBelt Pose.ToTable m h =
    start_other (axes_of s) s.holder Axis.FeedBelt Pose.ToTable m refl (λ x f. feed_away x) refl refl (λ z r. cc)
    (λ t. record {
      zone = held s Machine.Feed Zone.Z1 h.1.1.1.1.0;
      lift = resting s Axis.TableLift Pose.Low h.1.1.0;
      turn = resting s Axis.TableTurn Pose.Belt h.1.1.1.0;
    })
motion_started s Axis.FeedBelt _ m h = let e = h.0 in cc
motion_started s Axis.TableLift to m h =
    let e = held s Machine.Table Zone.Z1 h.1.1.0 in
    let g = held s Machine.Table Zone.Z2 h.1.1.1.0 in
    start_other (axes_of s) s.holder Axis.TableLift to m (may_start _ _ _ h.0) (lift_away (axes_of s) s.holder g) refl
    refl (lift_own s.holder e g)
    (λ t. let w = m.feed t in let r = w.zone in cc)
motion_started s Axis.TableTurn to m h =
    let e = held s Machine.Table Zone.Z1 h.1.1.0 in
    let g = held s Machine.Table Zone.Z2 h.1.1.1.0 in
    start_other (axes_of s) s.holder Axis.TableTurn to m (may_start _ _ _ h.1.0) (turn_away (axes_of s) s.holder g) refl
    refl (turn_own s.holder e g)
    (λ t. let w = m.feed t in let r = w.zone in cc)
motion_started s Axis.RobotTurn to m h =
    record {
      owned = begun_owned (axes_of s) s.holder Axis.RobotTurn to m.owned (λ z r. cc);
      arm_one = inside (resting s Axis.ArmOne Pose.In h.1.0);
      arm_two = inside (resting s Axis.ArmTwo Pose.In h.1.1.0);
      feed = λ t. let w = m.feed t in record { zone = w.zone; lift = w.lift; turn = w.turn };
      fitting = fits_put (axes_of s) Axis.RobotTurn (going_to (s.at Axis.RobotTurn) to)
          (fits_starts Axis.RobotTurn (axes_of s Axis.RobotTurn) to (may_start _ _ _ h.0) (m.fitting Axis.RobotTurn))
          m.fitting;
    }
motion_started s Axis.ArmOne to m h =
    let g = arm_stands s Arm.Arm1 to m.arm_one h in
    start_one (axes_of s) s.holder g.spot to m (arm_may_go s Arm.Arm1 to h) g.own g.faced
motion_started s Axis.ArmTwo to m h =
    let g = arm_stands s Arm.Arm2 to m.arm_two h in
    start_two (axes_of s) s.holder g.spot to m (arm_may_go s Arm.Arm2 to h) g.own g.faced
motion_started s Axis.PressOne to m h =
    let p = press_starts s Machine.Press1 Axis.PressOne Zone.Z3 Station.Press1 to h in
    start_other (axes_of s) s.holder Axis.PressOne to m p.goes (press_one_away (axes_of s) s.holder p.zone) refl refl
    (press_one_own s.holder p.zone)
    (λ t. let w = m.feed t in record { zone = w.zone; lift = w.lift; turn = w.turn })
motion_started s Axis.PressTwo to m h =
    let p = press_starts s Machine.Press2 Axis.PressTwo Zone.Z4 Station.Press2 to h in
    start_other (axes_of s) s.holder Axis.PressTwo to m p.goes (press_two_away (axes_of s) s.holder p.zone) refl refl
    (press_two_own s.holder p.zone)
    (λ t. let w = m.feed t in record { zone = w.zone; lift = w.lift; turn = w.turn })
motion_started s Axis.DepositBelt Pose.ToEnd m h =
    start_other (axes_of s) s.holder Axis.DepositBelt Pose.ToEnd m refl
    (deposit_away (axes_of s) s.holder (held s Machine.Deposit Zone.Z5 h.1.0)) refl refl
    (deposit_own s.holder (held s Machine.Deposit Zone.Z5 h.1.0))
    (λ t. let w = m.feed t in record { zone = w.zone; lift = w.lift; turn = w.turn })
motion_started s Axis.DepositBelt _ m h = let e = h.0 in cc
