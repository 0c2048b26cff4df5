-- What the book asks of a Started of an axis with switches
use Rattle.std.proofs.Common.{◌≡◌, ◌≢◌, Bool, true, false, not, ◌||◌, ◌⊎◌, inl, inr, Option, Some, None, List}
use Rattle.std.proofs.Common.{is_none, is_some, refl, sym, ap, ◌∙◌, subst, if◌then◌else◌}
use Rattle.cell_types.specs.declared.words.Arm.{Arm}
use Rattle.cell_types.specs.declared.words.Arm.TheVariants as arm
use Rattle.cell_types.specs.declared.words.Axis.{Axis}
use Rattle.cell_types.specs.declared.words.Axis.TheVariants as axis
use Rattle.cell_types.specs.declared.words.AxisState.{AxisState}
use Rattle.cell_types.specs.declared.words.Machine.{Machine}
use Rattle.cell_types.specs.declared.words.Machine.TheVariants as machine
use Rattle.cell_types.specs.declared.words.Pose.{Pose}
use Rattle.cell_types.specs.declared.words.Pose.TheVariants as pose
use Rattle.cell_types.specs.declared.words.Station.{Station}
use Rattle.cell_types.specs.declared.words.Station.TheVariants as station
use Rattle.cell_types.specs.declared.words.Zone.{Zone}
use Rattle.cell_types.specs.declared.words.Zone.TheVariants as zone
use Rattle.cell_types.specs.declared.words.Entry.{Entry}
use Rattle.cell_types.specs.declared.words.Entry.TheVariants.{Started}
use Rattle.cell_types.specs.After.{Snapshot, after}
use Rattle.cell_types.specs.Cell.{Faced, axis_of_arm, faced, is_pose_of, machine_of_axis}
use Rattle.cell_types.specs.Same.{same_pose}
use Rattle.cell_rules.specs.declared.refusal.Refusal.{Refusal}
use Rattle.cell_rules.specs.First.{arm_tests, cannot_go, outward_tests}
use Rattle.cell_rules.specs.First.{press_tests, rests_at, started_tests}
use Rattle.cell_rules.specs.Invariants.{MayBeOut}
use Rattle.cell_rules.specs.Legal.{allowed}
use Rattle.cell_rules.specs.Safety.{RestsAt}
use Rattle.cell_rules.specs.SituationIn.{situation_in}
use Rattle.cell_rules.specs.Views.{at_of, going_of}
use Rattle.cell_rules.proofs.Safe.Bridge.{Good, good_passed, good_when_legal}
use Rattle.cell_rules.proofs.Safe.Facts.{Passed, is_some_tells, not_false, not_some_tells, or_neither, resting}
use Rattle.cell_rules.proofs.Safe.KeptProofs.{kept_state}
use Rattle.cell_sim.specs.Looks.{is_belt}
use Rattle.cell_world.specs.Beginning.{MayStart, StartsFromRest}
use Rattle.cell_world.proofs.Steps.{same_poses}

-- the axes of a machine rest in the book, said for each machine
abbrev Still : List Entry → Machine → Type 0
Still J machine.Feed = going_of J axis.FeedBelt ≡ None
Still J machine.Table = (going_of J axis.TableLift ≡ None) × (going_of J axis.TableTurn ≡ None)
Still J machine.Robot =
    (going_of J axis.RobotTurn ≡ None) × (going_of J axis.ArmOne ≡ None) × (going_of J axis.ArmTwo ≡ None)
Still J machine.Press1 = going_of J axis.PressOne ≡ None
Still J machine.Press2 = going_of J axis.PressTwo ≡ None
Still J machine.Deposit = going_of J axis.DepositBelt ≡ None

still_by : (J : List Entry) (m n : Machine) → Still J m → n ≡ m → Still J n
still_by J m n s e = subst (λ (x : Machine). Still J x) (sym e) s

each_still : (J : List Entry) (m : Machine) → Still J m → (b : Axis) → machine_of_axis b ≡ m → going_of J b ≡ None
each_still J m s axis.FeedBelt e = still_by J m machine.Feed s e
each_still J m s axis.TableLift e = (still_by J m machine.Table s e).0
each_still J m s axis.TableTurn e = (still_by J m machine.Table s e).1
each_still J m s axis.RobotTurn e = (still_by J m machine.Robot s e).0
each_still J m s axis.ArmOne e = (still_by J m machine.Robot s e).1
each_still J m s axis.ArmTwo e = (still_by J m machine.Robot s e).2
each_still J m s axis.PressOne e = still_by J m machine.Press1 s e
each_still J m s axis.PressTwo e = still_by J m machine.Press2 s e
each_still J m s axis.DepositBelt e = still_by J m machine.Deposit s e

-- what the tests tell, in the words of the book
rests_told : (J : List Entry) (a : Axis) (p : Pose) → Good J → not (rests_at (situation_in (after J)) a p) ≡ false
    → RestsAt J a p
rests_told J a p g h =
    let r = resting (after J) a p h in
    record {
      still = g.agrees.going a ∙ ap (λ (t : AxisState). t.going) r;
      pose = g.agrees.at a ∙ ap (λ (t : AxisState). t.at) r;
    }

still_told : (J : List Entry) (a : Axis) → Good J → is_some ((after J).going a) ≡ false → going_of J a ≡ None
still_told J a g h = g.agrees.going a ∙ not_some_tells ((after J).going a) h

other_pose : (J : List Entry) (a : Axis) (to p : Pose) → at_of J a ≡ p → same_pose p to ≡ false → to ≢ at_of J a
other_pose J a to p h k e =
    let c : true ≡ false = sym (same_poses to) ∙ (ap (λ (q : Pose). same_pose q to) (e ∙ h) ∙ k) in cc c

may_go : (J : List Entry) (a : Axis) (to : Pose) (m : Machine) → Good J → Still J m → machine_of_axis a ≡ m
    → (cannot_go (situation_in (after J)) a to).0 ≡ false → MayStart J a to
may_go J a to m g s e h =
    let t = after J in
    let x = or_neither (is_some (t.going a)) (not (is_pose_of a to) || same_pose (t.at a) to) h in
    let y = or_neither (not (is_pose_of a to)) (same_pose (t.at a) to) x.1 in
    record {
      rest = λ b i. each_still J m s b (i ∙ e);
      own_pose = not_false (is_pose_of a to) y.0;
      elsewhere = other_pose J a to (t.at a) (g.agrees.at a) y.1;
    }

-- the arms: one that isn't in faces something, where the turn rests, and the other faces nothing there
abbrev other : Arm → Arm
other arm.Arm1 = arm.Arm2
other arm.Arm2 = arm.Arm1

faces_alone : (x : Arm) (q : Pose) (f : Faced) → faced x q ≡ Some f → faced (other x) q ≡ None
faces_alone arm.Arm1 pose.Table1 f h = refl
faces_alone arm.Arm1 pose.P1Load f h = refl
faces_alone arm.Arm1 pose.P2Load f h = refl
faces_alone arm.Arm2 pose.P1Unload f h = refl
faces_alone arm.Arm2 pose.P2Unload f h = refl
faces_alone arm.Arm2 pose.Deposit2 f h = refl
faces_alone x q f h = cc h

pub some_not : {A : Type 0} (o : Option A) (x : A) → o ≡ Some x → o ≡ None → ⊥
some_not None x h k = cc h
some_not (Some y) x h k = cc k

is_in : (J : List Entry) (x : Arm) → faced x (at_of J axis.RobotTurn) ≡ None
    → RestsAt J (axis_of_arm x) pose.In ⊎ MayBeOut J x → RestsAt J (axis_of_arm x) pose.In
is_in J x h (inl r) = r
is_in J x h (inr m) = absurd (some_not (faced x (at_of J axis.RobotTurn)) m.what m.facing h)

is_out : (J : List Entry) (x : Arm) → at_of J (axis_of_arm x) ≡ pose.Out
    → RestsAt J (axis_of_arm x) pose.In ⊎ MayBeOut J x → MayBeOut J x
is_out J x h (inl r) =
    let c : true ≡ false = ap (λ (q : Pose). same_pose q pose.In) (sym r.pose ∙ h) in absurd (cc c)
is_out J x h (inr m) = m

-- the turn and both arms rest
record ArmMay (J : List Entry) (x : Arm) (to : Pose) : Type 0 where
  turn : going_of J axis.RobotTurn ≡ None
  it : going_of J (axis_of_arm x) ≡ None
  far : going_of J (axis_of_arm (other x)) ≡ None
  own_pose : is_pose_of (axis_of_arm x) to ≡ true
  elsewhere : to ≢ at_of J (axis_of_arm x)

arm_pose : (x : Arm) → (is_pose_of (axis_of_arm x) pose.Out ≡ true) × (is_pose_of (axis_of_arm x) pose.In ≡ true)
arm_pose arm.Arm1 = (refl, refl)
arm_pose arm.Arm2 = (refl, refl)

-- what the tests of an arm that goes out tell: it faces something, and is in
in_facing : (s : Snapshot) (x : Arm) (q : Pose) → Passed (outward_tests (situation_in s) (axis_of_arm x) (faced x q))
    → (not (rests_at (situation_in s) (axis_of_arm x) pose.In) ≡ false) × (is_some (faced x q) ≡ true)
in_facing s arm.Arm1 pose.Table1 h = (h.1.1.1.0, refl)
in_facing s arm.Arm1 pose.P1Load h = (h.1.0, refl)
in_facing s arm.Arm1 pose.P2Load h = (h.1.0, refl)
in_facing s arm.Arm2 pose.P1Unload h = (h.1.0, refl)
in_facing s arm.Arm2 pose.P2Unload h = (h.1.0, refl)
in_facing s arm.Arm2 pose.Deposit2 h = (h.1.0, refl)
in_facing s x q h = let c = h.0 in cc c

outward : (J : List Entry) (x : Arm) (b : Bool) → Good J → is_some ((after J).going axis.RobotTurn) ≡ b
    → Passed (outward_tests (situation_in (after J)) (axis_of_arm x)
    (if b then None else faced x ((after J).at axis.RobotTurn)))
    → ArmMay J x pose.Out
outward J x true g e h = let c = h.0 in cc c
outward J x false g e h =
    let s = after J in
    let i = in_facing s x (s.at axis.RobotTurn) h in
    let f = is_some_tells (faced x (s.at axis.RobotTurn)) i.1 in
    let it = rests_told J (axis_of_arm x) pose.In g i.0 in
    let here = ap (λ (q : Pose). faced x q) (g.agrees.at axis.RobotTurn) ∙ f.1 in
    let y = is_in J (other x) (faces_alone x (at_of J axis.RobotTurn) f.0 here) ((kept_state J g).arms (other x)) in
    record {
      turn = still_told J axis.RobotTurn g e;
      it = it.still;
      far = y.still;
      own_pose = (arm_pose x).0;
      elsewhere = other_pose J (axis_of_arm x) pose.Out pose.In it.pose refl;
    }

inward : (J : List Entry) (x : Arm) → Good J → not (rests_at (situation_in (after J)) (axis_of_arm x) pose.Out) ≡ false
    → ArmMay J x pose.In
inward J x g h =
    let a = axis_of_arm x in let it = rests_told J a pose.Out g h in
    let m = is_out J x it.pose ((kept_state J g).arms x) in
    let y = is_in J (other x) (faces_alone x (at_of J axis.RobotTurn) m.what m.facing)
    ((kept_state J g).arms (other x)) in
    record {
      turn = m.still;
      it = it.still;
      far = y.still;
      own_pose = (arm_pose x).1;
      elsewhere = other_pose J a pose.In pose.Out it.pose refl;
    }

-- where an arm rests out, all axes of the robot rest
robot_rests : (J : List Entry) (x : Arm) (to : Pose) → ArmMay J x to → (b : Axis)
    → machine_of_axis b ≡ machine.Robot → going_of J b ≡ None
robot_rests J arm.Arm1 to m b e = each_still J machine.Robot (m.turn, m.it, m.far) b e
robot_rests J arm.Arm2 to m b e = each_still J machine.Robot (m.turn, m.far, m.it) b e

pub rest_where_out : (J : List Entry) (x : Arm) → Good J
    → not (rests_at (situation_in (after J)) (axis_of_arm x) pose.Out) ≡ false → (b : Axis)
    → machine_of_axis b ≡ machine.Robot → going_of J b ≡ None
rest_where_out J x g h b e = robot_rests J x pose.In (inward J x g h) b e

arm_may : (J : List Entry) (x : Arm) (to : Pose) → Good J → Passed (arm_tests (situation_in (after J)) x to)
    → ArmMay J x to
arm_may J x pose.Out g h = outward J x (is_some ((after J).going axis.RobotTurn)) g refl h
arm_may J x pose.In g h = inward J x g h.0
arm_may J x to g h = let c = h.0 in cc c

-- a press rests in another pose
press_may : (J : List Entry) (m : Machine) (a : Axis) (z : Zone) (s : Station) (to : Pose) → Good J
    → ((p : Pose) → RestsAt J a p → Still J m) → machine_of_axis a ≡ m → is_pose_of a pose.Top ≡ true
    → is_pose_of a pose.Middle ≡ true → is_pose_of a pose.Bottom ≡ true
    → Passed (press_tests (situation_in (after J)) m a z s to) → MayStart J a to
press_may J m a z s pose.Top g st e top middle bottom h =
    let r = rests_told J a pose.Middle g h.0 in
    record {
      rest = λ b i. each_still J m (st pose.Middle r) b (i ∙ e);
      own_pose = top;
      elsewhere = other_pose J a pose.Top pose.Middle r.pose refl;
    }
press_may J m a z s pose.Bottom g st e top middle bottom h =
    let r = rests_told J a pose.Top g h.0 in
    record {
      rest = λ b i. each_still J m (st pose.Top r) b (i ∙ e);
      own_pose = bottom;
      elsewhere = other_pose J a pose.Bottom pose.Top r.pose refl;
    }
press_may J m a z s pose.Middle g st e top middle bottom h =
    let r = rests_told J a pose.Bottom g h.0 in
    record {
      rest = λ b i. each_still J m (st pose.Bottom r) b (i ∙ e);
      own_pose = middle;
      elsewhere = other_pose J a pose.Middle pose.Bottom r.pose refl;
    }
press_may J m a z s to g st e top middle bottom h = let c = h.0 in cc c

by_tests : (J : List Entry) (a : Axis) (to : Pose) → Good J → is_belt a ≡ false
    → Passed (started_tests (situation_in (after J)) a to) → MayStart J a to
by_tests J axis.FeedBelt to g s h = cc s
by_tests J axis.DepositBelt to g s h = cc s
by_tests J axis.TableLift to g s h =
    let n = or_neither (is_some ((after J).going axis.TableLift)) _ h.0 in
    may_go J axis.TableLift to machine.Table g (still_told J axis.TableLift g n.0, still_told J axis.TableTurn g h.1.0)
    refl h.0
by_tests J axis.TableTurn to g s h =
    let n = or_neither (is_some ((after J).going axis.TableTurn)) _ h.1.0 in
    may_go J axis.TableTurn to machine.Table g (still_told J axis.TableLift g h.0, still_told J axis.TableTurn g n.0)
    refl h.1.0
by_tests J axis.RobotTurn to g s h =
    let n = or_neither (is_some ((after J).going axis.RobotTurn)) _ h.0 in
    may_go J axis.RobotTurn to machine.Robot g (
      still_told J axis.RobotTurn g n.0,
      (rests_told J axis.ArmOne pose.In g h.1.0).still,
      (rests_told J axis.ArmTwo pose.In g h.1.1.0).still,
    ) refl h.0
by_tests J axis.ArmOne to g s h =
    let m = arm_may J arm.Arm1 to g h in
    record {
      rest = λ b i. each_still J machine.Robot (m.turn, m.it, m.far) b i;
      own_pose = m.own_pose;
      elsewhere = m.elsewhere;
    }
by_tests J axis.ArmTwo to g s h =
    let m = arm_may J arm.Arm2 to g h in
    record {
      rest = λ b i. each_still J machine.Robot (m.turn, m.far, m.it) b i;
      own_pose = m.own_pose;
      elsewhere = m.elsewhere;
    }
by_tests J axis.PressOne to g s h =
    press_may J machine.Press1 axis.PressOne zone.Z3 station.Press1 to g (λ p r. r.still) refl refl refl refl h
by_tests J axis.PressTwo to g s h =
    press_may J machine.Press2 axis.PressTwo zone.Z4 station.Press2 to g (λ p r. r.still) refl refl refl refl h

pub from_rest : StartsFromRest
from_rest l J a to s law free =
    let g = good_when_legal l J law in
    let ok : allowed l J (Started a to) ≡ true = ap (λ (o : Option Refusal). is_none o) free in
    by_tests J a to g s (good_passed l J (Started a to) g ok).1.1
