-- A machine is repaired: the part of the invariant that is about axes and zones is kept.
use Rattle.std.proofs.Common.{◌≡◌, Bool, true, false, cond, ◌&&◌, Option, Some, None, refl, arith, if◌then◌else◌}
use Rattle.cell_types.specs.declared.words.Machine.{Machine}
use Rattle.cell_types.specs.declared.words.Axis.{Axis}
use Rattle.cell_types.specs.declared.words.Pose.{Pose}
use Rattle.cell_types.specs.declared.words.Zone.{Zone}
use Rattle.cell_types.specs.declared.words.Arm.{Arm}
use Rattle.cell_types.specs.declared.words.AxisState.{AxisState}
use Rattle.cell_types.specs.Same.{same_machine}
use Rattle.cell_types.specs.Cell.{machine_of_axis, home, owner, visitor}
use Rattle.cell_rules.specs.First.{any_visited}
use Rattle.cell_types.specs.After.{is_machine, Snapshot}
use Rattle.cell_rules.specs.SituationIn.{situation_in}
use Rattle.cell_rules.proofs.Safe.Facts.{pose_same, Axes, axes_of, rest, Passed}
use Rattle.cell_rules.proofs.Safe.Motion.{Spot, Holders, Facing, ArmSafe, inside, facing, TableWaits, fits, Owned}
use Rattle.cell_rules.proofs.Safe.Motion.{MotionSafe}

abbrev pub homed : Axes → Machine → Axes
homed ax m = λ a. if same_machine (machine_of_axis a) m then rest (home a) else ax a

abbrev pub freed : Holders → Machine → Holders
freed h m = λ z. if is_machine m (h z) then None else h z

pub freed_other : (h : Holders) (m r : Machine) (z : Zone) → h z ≡ Some r → same_machine r m ≡ false
    → freed h m z ≡ Some r
unfolding is_machine
freed_other h m r z e n = rw (e, n)

-- the home of each axis is one of its poses
home_fits : (a : Axis) → fits a (rest (home a)) ≡ true
home_fits a = grind (arith, pose_same)

-- an axis of the machine is at home afterwards, and any other is as it was
homed_fits : (a : Axis) (s : AxisState) (b : Bool) → fits a s ≡ true → fits a (cond b (rest (home a)) s) ≡ true
homed_fits a s b e = grind (arith, pose_same)

-- no visitor is at a machine that is repaired
pub visited_not : (m : Machine) (o : Option Machine) (z : Zone)
    → (same_machine (owner z) m && is_machine (visitor z) o) ≡ false → same_machine (owner z) m ≡ true
    → o ≡ Some (visitor z) → same_machine (visitor z) (visitor z) ≡ true → ⊥
unfolding is_machine
visited_not m o z e f g p = grind (arith, pose_same)

-- nobody visits the machine that is repaired, so no spot with an arm out depends on its axes
facing_repaired : (s : Snapshot) (m : Machine) (x : Spot) → same_machine Machine.Robot m ≡ false
    → Passed (any_visited (situation_in s) m) → Facing (axes_of s) s.holder x
    → Facing (homed (axes_of s) m) (freed s.holder m) x
unfolding any_visited is_machine
facing_repaired s m x e f g = grind (arith, pose_same)

arm_repaired : (s : Snapshot) (m : Machine) (arm : Arm) → same_machine Machine.Robot m ≡ false
    → Passed (any_visited (situation_in s) m) → ArmSafe (axes_of s) s.holder arm
    → ArmSafe (homed (axes_of s) m) (freed s.holder m) arm
arm_repaired s m Arm.Arm1 n h (inside e) = inside (rw n e)
arm_repaired s m Arm.Arm2 n h (inside e) = inside (rw n e)
arm_repaired s m arm n h (facing x e f) = facing x e (facing_repaired s m x n h f)

-- only Feed, which holds the zone, and the table, whose axes wait, could end the waiting
waits_repaired : (s : Snapshot) (m : Machine) → same_machine Machine.Feed m ≡ false
    → same_machine Machine.Table m ≡ false → TableWaits (axes_of s) s.holder
    → TableWaits (homed (axes_of s) m) (freed s.holder m)
unfolding is_machine
waits_repaired s m e f g = grind (arith, pose_same)

-- what still moves is another machine's, and so are the zones that it holds
homed_owned_case : (ax : Axes) (h : Holders) (m : Machine) (y : Axis) (q : Pose) (z : Zone) (b : Bool)
    → same_machine (machine_of_axis y) m ≡ b → ((ax y).going ≡ Some q → h z ≡ Some (machine_of_axis y))
    → (cond b (rest (home y)) (ax y)).going ≡ Some q → freed h m z ≡ Some (machine_of_axis y)
unfolding is_machine
homed_owned_case ax h m y q z b e f g = grind (arith, pose_same)

homed_owned : (ax : Axes) (h : Holders) (m : Machine) → Owned ax h → Owned (homed ax m) (freed h m)
homed_owned ax h m o y q z g r = homed_owned_case ax h m y q z (same_machine (machine_of_axis y) m) refl
    (λ d. o y q z d r) g

-- the rule on the feed belt is left to the caller, since its reason differs from machine to machine
repaired_with : (s : Snapshot) (m : Machine) → MotionSafe (axes_of s) s.holder → Passed (any_visited (situation_in s) m)
    → same_machine Machine.Robot m ≡ false → ((homed (axes_of s) m Axis.FeedBelt).going ≡ Some Pose.ToTable
    → TableWaits (homed (axes_of s) m) (freed s.holder m)) → MotionSafe (homed (axes_of s) m) (freed s.holder m)
repaired_with s m v h n feed =
    record {
      owned = homed_owned (axes_of s) s.holder m v.owned;
      arm_one = arm_repaired s m Arm.Arm1 n h v.arm_one;
      arm_two = arm_repaired s m Arm.Arm2 n h v.arm_two;
      feed = feed;
      fitting = λ a. homed_fits a ((axes_of s) a) (same_machine (machine_of_axis a) m) (v.fitting a);
    }

-- Feed's belt is at home after its own repair, and the table isn't repaired while Feed visits it
pub motion_repaired : (s : Snapshot) (m : Machine) → MotionSafe (axes_of s) s.holder
    → Passed (any_visited (situation_in s) m) → MotionSafe (homed (axes_of s) m) (freed s.holder m)
unfolding any_visited
motion_repaired s Machine.Feed v h = repaired_with s Machine.Feed v h refl (λ t. cc)
motion_repaired s Machine.Table v h =
    repaired_with s Machine.Table v h refl
    (λ t. absurd (visited_not Machine.Table (s.holder Zone.Z1) Zone.Z1 h.0 refl (v.feed t).zone refl))
motion_repaired s Machine.Robot v h =
    record {
      owned = homed_owned (axes_of s) s.holder Machine.Robot v.owned;
      arm_one = inside refl;
      arm_two = inside refl;
      feed = λ t. waits_repaired s Machine.Robot refl refl (v.feed t);
      fitting = λ a. homed_fits a ((axes_of s) a) (same_machine (machine_of_axis a) Machine.Robot) (v.fitting a);
    }
motion_repaired s Machine.Press1 v h = repaired_with s Machine.Press1 v h refl
    (λ t. waits_repaired s Machine.Press1 refl refl (v.feed t))
motion_repaired s Machine.Press2 v h = repaired_with s Machine.Press2 v h refl
    (λ t. waits_repaired s Machine.Press2 refl refl (v.feed t))
motion_repaired s Machine.Deposit v h = repaired_with s Machine.Deposit v h refl
    (λ t. waits_repaired s Machine.Deposit refl refl (v.feed t))
