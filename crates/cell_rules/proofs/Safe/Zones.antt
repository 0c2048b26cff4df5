-- A zone is claimed or given back: the part of the invariant that is about axes and zones is kept.
use Rattle.std.proofs.Common.{◌≡◌, ◌≢◌, Bool, true, cond, Option, Some, None, refl, ◌∙◌, arith}
use Rattle.cell_types.specs.declared.words.Machine.{Machine}
use Rattle.cell_types.specs.declared.words.Axis.{Axis}
use Rattle.cell_types.specs.declared.words.Pose.{Pose}
use Rattle.cell_types.specs.declared.words.Zone.{Zone}
use Rattle.cell_types.specs.declared.words.Arm.{Arm}
use Rattle.cell_types.specs.Same.{same_zone}
use Rattle.cell_types.specs.Cell.{machine_of_axis}
use Rattle.cell_rules.specs.First.{parked_tests}
use Rattle.cell_types.specs.After.{Snapshot, with_at}
use Rattle.cell_rules.specs.SituationIn.{situation_in}
use Rattle.cell_rules.proofs.Safe.Facts.{pose_same, Axes, axes_of, Passed, resting, still}
use Rattle.cell_rules.proofs.Safe.Motion.{Spot, spot_zone, Holders, Facing, ArmSafe, inside, facing, TableWaits}
use Rattle.cell_rules.proofs.Safe.Motion.{runs_in, Owned, MotionSafe}

-- The holder of one zone changes.
zone_case : (h : Holders) (z y : Zone) (v : Option Machine) (b : Bool) → same_zone z y ≡ b → h y ≢ h z
    → cond b v (h y) ≡ h y
zone_case h z y v b e f = grind (arith, pose_same)

-- a zone with another holder is another zone, so nothing is put there
pub zone_other : (h : Holders) (z y : Zone) (v : Option Machine) → h y ≢ h z → with_at (same_zone z) v h y ≡ h y
zone_other h z y v n = zone_case h z y v (same_zone z y) refl n

-- of the zones, an arm that is out needs only that the robot holds the one of its spot
arm_holders : (ax : Axes) (h h' : Holders) (arm : Arm)
    → ((x : Spot) → Facing ax h x → h' (spot_zone x) ≡ Some Machine.Robot) → ArmSafe ax h arm → ArmSafe ax h' arm
arm_holders ax h h' arm k (inside e) = inside e
arm_holders ax h h' arm k (facing x e f) = facing x e (record { turn = f.turn; zone = k x f; ready = f.ready })

-- the claimed zone was free, so it's none of those that an arm, the table or a moving axis needs
pub motion_claimed : (ax : Axes) (h : Holders) (z : Zone) (v : Option Machine) → MotionSafe ax h → h z ≡ None
    → MotionSafe ax (with_at (same_zone z) v h)
motion_claimed ax h z v m n =
    let k : (x : Spot) → Facing ax h x → with_at (same_zone z) v h (spot_zone x) ≡ Some Machine.Robot =
    λ x f. zone_other h z (spot_zone x) v (λ e. let r = f.zone in cc) ∙ f.zone
    in
    record {
      arm_one = arm_holders ax h (with_at (same_zone z) v h) Arm.Arm1 k m.arm_one;
      arm_two = arm_holders ax h (with_at (same_zone z) v h) Arm.Arm2 k m.arm_two;
      feed = λ to.
          let w = m.feed to in
          record { zone = zone_other h z Zone.Z1 v (λ e. let r = w.zone in cc) ∙ w.zone; lift = w.lift; turn = w.turn };
      fitting = m.fitting;
      owned = λ a q y g r. let e = m.owned a q y g r in zone_other h z y v (λ d. cc) ∙ e;
    }

-- A machine gives a zone back.
yield_arm : (ax : Axes) (h : Holders) (z : Zone) (w : Machine) (arm : Arm) → w ≢ Machine.Robot → h z ≡ Some w
    → ArmSafe ax h arm → ArmSafe ax (with_at (same_zone z) None h) arm
yield_arm ax h z w arm n e s =
    arm_holders ax h (with_at (same_zone z) None h) arm
    (λ x f. zone_other h z (spot_zone x) None (λ d. let r = f.zone in let t : w ≡ Machine.Robot = cc in n t) ∙ f.zone)
    s

-- Feed holds the zone in which the table waits, so another machine gives back another zone
yield_feed : (ax : Axes) (h : Holders) (z : Zone) (w : Machine) → w ≢ Machine.Feed → h z ≡ Some w → TableWaits ax h
    → TableWaits ax (with_at (same_zone z) None h)
yield_feed ax h z w e f g = grind (arith, pose_same)

-- the axes of a machine that gives a zone back stand
parked_still : (s : Snapshot) (a : Axis) (z : Zone) → Passed (parked_tests (situation_in s) (machine_of_axis a))
    → runs_in a z ≡ true → s.going a ≡ None
parked_still s a z e f = grind (arith, pose_same)

-- the machine's own axes stand, and what still moves runs in zones that other machines hold
yield_owned : (s : Snapshot) (z : Zone) (w : Machine) → Passed (parked_tests (situation_in s) w) → s.holder z ≡ Some w
    → Owned (axes_of s) s.holder → Owned (axes_of s) (with_at (same_zone z) None s.holder)
yield_owned x0 x1 x2 x3 x4 x5 x6 x7 x8 x9 x10 = grind (arith, pose_same)

-- a machine that isn't at either end of the two rules
yield_owner : (ax : Axes) (h : Holders) (z : Zone) (w : Machine) → w ≢ Machine.Robot → w ≢ Machine.Feed
    → MotionSafe ax h → h z ≡ Some w → Owned ax (with_at (same_zone z) None h)
    → MotionSafe ax (with_at (same_zone z) None h)
yield_owner ax h z w nr nf m e o =
    record {
      owned = o;
      arm_one = yield_arm ax h z w Arm.Arm1 nr e m.arm_one;
      arm_two = yield_arm ax h z w Arm.Arm2 nr e m.arm_two;
      feed = λ to. yield_feed ax h z w nf e (m.feed to);
      fitting = m.fitting;
    }

-- the feed belt stands where Feed gives a zone back, and both arms are in where the robot does
pub motion_yielded : (s : Snapshot) (z : Zone) (w : Machine) → MotionSafe (axes_of s) s.holder
    → Passed (parked_tests (situation_in s) w) → s.holder z ≡ Some w
    → MotionSafe (axes_of s) (with_at (same_zone z) None s.holder)
motion_yielded s z Machine.Feed m t e =
    record {
      owned = yield_owned s z Machine.Feed t e m.owned;
      arm_one = yield_arm (axes_of s) s.holder z Machine.Feed Arm.Arm1 (λ d. cc) e m.arm_one;
      arm_two = yield_arm (axes_of s) s.holder z Machine.Feed Arm.Arm2 (λ d. cc) e m.arm_two;
      feed = λ to. let g = still s Axis.FeedBelt t.0 in cc;
      fitting = m.fitting;
    }
motion_yielded s z Machine.Robot m t e =
    record {
      owned = yield_owned s z Machine.Robot t e m.owned;
      arm_one = inside (resting s Axis.ArmOne Pose.In t.0);
      arm_two = inside (resting s Axis.ArmTwo Pose.In t.1.0);
      feed = λ to. yield_feed (axes_of s) s.holder z Machine.Robot (λ d. cc) e (m.feed to);
      fitting = m.fitting;
    }
motion_yielded s z w m t e = yield_owner (axes_of s) s.holder z w (λ d. cc) (λ d. cc) m e
    (yield_owned s z w t e m.owned)
