-- The robot's part of the rank falls with its claims and gifts, where it turns, and where an arm goes out
use Rattle.std.proofs.Common.{◌≡◌, ℕ, ◌<◌, Bool, true, false, ◌&&◌, Some, refl, arith, subst}
use Rattle.std.proofs.lemmas.Bool.Decides.{nat_tests}
use Rattle.cell_types.specs.declared.words.Machine.{Machine}
use Rattle.cell_types.specs.declared.words.Machine.TheVariants as machine
use Rattle.cell_types.specs.declared.words.Axis.{Axis}
use Rattle.cell_types.specs.declared.words.Axis.TheVariants as axis
use Rattle.cell_types.specs.declared.words.Pose.{Pose}
use Rattle.cell_types.specs.declared.words.Pose.TheVariants as pose
use Rattle.cell_types.specs.declared.words.Zone.{Zone}
use Rattle.cell_types.specs.declared.words.Zone.TheVariants as zone
use Rattle.cell_types.specs.declared.words.Arm.{Arm}
use Rattle.cell_types.specs.declared.words.Arm.TheVariants as arm
use Rattle.cell_types.specs.declared.words.Entry.TheVariants.{Claimed, Yielded, Started}
use Rattle.cell_types.specs.Same.{same_machine, same_pose}
use Rattle.cell_types.specs.Cell.{axis_of_arm, machine_of_axis}
use Rattle.cell_types.specs.After.{Snapshot, is_machine, step}
use Rattle.cell_rules.specs.Situations.{Situation}
use Rattle.cell_rules.proofs.Safe.Facts.{pose_same, machine_same, and_both, and_true}
use Rattle.cell_useful.specs.Cells.{ample}
use Rattle.cell_machines.specs.Useful.{is_useful_now}
use Rattle.cell_machines.specs.Jobs.{has_job, has_job_in, is_to_enter, holds_zone_at, is_robots}
use Rattle.cell_machines.specs.Robot.{is_drawn_in, holds_a_zone, is_at_job}
use Rattle.cell_progress.specs.Orders.{cell_of}
use Rattle.cell_progress.specs.Rank.{robot_rank, robot_by, any_zone, has_work, works_in, is_there, there_in}
use Rattle.cell_progress.specs.Rank.{is_turned_in}
use Rattle.cell_progress.proofs.Machines.{not_so}
use Rattle.cell_progress.proofs.RobotRank.{any_is, any_tells, motion, Bits, rank_bits}

-- the robot has both arms in, as the wish says
abbrev pub DrawnIn : Snapshot → Type 0
DrawnIn s = is_drawn_in (cell_of s) ≡ true

-- the robot holds one zone at most
abbrev pub OneZone : Snapshot → Type 0
OneZone s = (y x : Zone) → s.holder y ≡ Some machine.Robot → s.holder x ≡ Some machine.Robot → y ≡ x

-- a job in a zone that the robot holds is work, and so with being turned to it
pub has_work_in : (c : Situation) (z : Zone) → is_robots c z ≡ true → has_job_in c z ≡ true → has_work c ≡ true
unfolding has_work
has_work_in c z h j = any_is (works_in c) z (and_true (is_robots c z) (has_job_in c z) h j)

pub is_there_in : (c : Situation) (z : Zone) → is_robots c z ≡ true → is_turned_in c z ≡ true → is_there c ≡ true
unfolding is_there
is_there_in c z h j = any_is (there_in c) z (and_true (is_robots c z) (is_turned_in c z) h j)

pub holds_in : (c : Situation) (z : Zone) → is_robots c z ≡ true → holds_a_zone c ≡ true
unfolding holds_a_zone
holds_in c z h = any_is (is_robots c) z h

pub holds_none : (c : Situation) → ((z : Zone) → is_robots c z ≡ false) → holds_a_zone c ≡ false
unfolding holds_a_zone
holds_none c k = rw (k zone.Z1, k zone.Z2, k zone.Z3, k zone.Z4, k zone.Z5)

pub robots_is : (s : Snapshot) (z : Zone) → is_robots (cell_of s) z ≡ true → s.holder z ≡ Some machine.Robot
unfolding is_machine
robots_is s z h = grind (arith, machine_same)

pub is_mine : (s : Snapshot) (z : Zone) → s.holder z ≡ Some machine.Robot → is_robots (cell_of s) z ≡ true
unfolding is_machine
is_mine s z h = grind (arith, nat_tests)

-- work is in the one zone that the robot holds
only : (s : Snapshot) (f : Zone → Bool) (z : Zone) → OneZone s → s.holder z ≡ Some machine.Robot
    → any_zone (λ y. is_robots (cell_of s) y && f y) ≡ true → f z ≡ true
only s f z one m h =
    let y = any_tells (λ y. is_robots (cell_of s) y && f y) h in
    let b = and_both (is_robots (cell_of s) y.0) (f y.0) y.1 in
    let same : y.0 ≡ z = one y.0 z (robots_is s y.0 b.0) m in
    subst (λ (x : Zone). f x ≡ true) same b.1

pub work_only : (s : Snapshot) (z : Zone) → OneZone s → s.holder z ≡ Some machine.Robot
    → has_work (cell_of s) ≡ true → has_job_in (cell_of s) z ≡ true
unfolding has_work
work_only s z one m h = only s (has_job_in (cell_of s)) z one m h

there_only : (s : Snapshot) (z : Zone) → OneZone s → s.holder z ≡ Some machine.Robot
    → is_there (cell_of s) ≡ true → is_turned_in (cell_of s) z ≡ true
unfolding is_there
there_only s z one m h = only s (is_turned_in (cell_of s)) z one m h

pub drawn_bits : (s : Snapshot) → DrawnIn s → Bits (cell_of s) false false false false
unfolding is_drawn_in
drawn_bits s d = grind (arith, pose_same, nat_tests)

pub lower : (c d : Situation) {i g o u i' g' o' u' : Bool} → Bits c i g o u → Bits d i' g' o' u'
    → robot_by i' g' o' u' (has_work d) (holds_a_zone d) (is_there d)
    < robot_by i g o u (has_work c) (holds_a_zone c) (is_there c)
    → robot_rank d < robot_rank c
lower c d {i} {g} {o} {u} {i'} {g'} {o'} {u'} b e h = rw (rank_bits c i g o u b, rank_bits d i' g' o' u' e) h

-- a claim: from 5 to at most 4
claim_wish : (s : Snapshot) (plan : ℕ) (by : Machine) (z : Zone)
    → is_useful_now ample (cell_of s) plan by (Claimed machine.Robot z) ≡ true
    → (DrawnIn s) × (holds_a_zone (cell_of s) ≡ false) × (is_to_enter (cell_of s) z ≡ true)
unfolding is_useful_now
claim_wish s plan by z u = grind (arith, machine_same)

enters_job : (s : Snapshot) (z : Zone) → is_to_enter (cell_of s) z ≡ true
    → has_job_in (cell_of (step (Claimed machine.Robot z) s)) z ≡ true
unfolding is_to_enter has_job_in has_job
enters_job s zone.Z1 h = h
enters_job s _ h = grind arith

claimed_is : (s : Snapshot) (z : Zone) → (step (Claimed machine.Robot z) s).holder z ≡ Some machine.Robot
claimed_is s z = grind (arith, nat_tests)

pub robot_claims : (s : Snapshot) (plan : ℕ) (by : Machine) (z : Zone)
    → is_useful_now ample (cell_of s) plan by (Claimed machine.Robot z) ≡ true
    → robot_rank (cell_of (step (Claimed machine.Robot z) s)) < robot_rank (cell_of s)
robot_claims s plan by z u =
    let w = claim_wish s plan by z u in
    let t = step (Claimed machine.Robot z) s in
    let m : is_robots (cell_of t) z ≡ true = is_mine t z (claimed_is s z) in
    let b = drawn_bits s w.0 in
    let work = has_work_in (cell_of t) z m (enters_job s z w.2) in
    let held = holds_in (cell_of t) z m in
    lower (cell_of s) (cell_of t) b
    (record { inward = b.inward; going = b.going; out = b.out; turning = b.turning }) (grind arith)

-- a gift: from 6 to 5
yield_wish : (s : Snapshot) (plan : ℕ) (by : Machine) (z : Zone)
    → is_useful_now ample (cell_of s) plan by (Yielded machine.Robot z) ≡ true
    → (DrawnIn s) × (is_robots (cell_of s) z ≡ true) × (has_job_in (cell_of s) z ≡ false)
unfolding is_useful_now
yield_wish s plan by z u = grind (arith, machine_same)

yielded_none : (s : Snapshot) (z y : Zone) → OneZone s → s.holder z ≡ Some machine.Robot
    → is_robots (cell_of (step (Yielded machine.Robot z) s)) y ≡ true → ⊥
yielded_none s z y one h e =
    let i = robots_is (step (Yielded machine.Robot z) s) y e in let j = one z y h in grind (arith, nat_tests)

pub robot_yields : (s : Snapshot) (plan : ℕ) (by : Machine) (z : Zone) → OneZone s
    → is_useful_now ample (cell_of s) plan by (Yielded machine.Robot z) ≡ true
    → robot_rank (cell_of (step (Yielded machine.Robot z) s)) < robot_rank (cell_of s)
robot_yields s plan by z one u =
    let w = yield_wish s plan by z u in
    let t = step (Yielded machine.Robot z) s in
    let h : s.holder z ≡ Some machine.Robot = robots_is s z w.1 in
    let b = drawn_bits s w.0 in
    let idle = not_so (has_work (cell_of s)) (λ k. let j = work_only s z one h k in let n = w.2 in cc) in
    let held = holds_in (cell_of s) z w.1 in
    let none = holds_none (cell_of t) (λ y. not_so (is_robots (cell_of t) y) (λ e. yielded_none s z y one h e)) in
    lower (cell_of s) (cell_of t) b
    (record { inward = b.inward; going = b.going; out = b.out; turning = b.turning }) (grind arith)

-- the zone of a job
abbrev zone_at : Pose → Zone
zone_at pose.Table1 = zone.Z2
zone_at pose.P1Load = zone.Z3
zone_at pose.P1Unload = zone.Z3
zone_at pose.P2Load = zone.Z4
zone_at pose.P2Unload = zone.Z4
zone_at pose.Deposit2 = zone.Z5
zone_at _ = zone.Z1

job_held : (c : Situation) (p : Pose) → holds_zone_at c p ≡ true → is_robots c (zone_at p) ≡ true
unfolding holds_zone_at
job_held c pose.Table1 m = grind arith
job_held c _ m = grind arith

job_there : (c : Situation) (p : Pose) → has_job c p ≡ true → has_job_in c (zone_at p) ≡ true
unfolding has_job_in has_job
job_there c pose.Table1 h = h
job_there c _ h = grind arith

-- where the robot isn't turned to the job it is turned to none of this zone, as a press isn't both to be loaded and to
-- be unloaded
not_there : (c : Situation) (p : Pose) → has_job c p ≡ true → same_pose (c.at axis.RobotTurn) p ≡ false
    → is_turned_in c (zone_at p) ≡ true → ⊥
unfolding is_turned_in has_job
not_there c pose.Table1 h n t = grind (arith, nat_tests)
not_there c _ h n t = grind (arith, nat_tests)

-- no job reads the robot's own axes
pub jobs_moved : (s : Snapshot) (b : Bool) (a : Axis) (to : Pose) (y : Zone)
    → same_machine (machine_of_axis a) machine.Robot ≡ true
    → has_job_in (cell_of (step (motion b a to) s)) y ≡ has_job_in (cell_of s) y
unfolding has_job_in has_job
jobs_moved s true a to zone.Z1 m = refl
jobs_moved s b axis.RobotTurn to y m = refl
jobs_moved s b axis.ArmOne to y m = refl
jobs_moved s b axis.ArmTwo to y m = refl
jobs_moved s b a to zone.Z1 m = refl
jobs_moved s _ _ to y m = cc

turn_wish : (s : Snapshot) (plan : ℕ) (by : Machine) (to : Pose)
    → is_useful_now ample (cell_of s) plan by (Started axis.RobotTurn to) ≡ true
    → (DrawnIn s) × (has_job (cell_of s) to ≡ true) × (holds_zone_at (cell_of s) to ≡ true)
    × (same_pose (s.at axis.RobotTurn) to ≡ false)
unfolding is_useful_now
turn_wish s plan by to u = grind arith

pub robot_turns : (s : Snapshot) (plan : ℕ) (by : Machine) (to : Pose) → OneZone s
    → is_useful_now ample (cell_of s) plan by (Started axis.RobotTurn to) ≡ true
    → robot_rank (cell_of (step (Started axis.RobotTurn to) s)) < robot_rank (cell_of s)
robot_turns s plan by to one u =
    let w = turn_wish s plan by to u in
    let t = step (Started axis.RobotTurn to) s in
    let m = job_held (cell_of s) to w.2 in
    let j = job_there (cell_of s) to w.1 in
    let b = drawn_bits s w.0 in
    let before = has_work_in (cell_of s) (zone_at to) m j in
    let work = has_work_in (cell_of t) (zone_at to) m (rw (jobs_moved s true axis.RobotTurn to (zone_at to) refl) j) in
    let held = holds_in (cell_of s) (zone_at to) m in
    let away = not_so (is_there (cell_of s))
    (λ k. not_there (cell_of s) to w.1 w.3 (there_only s (zone_at to) one (robots_is s (zone_at to) m) k)) in
    lower (cell_of s) (cell_of t) {u' = true} b
    (record { inward = b.inward; going = b.going; out = b.out; turning = refl }) (grind arith)

-- an arm goes out
arm_wish : (s : Snapshot) (plan : ℕ) (by : Machine) (x : Arm)
    → is_useful_now ample (cell_of s) plan by (Started (axis_of_arm x) pose.Out) ≡ true
    → (DrawnIn s) × (has_job (cell_of s) (s.at axis.RobotTurn) ≡ true)
    × (holds_zone_at (cell_of s) (s.at axis.RobotTurn) ≡ true)
unfolding is_useful_now is_at_job
arm_wish s plan by arm.Arm1 u = grind arith
arm_wish s plan by arm.Arm2 u = grind arith

out_bits : (s : Snapshot) (x : Arm) → DrawnIn s
    → Bits (cell_of (step (Started (axis_of_arm x) pose.Out) s)) false true false false
unfolding is_drawn_in
out_bits s arm.Arm1 d = grind (arith, pose_same, nat_tests)
out_bits s arm.Arm2 d = grind (arith, pose_same, nat_tests)

pub robots_arm : (x : Arm) → same_machine (machine_of_axis (axis_of_arm x)) machine.Robot ≡ true
robots_arm arm.Arm1 = refl
robots_arm arm.Arm2 = refl

pub arm_goes_out : (s : Snapshot) (plan : ℕ) (by : Machine) (x : Arm)
    → is_useful_now ample (cell_of s) plan by (Started (axis_of_arm x) pose.Out) ≡ true
    → robot_rank (cell_of (step (Started (axis_of_arm x) pose.Out) s)) < robot_rank (cell_of s)
arm_goes_out s plan by x u =
    let w = arm_wish s plan by x u in
    let t = step (Started (axis_of_arm x) pose.Out) s in
    let z = zone_at (s.at axis.RobotTurn) in
    let work = has_work_in (cell_of t) z (job_held (cell_of s) (s.at axis.RobotTurn) w.2)
    (rw (jobs_moved s true (axis_of_arm x) pose.Out z (robots_arm x))
    (job_there (cell_of s) (s.at axis.RobotTurn) w.1)) in
    lower (cell_of s) (cell_of t) (drawn_bits s w.0) (out_bits s x w.0) (grind arith)
