-- The robot's part of the rank falls with the ends of its motions, and where an arm draws in
use Rattle.std.proofs.Common.{◌≡◌, ℕ, ◌<◌, ◌≤◌, Bool, true, false, ◌&&◌, ◌||◌, Option, Some, None, is_some, List, ◌++◌}
use Rattle.std.proofs.Common.{refl, sym, ap, ◌∙◌, arith, subst, ◌⊎◌, inl, inr}
use Rattle.std.specs.List.{list_any}
use Rattle.std.proofs.lemmas.Bool.Decides.{nat_tests}
use Rattle.std.proofs.lemmas.List.Folds.{list_any-append}
use Rattle.cell_types.specs.declared.words.Machine.{Machine}
use Rattle.cell_types.specs.declared.words.Machine.TheVariants as machine
use Rattle.cell_types.specs.declared.words.Station.{Station}
use Rattle.cell_types.specs.declared.words.Station.TheVariants as station
use Rattle.cell_types.specs.declared.words.Axis.{Axis}
use Rattle.cell_types.specs.declared.words.Axis.TheVariants as axis
use Rattle.cell_types.specs.declared.words.Pose.{Pose}
use Rattle.cell_types.specs.declared.words.Pose.TheVariants as pose
use Rattle.cell_types.specs.declared.words.Arm.{Arm}
use Rattle.cell_types.specs.declared.words.Arm.TheVariants as arm
use Rattle.cell_types.specs.declared.words.AxisState.{AxisState}
use Rattle.cell_types.specs.declared.words.Entry.{Entry}
use Rattle.cell_types.specs.declared.words.Entry.TheVariants.{Started, Arrived, Gripped, Dropped}
use Rattle.cell_types.specs.Same.{same_machine, same_pose}
use Rattle.cell_types.specs.Cell.{axis_of_arm, machine_of_axis}
use Rattle.cell_types.specs.After.{Snapshot, step}
use Rattle.cell_rules.specs.First.{first_true}
use Rattle.cell_rules.specs.Situations.{Situation}
use Rattle.cell_rules.proofs.Safe.Facts.{pose_same, axes_of, rest}
use Rattle.cell_rules.proofs.Safe.Motion.{ArmSafe, inside, facing, Facing, Ready, Spot, TableSpot, Load1, Load2}
use Rattle.cell_rules.proofs.Safe.Motion.{Unload1, Unload2, DepositSpot, spot_zone, spot_pose, spot_arm}
use Rattle.cell_useful.specs.Cells.{ample}
use Rattle.cell_machines.specs.Room.{is_bookable}
use Rattle.cell_machines.specs.Useful.{is_useful_now}
use Rattle.cell_machines.specs.Jobs.{has_job, has_job_in, is_robots}
use Rattle.cell_machines.specs.Robot.{of_plate, wants_handing, handings, has_handing, is_out, is_out_at}
use Rattle.cell_progress.specs.Orders.{cell_of}
use Rattle.cell_progress.specs.Rank.{robot_rank, has_work, works_in, is_there, is_turned_in}
use Rattle.cell_progress.proofs.RobotRank.{any_kept, SameAxes, Bits}
use Rattle.cell_progress.proofs.RobotFalls.{OneZone, lower, is_mine, holds_in, is_there_in, work_only}
use Rattle.cell_progress.proofs.Machines.{not_so}
use Rattle.cell_progress.proofs.RobotFalls.{robots_arm, jobs_moved}

abbrev pub other : Arm → Arm
other arm.Arm1 = arm.Arm2
other arm.Arm2 = arm.Arm1

-- the safety of both arms
abbrev pub Arms : Snapshot → Type 0
Arms s = ArmSafe (axes_of s) s.holder arm.Arm1 × ArmSafe (axes_of s) s.holder arm.Arm2

arm_safe : (s : Snapshot) (x : Arm) → Arms s → ArmSafe (axes_of s) s.holder x
arm_safe s arm.Arm1 v = v.0
arm_safe s arm.Arm2 v = v.1

abbrev pub IsIn : Snapshot → Arm → Type 0
IsIn s x = axes_of s (axis_of_arm x) ≡ rest pose.In

-- the two arms work at different poses of the turn, so where one of them isn't in the other is
spots_differ : (s : Snapshot) (x : Arm) (y z : Spot) → spot_arm y ≡ x → spot_arm z ≡ other x
    → axes_of s axis.RobotTurn ≡ rest (spot_pose y) → axes_of s axis.RobotTurn ≡ rest (spot_pose z) → ⊥
spots_differ s arm.Arm1 y z a b e f = grind (arith, pose_same)
spots_differ s arm.Arm2 y z a b e f = grind (arith, pose_same)

other_in : (s : Snapshot) (x : Arm) → Arms s → (IsIn s x → ⊥) → IsIn s (other x)
other_in s x v n = go (arm_safe s x v) (arm_safe s (other x) v)
  where
    go : ArmSafe (axes_of s) s.holder x → ArmSafe (axes_of s) s.holder (other x) → IsIn s (other x)
    go (inside e) b = absurd (n e)
    go (facing y a f) (inside e) = e
    go (facing y a f) (facing z b g) = absurd (spots_differ s x y z a b f.turn g.turn)

-- where an arm stands that isn't in
record Stand (s : Snapshot) (x : Arm) : Type 0 where
  spot : Spot
  own : spot_arm spot ≡ x
  faced : Facing (axes_of s) s.holder spot

stand : (s : Snapshot) (x : Arm) → Arms s → (IsIn s x → ⊥) → Stand s x
stand s x v n = go (arm_safe s x v)
  where
    go : ArmSafe (axes_of s) s.holder x → Stand s x
    go (inside e) = absurd (n e)
    go (facing y a f) = record { spot = y; own = a; faced = f }

-- an arm that is out where there is work has a plate to hand over
abbrev handed : Snapshot → Entry → Bool
handed s e = wants_handing (cell_of s) e && is_bookable ample (cell_of s) e

-- the handing at a spot, from where, and to where
abbrev pub handing : Spot → ℕ → Entry
handing TableSpot k = Gripped arm.Arm1 k station.Table
handing Load1 k = Dropped arm.Arm1 k station.Press1
handing Load2 k = Dropped arm.Arm1 k station.Press2
handing Unload1 k = Gripped arm.Arm2 k station.Press1
handing Unload2 k = Gripped arm.Arm2 k station.Press2
handing DepositSpot k = Dropped arm.Arm2 k station.DepIn

abbrev pub hand_from : Spot → Station
hand_from TableSpot = station.Table
hand_from Load1 = station.Arm1
hand_from Load2 = station.Arm1
hand_from Unload1 = station.Press1
hand_from Unload2 = station.Press2
hand_from DepositSpot = station.Arm2

abbrev pub hand_to : Spot → Station
hand_to TableSpot = station.Arm1
hand_to Load1 = station.Press1
hand_to Load2 = station.Press2
hand_to Unload1 = station.Arm2
hand_to Unload2 = station.Arm2
hand_to DepositSpot = station.DepIn

abbrev hand_list : Snapshot → Spot → List Entry
hand_list s x = of_plate (handing x) (s.plate (hand_from x))

-- the arm is out, and the robot healthy
record Out (s : Snapshot) (x : Arm) : Type 0 where
  healthy : s.failed machine.Robot ≡ false
  out : axes_of s (axis_of_arm x) ≡ rest pose.Out

handed_at : (s : Snapshot) (x : Spot) (k : ℕ) → Out s (spot_arm x) → Facing (axes_of s) s.holder x
    → has_job_in (cell_of s) (spot_zone x) ≡ true → s.plate (hand_from x) ≡ Some k → handed s (handing x k) ≡ true
unfolding has_job_in has_job is_out_at is_out is_bookable first_true
handed_at s TableSpot k o f j e = grind (arith, nat_tests)
handed_at s _ k o f j e = grind (arith, nat_tests)

full_at : (s : Snapshot) (x : Spot) → Ready (axes_of s) x → has_job_in (cell_of s) (spot_zone x) ≡ true
    → is_some (s.plate (hand_from x)) ≡ true
unfolding has_job_in has_job
full_at s TableSpot r j = grind (arith, nat_tests)
full_at s _ r j = grind (arith, nat_tests)

hands : (s : Snapshot) (x : Spot) → Out s (spot_arm x) → Facing (axes_of s) s.holder x
    → has_job_in (cell_of s) (spot_zone x) ≡ true → list_any (handed s) (hand_list s x) ≡ true
hands s x o f j = go (s.plate (hand_from x)) refl (full_at s x f.ready j)
  where
    go : (p : Option ℕ) → s.plate (hand_from x) ≡ p → is_some p ≡ true
        → list_any (handed s) (of_plate (handing x) p) ≡ true
    go None e h = cc
    go (Some k) e h = let r : handed s (handing x k) ≡ true = handed_at s x k o f j e in rw r

-- one of the three lists of an arm's handings has one
abbrev Hands : Snapshot → Spot → Type 0
Hands s x = list_any (handed s) (hand_list s x) ≡ true

in_three : (s : Snapshot) (x y z : Spot) → Hands s x ⊎ (Hands s y ⊎ Hands s z)
    → list_any (handed s) (hand_list s x ++ (hand_list s y ++ hand_list s z)) ≡ true
in_three s x y z h =
    rw (
      list_any-append (handed s) (hand_list s x) (hand_list s y ++ hand_list s z),
      list_any-append (handed s) (hand_list s y) (hand_list s z),
    )
    (some (list_any (handed s) (hand_list s x)) (list_any (handed s) (hand_list s y)) _ h)
  where
    some : (a b c : Bool) → (a ≡ true) ⊎ ((b ≡ true) ⊎ (c ≡ true)) → (a || (b || c)) ≡ true
    some a b c h = grind arith

hand : (s : Snapshot) (x : Spot) → Out s (spot_arm x) → Facing (axes_of s) s.holder x
    → has_job_in (cell_of s) (spot_zone x) ≡ true → has_handing ample (cell_of s) (spot_arm x) ≡ true
unfolding has_handing handings
hand s TableSpot o f j = in_three s TableSpot Load1 Load2 (inl (hands s TableSpot o f j))
hand s Load1 o f j = in_three s TableSpot Load1 Load2 (inr (inl (hands s Load1 o f j)))
hand s Load2 o f j = in_three s TableSpot Load1 Load2 (inr (inr (hands s Load2 o f j)))
hand s Unload1 o f j = in_three s Unload1 Unload2 DepositSpot (inl (hands s Unload1 o f j))
hand s Unload2 o f j = in_three s Unload1 Unload2 DepositSpot (inr (inl (hands s Unload2 o f j)))
hand s DepositSpot o f j = in_three s Unload1 Unload2 DepositSpot (inr (inr (hands s DepositSpot o f j)))

-- no work is left where an arm draws in
not_out_in : (s : Snapshot) (x : Arm) → axes_of s (axis_of_arm x) ≡ rest pose.Out → IsIn s x → ⊥
not_out_in s x e f = let i : pose.Out ≡ pose.In = ap (λ (t : AxisState). t.at) (sym e ∙ f) in cc

no_work : (s : Snapshot) (x : Arm) → OneZone s → Out s x → Arms s → has_handing ample (cell_of s) x ≡ false
    → has_work (cell_of s) ≡ true → ⊥
no_work s x one o v n h =
    let y = stand s x v (not_out_in s x o.out) in
    let j = work_only s (spot_zone y.spot) one y.faced.zone h in
    let k : has_handing ample (cell_of s) x ≡ true =
    subst (λ (z : Arm). has_handing ample (cell_of s) z ≡ true) y.own
    (hand s y.spot (subst (λ (z : Arm). Out s z) (sym y.own) o) y.faced j) in
    cc

draw_wish : (s : Snapshot) (plan : ℕ) (by : Machine) (x : Arm)
    → is_useful_now ample (cell_of s) plan by (Started (axis_of_arm x) pose.In) ≡ true
    → (axes_of s (axis_of_arm x) ≡ rest pose.Out) × (has_handing ample (cell_of s) x ≡ false)
unfolding is_useful_now is_out
draw_wish s plan by arm.Arm1 u = (grind (arith, pose_same), grind arith)
draw_wish s plan by arm.Arm2 u = (grind (arith, pose_same), grind arith)

-- one arm is out and the other in
pub record Reach (s : Snapshot) (x : Arm) : Type 0 where
  pub out : axes_of s (axis_of_arm x) ≡ rest pose.Out
  pub other : IsIn s (other x)

pub reach : (s : Snapshot) (x : Arm) → Arms s → axes_of s (axis_of_arm x) ≡ rest pose.Out → Reach s x
reach s x v e = record { out = e; other = other_in s x v (not_out_in s x e) }

pub reach_bits : (s : Snapshot) (x : Arm) (u : Bool) → Reach s x → is_some (s.going axis.RobotTurn) ≡ u
    → Bits (cell_of s) false false true u
reach_bits s arm.Arm1 u r e = grind (arith, nat_tests)
reach_bits s arm.Arm2 u r e = grind (arith, nat_tests)

draw_bits : (s : Snapshot) (x : Arm) (u : Bool) → Reach s x → is_some (s.going axis.RobotTurn) ≡ u
    → Bits (cell_of (step (Started (axis_of_arm x) pose.In) s)) true true true u
draw_bits s arm.Arm1 u r e = grind (arith, nat_tests)
draw_bits s arm.Arm2 u r e = grind (arith, nat_tests)

pub arm_draws_in : (s : Snapshot) (plan : ℕ) (by : Machine) (x : Arm) → OneZone s → s.failed machine.Robot ≡ false
    → Arms s → is_useful_now ample (cell_of s) plan by (Started (axis_of_arm x) pose.In) ≡ true
    → robot_rank (cell_of (step (Started (axis_of_arm x) pose.In) s)) < robot_rank (cell_of s)
arm_draws_in s plan by x one f v u =
    let w = draw_wish s plan by x u in
    let t = step (Started (axis_of_arm x) pose.In) s in
    let g = is_some (s.going axis.RobotTurn) in
    let r = reach s x v w.0 in
    let idle = not_so (has_work (cell_of s)) (no_work s x one (record { healthy = f; out = w.0 }) v w.1) in
    lower (cell_of s) (cell_of t) (reach_bits s x g r refl) (draw_bits s x g r refl) (grind arith)

-- an arm that hands a plate over leaves at most 8
pub out_most : (c d : Situation) (u : Bool) → Bits c false false true u → SameAxes c d → robot_rank d ≤ 8
out_most c d u b a = rw (a.0, a.1, a.2, a.3, a.4, b.inward, b.going, b.out) (grind arith)

-- the end of a motion of the robot's leaves the work
work_arrived : (s : Snapshot) (a : Axis) (p : Pose) → same_machine (machine_of_axis a) machine.Robot ≡ true
    → has_work (cell_of s) ≡ true → has_work (cell_of (step (Arrived a p) s)) ≡ true
unfolding has_work
work_arrived s a p m =
    any_kept (works_in (cell_of s)) (works_in (cell_of (step (Arrived a p) s)))
    (λ z h. rw (jobs_moved s false a p z m) h)

-- an arm under way, the other in
record Under (s : Snapshot) (x : Arm) (p : Pose) : Type 0 where
  going : s.going (axis_of_arm x) ≡ Some p
  other : IsIn s (other x)
  still : s.going axis.RobotTurn ≡ None

going_not_rest : (s : Snapshot) (a : Axis) (p q : Pose) → s.going a ≡ Some p → axes_of s a ≡ rest q → ⊥
going_not_rest s a p q g e = let n : s.going a ≡ None = ap (λ (t : AxisState). t.going) e in cc

under : (s : Snapshot) (x : Arm) (p : Pose) → Arms s → s.going (axis_of_arm x) ≡ Some p → Under s x p
under s x p v g =
    let n = going_not_rest s (axis_of_arm x) p pose.In g in
    let y = stand s x v n in
    record { going = g; other = other_in s x v n; still = ap (λ (t : AxisState). t.going) y.faced.turn }

abbrev outs : Snapshot → Bool
outs s = same_pose (s.at axis.ArmOne) pose.Out || same_pose (s.at axis.ArmTwo) pose.Out

under_bits : (s : Snapshot) (x : Arm) (p : Pose) (o : Bool) → Under s x p → outs s ≡ o
    → Bits (cell_of s) (same_pose p pose.In) true o false
under_bits s arm.Arm1 p o r e = grind (arith, nat_tests)
under_bits s arm.Arm2 p o r e = grind (arith, nat_tests)

came_bits : (s : Snapshot) (x : Arm) (p : Pose) → Under s x p
    → Bits (cell_of (step (Arrived (axis_of_arm x) p) s)) false false (same_pose p pose.Out) false
came_bits s arm.Arm1 p r = grind (arith, nat_tests)
came_bits s arm.Arm2 p r = grind (arith, nat_tests)

pub arm_comes_out : (s : Snapshot) (x : Arm) → Arms s → s.going (axis_of_arm x) ≡ Some pose.Out
    → robot_rank (cell_of (step (Arrived (axis_of_arm x) pose.Out) s)) < robot_rank (cell_of s)
arm_comes_out s x v g =
    let t = step (Arrived (axis_of_arm x) pose.Out) s in
    let r = under s x pose.Out v g in
    let work = work_arrived s (axis_of_arm x) pose.Out (robots_arm x) in
    lower (cell_of s) (cell_of t) (under_bits s x pose.Out (outs s) r refl) (came_bits s x pose.Out r) (grind arith)

pub arm_comes_in : (s : Snapshot) (x : Arm) → Arms s → s.going (axis_of_arm x) ≡ Some pose.In
    → robot_rank (cell_of (step (Arrived (axis_of_arm x) pose.In) s)) < robot_rank (cell_of s)
arm_comes_in s x v g =
    let t = step (Arrived (axis_of_arm x) pose.In) s in
    let r = under s x pose.In v g in
    lower (cell_of s) (cell_of t) (under_bits s x pose.In (outs s) r refl) (came_bits s x pose.In r) (grind arith)

-- the robot comes to where it turned
arm_in : (s : Snapshot) (x : Arm) (q : Pose) → s.going axis.RobotTurn ≡ Some q → ArmSafe (axes_of s) s.holder x
    → IsIn s x
arm_in s x q g (inside e) = e
arm_in s x q g (facing y e f) = absurd (going_not_rest s axis.RobotTurn q (spot_pose y) g f.turn)

turning_bits : (s : Snapshot) (q : Pose) → IsIn s arm.Arm1 → IsIn s arm.Arm2
    → s.going axis.RobotTurn ≡ Some q → Bits (cell_of s) false false false true
turning_bits s q a b g = grind (arith, nat_tests)

turned_bits : (s : Snapshot) (q : Pose) → IsIn s arm.Arm1 → IsIn s arm.Arm2
    → Bits (cell_of (step (Arrived axis.RobotTurn q) s)) false false false false
turned_bits s q a b = grind (arith, nat_tests)

turned_now : (s : Snapshot) (x : Spot) → Ready (axes_of s) x
    → has_job_in (cell_of s) (spot_zone x) ≡ true
    → is_turned_in (cell_of (step (Arrived axis.RobotTurn (spot_pose x)) s)) (spot_zone x) ≡ true
unfolding has_job_in has_job is_turned_in
turned_now s x r j = grind (arith, nat_tests)

pub robot_turned : (s : Snapshot) (x : Spot) → OneZone s → Arms s → s.going axis.RobotTurn ≡ Some (spot_pose x)
    → s.holder (spot_zone x) ≡ Some machine.Robot → Ready (axes_of s) x
    → robot_rank (cell_of (step (Arrived axis.RobotTurn (spot_pose x)) s)) < robot_rank (cell_of s)
robot_turned s x one v g m r =
    let p = spot_pose x in
    let t = step (Arrived axis.RobotTurn p) s in
    let a = arm_in s arm.Arm1 p g v.0 in
    let b = arm_in s arm.Arm2 p g v.1 in
    let i : is_robots (cell_of t) (spot_zone x) ≡ true = is_mine t (spot_zone x) m in
    let work = work_arrived s axis.RobotTurn p refl in
    let held = holds_in (cell_of t) (spot_zone x) i in
    let there : has_work (cell_of t) ≡ true → is_there (cell_of t) ≡ true = λ e.
    is_there_in (cell_of t) (spot_zone x) i (turned_now s x r
    (rw (jobs_moved s false axis.RobotTurn p (spot_zone x) refl) at (work_only t (spot_zone x) one m e))) in
    lower (cell_of s) (cell_of t) (turning_bits s p a b g) (turned_bits s p a b) (grind arith)
