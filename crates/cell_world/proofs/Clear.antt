-- No arm is in the way of an axis that is sent on by the rules of safety
use Rattle.std.proofs.Common.{◌≡◌, ◌≢◌, inl, inr, arith, Bool, true, false, ◌||◌, Option, Some, None, List, refl, sym}
use Rattle.std.proofs.Common.{ap, ◌∙◌, subst}
use Rattle.std.proofs.Common.{if◌then◌else◌}
use Rattle.cell_types.specs.declared.words.Arm.{Arm}
use Rattle.cell_types.specs.declared.words.Arm.TheVariants as arm
use Rattle.cell_types.specs.declared.words.Axis.{Axis}
use Rattle.cell_types.specs.declared.words.Axis.TheVariants as axis
use Rattle.cell_types.specs.declared.words.Machine.{Machine}
use Rattle.cell_types.specs.declared.words.Machine.TheVariants as machine
use Rattle.cell_types.specs.declared.words.Pose.{Pose}
use Rattle.cell_types.specs.declared.words.Pose.TheVariants as pose
use Rattle.cell_types.specs.declared.words.Station.{Station}
use Rattle.cell_types.specs.declared.words.Entry.{Entry}
use Rattle.cell_types.specs.declared.words.Entry.TheVariants.{Started}
use Rattle.cell_types.specs.Cell.{Faced, axis_of_arm, faced, machine_of_axis, machine_of_station}
use Rattle.cell_types.specs.Same.{axis_number, same_axis, same_machine, same_pose}
use Rattle.std.proofs.lemmas.Bool.Decides.{nat_tests}
use Rattle.cell_rules.specs.Safety.{IsInside, RestsAt, SafeState}
use Rattle.cell_rules.specs.Views.{at_of, going_of}
use Rattle.cell_rules.proofs.Safe.Facts.{axis_same, machine_same, pose_same}
use Rattle.cell_sim.specs.declared.motion.Path.{Path}
use Rattle.cell_sim.specs.Commands.{faced_station, has_arm_at, is_station_of, met, path_of, set_out}
use Rattle.cell_sim.specs.Commands.{station_before, told}
use Rattle.cell_sim.specs.Parts.{axis_at, collided}
use Rattle.cell_sim.specs.Simulated.{Simulated}
use Rattle.cell_world.specs.Going.{IsPlain}
use Rattle.cell_world.specs.Starting.{StandsAs, StartsClear, StartsStayClear, after_entry, one_more}
use Rattle.cell_world.proofs.Steps.{not_true, unless}
use Rattle.cell_world.proofs.Entries.{at_before, going_before, going_now, starts_it, starts_no_other}
use Rattle.cell_world.proofs.Starts.{on_does, ready, told_pose}

-- what an arm faces belongs to the machine of its station, which is neither the feed machine nor the robot
is_served : Machine → Bool
is_served machine.Feed = false
is_served machine.Robot = false
is_served _ = true

abbrev Owned : Option Faced → Type 0
Owned None = Unit {0}
Owned (Some f) = (machine_of_station f.station ≡ f.owner) × (is_served f.owner ≡ true)

owned : (x : Arm) (q : Pose) → Owned (faced x q)
unfolding is_served
owned arm.Arm1 pose.Table1 = (refl, refl)
owned arm.Arm1 pose.P1Load = (refl, refl)
owned arm.Arm1 pose.P2Load = (refl, refl)
owned arm.Arm2 pose.P1Unload = (refl, refl)
owned arm.Arm2 pose.P2Unload = (refl, refl)
owned arm.Arm2 pose.Deposit2 = (refl, refl)
owned x q = tt

owned_by : (x : Arm) (q : Pose) (f : Faced) → faced x q ≡ Some f → Owned (Some f)
owned_by x q f h = subst Owned h (owned x q)

-- no arm is inside the machine of an axis that goes
no_going : (o : Option Pose) (to : Pose) → o ≡ None → o ≡ Some to → ⊥
no_going None to h k = cc k
no_going (Some q) to h k = cc h

unserved : (m n : Machine) → m ≡ n → is_served m ≡ true → is_served n ≡ false → ⊥
unserved m n e h k = let c : true ≡ false = sym h ∙ (ap is_served e ∙ k) in cc c

owner_served : (P : List Entry) (m : Machine) (x : Arm) (i : IsInside P m x) → is_served i.what.owner ≡ true
owner_served P m x i = (owned_by x (at_of P axis.RobotTurn) i.what i.facing).1

none_inside : (P : List Entry) (a : Axis) (to : Pose) (x : Arm) → SafeState P → going_of P a ≡ Some to
    → IsInside P (machine_of_axis a) x → ⊥
unfolding is_served
none_inside P axis.FeedBelt to x s g i =
    unserved i.what.owner machine.Feed i.owner (owner_served P machine.Feed x i) refl
none_inside P axis.TableLift to x s g i = no_going (going_of P axis.TableLift) to (s.table_lift x i) g
none_inside P axis.TableTurn to x s g i = no_going (going_of P axis.TableTurn) to (s.table_turn x i) g
none_inside P axis.PressOne to x s g i = no_going (going_of P axis.PressOne) to (s.press1 x i) g
none_inside P axis.PressTwo to x s g i = no_going (going_of P axis.PressTwo) to (s.press2 x i) g
none_inside P axis.DepositBelt to x s g i = no_going (going_of P axis.DepositBelt) to (s.deposit x i) g
none_inside P axis.RobotTurn to x s g i =
    unserved i.what.owner machine.Robot i.owner (owner_served P machine.Robot x i) refl
none_inside P axis.ArmOne to x s g i =
    unserved i.what.owner machine.Robot i.owner (owner_served P machine.Robot x i) refl
none_inside P axis.ArmTwo to x s g i =
    unserved i.what.owner machine.Robot i.owner (owner_served P machine.Robot x i) refl

in_or_out : (p : Pose) → p ≡ pose.In → p ≡ pose.Out → ⊥
in_or_out p h k =
    let c : true ≡ false = ap (λ (q : Pose). same_pose q pose.In) (sym h ∙ k) in cc c

-- so an arm that isn't in faces no station of it
clear_of : (P : List Entry) (a : Axis) (to : Pose) (x : Arm) (o : Option Faced) → SafeState P → going_of P a ≡ Some to
    → faced x (at_of P axis.RobotTurn) ≡ o → (RestsAt P (axis_of_arm x) pose.In → ⊥)
    → is_station_of (machine_of_axis a) (faced_station o) ≡ false
clear_of P a to x None s g h k = refl
clear_of P a to x (Some f) s g h k =
    not_true (same_machine (machine_of_station f.station) (machine_of_axis a)) (λ e. none_inside P a to x s g (record {
      what = f;
      facing = h;
      owner = sym (owned_by x (at_of P axis.RobotTurn) f h).0
          ∙ machine_same (machine_of_station f.station) (machine_of_axis a) e;
      out = k;
    }))

-- one that is out in the world isn't in, and then the turn doesn't go
not_in : (P : List Entry) (b : Axis) (p : Pose) → StandsAs P b p → p ≡ pose.Out → RestsAt P b pose.In → ⊥
not_in P b p (inl h) e r = in_or_out p (h ∙ r.pose) e
not_in P b p (inr g) e r = no_going (going_of P b) p r.still g

arms_in : (P : List Entry) (q : Pose) (x : Arm) → SafeState P → going_of P axis.RobotTurn ≡ Some q
    → RestsAt P (axis_of_arm x) pose.In
arms_in P q arm.Arm1 s g = (s.turn q g).0
arms_in P q arm.Arm2 s g = (s.turn q g).1

turn_as : (P : List Entry) (x : Arm) (q : Pose) → SafeState P → (RestsAt P (axis_of_arm x) pose.In → ⊥)
    → StandsAs P axis.RobotTurn q → q ≡ at_of P axis.RobotTurn
turn_as P x q s out (inl h) = h
turn_as P x q s out (inr g) = absurd (out (arms_in P q x s g))

clear_where : (m : Machine) (b : Bool) (o : Option Station) → (b ≡ true → is_station_of m o ≡ false)
    → is_station_of m (if b then o else None) ≡ false
clear_where m true o h = h refl
clear_where m false o h = refl

clear_arm : (P : List Entry) (a : Axis) (to : Pose) (x : Arm) (v : Simulated) → SafeState P → going_of P a ≡ Some to
    → StandsAs P (axis_of_arm x) (axis_at v (axis_of_arm x)).pose
    → StandsAs P axis.RobotTurn (axis_at v axis.RobotTurn).pose
    → is_station_of (machine_of_axis a) (station_before v x) ≡ false
clear_arm P a to x v s g h k =
    let p = (axis_at v (axis_of_arm x)).pose in let q = (axis_at v axis.RobotTurn).pose in
    clear_where (machine_of_axis a) (same_pose p pose.Out) (faced_station (faced x q))
    (λ e. let out = not_in P (axis_of_arm x) p h (pose_same p pose.Out e) in
    clear_of P a to x (faced x q) s g (ap (faced x) (sym (turn_as P x q s out k))) out)

-- an axis that goes isn't one that rests
same_by : (a b : Axis) → axis_number b ≡ axis_number a → same_axis b a ≡ true
same_by a b h = grind (arith, nat_tests)

goes_elsewhere : (J : List Entry) (a b : Axis) (p : Pose) → going_of J a ≡ None → going_of J b ≡ Some p
    → axis_number b ≢ axis_number a
goes_elsewhere J a b p r g e =
    no_going (going_of J a) p r (ap (λ (c : Axis). going_of J c) (sym (axis_same b a (same_by a b e))) ∙ g)

-- the robot stands so also when the axis was told to move
may_told : (J : List Entry) (a b : Axis) (to : Pose) (p : Pose) → going_of J a ≡ None → StandsAs J b p
    → StandsAs (one_more J (Started a to)) b p
may_told J a b to p r (inl h) = inl (h ∙ sym (at_before J (Started a to) b refl))
may_told J a b to p r (inr g) =
    inr (going_before J (Started a to) b (starts_no_other a b to (goes_elsewhere J a b p r g)) ∙ g)

-- and one that stands as booked also where the axis goes
stands_told : (J : List Entry) (a b : Axis) (to p : Pose) → p ≡ at_of J b → StandsAs (one_more J (Started a to)) b p
stands_told J a b to p h = inl (h ∙ sym (at_before J (Started a to) b refl))

none_met : (J : List Entry) (a : Axis) (to : Pose) (w : Simulated) → IsPlain w
    → ((b : Axis) → machine_of_axis b ≡ machine.Robot → StandsAs (one_more J (Started a to)) b (axis_at w b).pose)
    → SafeState (one_more J (Started a to)) → has_arm_at (told a w) (machine_of_axis a) ≡ false
none_met J a to w t r s =
    let P = one_more J (Started a to) in
    let g = going_now J (Started a to) a (Some to) (starts_it a to) in
    let at : (b : Axis) → machine_of_axis b ≡ machine.Robot → StandsAs P b (axis_at (told a w) b).pose =
    λ b m. subst (StandsAs P b) (sym (told_pose a b w t)) (r b m) in
    let x = clear_arm P a to arm.Arm1 (told a w) s g (at axis.ArmOne refl) (at axis.RobotTurn refl) in
    let y = clear_arm P a to arm.Arm2 (told a w) s g (at axis.ArmTwo refl) (at axis.RobotTurn refl) in
    ap (λ (b : Bool). b || is_station_of (machine_of_axis a) (station_before (told a w) arm.Arm2)) x ∙ y

-- nothing else of the command counts a collision
out_counts : (a : Axis) (to : Pose) (o : Option Path) (w : Simulated)
    → (set_out a to None o w).collisions ≡ w.collisions
unfolding set_out
out_counts a to None w = refl
out_counts a to (Some p) w = refl

told_counts : (a : Axis) (w : Simulated) → (told a w).collisions ≡ w.collisions
unfolding told
told_counts a w = refl

ready_counts : (a : Axis) (w : Simulated) → has_arm_at (told a w) (machine_of_axis a) ≡ false
    → (ready a w).collisions ≡ (told a w).collisions
unfolding ready met
ready_counts a w h =
    ap (λ (v : Simulated). v.collisions)
    (unless (has_arm_at (told a w) (machine_of_axis a)) (collided (told a w)) (told a w) h)

counts_as : (J : List Entry) (a : Axis) (to : Pose) (w : Simulated) → IsPlain w
    → ((b : Axis) → machine_of_axis b ≡ machine.Robot → StandsAs (one_more J (Started a to)) b (axis_at w b).pose)
    → SafeState (one_more J (Started a to)) → (after_entry w (Started a to)).collisions ≡ w.collisions
counts_as J a to w t r s =
    ap (λ (v : Simulated). v.collisions) (on_does a to w t)
    ∙ (out_counts a to (path_of (ready a w) a to) (ready a w)
    ∙ (ready_counts a w (none_met J a to w t r s) ∙ told_counts a w))

pub starts_clear : StartsClear
starts_clear J a to w t r s =
    counts_as J a to w t (λ b m. stands_told J a b to (axis_at w b).pose (r b m)) s

pub starts_stay_clear : StartsStayClear
starts_stay_clear J a to w t r g s =
    counts_as J a to w t (λ b m. may_told J a b to (axis_at w b).pose g (r b m)) s
