-- Readings of an axis whose motion may have a fault, in a world that may be watched
use Rattle.std.proofs.Common.{◌≡◌, ◌≢◌, Bool, true, false, not, ◌&&◌, ◌||◌, Option, Some, None, List, [], ◌∷◌, length}
use Rattle.std.proofs.Common.{◌-◌, ◌==◌, refl, arith, sym, ap, ◌∙◌, length-set, if◌then◌else◌, subst}
use Rattle.cell_types.specs.declared.words.Arm.{Arm}
use Rattle.cell_types.specs.declared.words.Axis.{Axis}
use Rattle.cell_types.specs.declared.words.Axis.TheVariants as axis
use Rattle.cell_types.specs.declared.words.Command.{Command}
use Rattle.cell_types.specs.declared.words.Pose.{Pose}
use Rattle.cell_types.specs.declared.words.Pose.TheVariants as pose
use Rattle.cell_types.specs.declared.words.Station.{Station}
use Rattle.cell_types.specs.Cell.{axes_of, machine_of_axis, station_of_arm}
use Rattle.cell_types.specs.Same.{axis_number, same_pose}
use Rattle.cell_sim.specs.declared.axis.AxisInWorld.{AxisInWorld}
use Rattle.cell_sim.specs.declared.fault.Fault.{Fault}
use Rattle.cell_sim.specs.declared.fault.Fault.TheVariants as fault
use Rattle.cell_sim.specs.declared.motion.Moving.{Moving}
use Rattle.cell_sim.specs.declared.motion.Path.{Path}
use Rattle.cell_sim.specs.declared.motion.Path.TheVariants.{Poses}
use Rattle.cell_sim.specs.declared.motion.Phase.{Phase}
use Rattle.cell_sim.specs.declared.motion.Phase.TheVariants.{Begun, Seen, Between, Arrived}
use Rattle.cell_sim.specs.Looks.{all_situation, arm_of, is_belt, is_so, looked, now_so, plate_of_arm_lost, rule_of}
use Rattle.cell_sim.specs.Looks.{situation_looked, was_so}
use Rattle.cell_sim.specs.Moves.{arrived_at, goal_of, is_under_way, next_phase, shown_bits}
use Rattle.cell_sim.specs.Parts.{axis_at, broke, has_plate, in_turn, plate_lost, with_motion, with_pose}
use Rattle.cell_sim.specs.Readings.{advanced, after_reading, arrived, axis_skipped, at_its_end, command_of, forges}
use Rattle.cell_sim.specs.Readings.{gone_on, is_reading_missing, is_silent_in, left_with, passed, read_on, shown}
use Rattle.cell_sim.specs.Readings.{shown_now, shown_on, stations_left, switches_of}
use Rattle.cell_sim.specs.Simulated.{Simulated}
use Rattle.cell_world.specs.Faulty.{IsStill, OthersStill, read_once}
use Rattle.cell_world.proofs.Any.{broke_axes, no_hands}
use Rattle.cell_world.proofs.Steps.{IsLeft, at_other, at_same, axes_at, below_nine, either, forges_left, unless}

-- WHAT LEAVES THE AXES

abbrev pub axes : Simulated → List AxisInWorld
axes w = w.axes

axes_left : IsLeft axes
axes_left = record { broken = broke_axes; plates = λ s o n w. refl }

-- where one of two things is done, neither of which changes them
pub one_of : (b : Bool) (v u w : Simulated) → axes v ≡ axes w → axes u ≡ axes w → axes (if b then v else u) ≡ axes w
one_of b v u w h k = either axes b v u (axes w) h k

each_axes : {A : Type 0} (step : A → Simulated → Simulated) → ((a : A) (w : Simulated) → axes (step a w) ≡ axes w)
    → (xs : List A) (w : Simulated) → axes (in_turn step xs w) ≡ axes w
each_axes step h [] w = refl
each_axes step h (x ∷ xs) w = each_axes step h xs (step x w) ∙ h x w

lost_axes : (s : Station) (w : Simulated) → axes (plate_lost s w) ≡ axes w
lost_axes s w = one_of (has_plate w s) _ w w refl refl

arm_axes : (a : Option Arm) (w : Simulated) → axes (plate_of_arm_lost a w) ≡ axes w
arm_axes None w = refl
arm_axes (Some a) w = lost_axes (station_of_arm a) w

pub looked_axes : (c : Option Command) (w : Simulated) → axes (looked c w) ≡ axes w
unfolding looked situation_looked
looked_axes c w =
    one_of w.watch.is_on (in_turn (situation_looked c) all_situation w) w w
    (each_axes (situation_looked c) (λ s v. one_of (is_so v s && not (was_so v.watch s))
    (plate_of_arm_lost (arm_of s) (broke (rule_of s) c (record v { watch = now_so s (is_so v s) v.watch })))
    (record v { watch = now_so s (is_so v s) v.watch }) v
    (arm_axes (arm_of s) (broke (rule_of s) c (record v { watch = now_so s (is_so v s) v.watch }))
    ∙ broke_axes (rule_of s) c (record v { watch = now_so s (is_so v s) v.watch })) refl) all_situation w) refl

with_axes : (f : Option Fault) (a : Axis) (w : Simulated) → axes (left_with f a w) ≡ axes w
unfolding left_with
with_axes (Some fault.LosePlate) a w = each_axes plate_lost lost_axes (stations_left a) w
with_axes f a w = refl

pub end_axes : (a : Axis) (to : Pose) (w : Simulated) → axes (at_its_end a to w) ≡ axes (with_pose a to w)
end_axes a to w =
    one_of (same_pose to pose.Top) (forges a (with_pose a to w)) (with_pose a to w) (with_pose a to w)
    (forges_left axes axes_left a (with_pose a to w)) refl

-- WHAT CHANGES BUT ONE AXIS'S MOTION

-- but for this axis, whose motion is now this one, the axes are as before, if not their poses
pub record Follows (a : Axis) (x : Option Moving) (w u : Simulated) : Type 0 where
  pub all : length u.axes ≡ length w.axes
  pub own : (axis_at u a).motion ≡ x
  pub other : (b : Axis) → axis_number b ≢ axis_number a → axis_at u b ≡ axis_at w b

pub follows_as : (a : Axis) (x : Option Moving) (w u v : Simulated) → axes v ≡ axes u → Follows a x w u
    → Follows a x w v
follows_as a x w u v h t =
    record {
      all = ap (λ (l : List AxisInWorld). length l) h ∙ t.all;
      own = ap (λ (y : AxisInWorld). y.motion) (axes_at v u a h) ∙ t.own;
      other = λ b n. axes_at v u b h ∙ t.other b n;
    }

pub follows_motion : (a : Axis) (x : Option Moving) (w : Simulated) → length w.axes ≡ 9
    → Follows a x w (with_motion a x w)
follows_motion a x w nine =
    record {
      all = length-set _ _ _;
      own = ap (λ (y : AxisInWorld). y.motion) (at_same w a _ (below_nine a _ nine));
      other = λ b n. at_other w a b _ n;
    }

follows_pose : (a : Axis) (x : Option Moving) (to : Pose) (w u : Simulated) → length w.axes ≡ 9 → Follows a x w u
    → Follows a x w (with_pose a to u)
follows_pose a x to w u nine t =
    record {
      all = length-set _ _ _ ∙ t.all;
      own = ap (λ (y : AxisInWorld). y.motion) (at_same u a _ (below_nine a _ (t.all ∙ nine))) ∙ t.own;
      other = λ b n. at_other u a b _ n ∙ t.other b n;
    }

follows_arrived : (a : Axis) (x : Option Moving) (path : Path) (from to : Pose) (w u : Simulated)
    → path ≡ Poses from to → length w.axes ≡ 9 → Follows a x w u → Follows a x w (arrived a path u)
unfolding arrived
follows_arrived a x path from to w u h nine t =
    let p = follows_pose a x to w u nine t in
    let y = follows_as a x w (with_pose a to u) (at_its_end a to u) (end_axes a to u) p in
    rw h y

follows_passed : (a : Axis) (x : Option Moving) (v : Moving) (from to : Pose) (p q : Phase) (w u : Simulated)
    → v.path ≡ Poses from to → length w.axes ≡ 9 → Follows a x w u → Follows a x w (passed a v p q u)
follows_passed a x v from to Begun q w u h nine t = t
follows_passed a x v from to Seen Begun w u h nine t = t
follows_passed a x v from to Seen Seen w u h nine t = t
follows_passed a x v from to Seen (Between n) w u h nine t =
    follows_as a x w u (left_with v.fault a u) (with_axes v.fault a u) t
follows_passed a x v from to Seen Arrived w u h nine t = t
follows_passed a x v from to (Between n) Begun w u h nine t = t
follows_passed a x v from to (Between n) Seen w u h nine t = t
follows_passed a x v from to (Between n) (Between k) w u h nine t = t
follows_passed a x v from to (Between n) Arrived w u h nine t =
    follows_as a x w (arrived a v.path u) (looked (command_of a (goal_of a v)) (arrived a v.path u))
    (looked_axes (command_of a (goal_of a v)) (arrived a v.path u)) (follows_arrived a x v.path from to w u h nine t)
follows_passed a x v from to Arrived q w u h nine t = t

-- ONE READING

abbrev pub gone : Moving → Moving
gone v = record v { phase = next_phase v }

-- a motion that has arrived stays as it is
arrived_stays : (v : Moving) (p : Phase) → v.phase ≡ p → arrived_at p ≡ true → v.stopped ≡ false → v ≡ gone v
arrived_stays v Begun h k s = cc k
arrived_stays v Seen h k s = cc k
arrived_stays v (Between n) h k s = cc k
arrived_stays v Arrived h k s =
    let e : next_phase v ≡ v.phase = rw (s, h) refl in
    ap (λ (p : Phase). record v { phase = p }) (sym e)

over_unless : (s b : Bool) → (not s && not b) ≡ false → s ≡ false → b ≡ true
over_unless true b h s = cc s
over_unless false true h s = refl
over_unless false false h s = cc h

not_under_way : (v : Moving) → is_under_way v ≡ false → v.stopped ≡ false → arrived_at v.phase ≡ true
not_under_way v h s = over_unless v.stopped (arrived_at v.phase) h s

follows_if : (b : Bool) (a : Axis) (v : Moving) (from to : Pose) (w : Simulated) → is_under_way v ≡ b
    → (axis_at w a).motion ≡ Some v → v.path ≡ Poses from to → v.stopped ≡ false → length w.axes ≡ 9
    → Follows a (Some (gone v)) w (if b then gone_on a (Some v) w else w)
follows_if true a v from to w e m h s nine =
    follows_passed a (Some (gone v)) v from to v.phase (next_phase v) w (with_motion a (Some (gone v)) w) h nine
    (follows_motion a (Some (gone v)) w nine)
follows_if false a v from to w e m h s nine =
    record {
      all = refl;
      own = m ∙ ap (λ (y : Moving). Some y) (arrived_stays v v.phase refl (not_under_way v e s) s);
      other = λ b n. refl;
    }

follows_advanced : (a : Axis) (v : Moving) (from to : Pose) (w : Simulated) → (axis_at w a).motion ≡ Some v
    → v.path ≡ Poses from to → v.stopped ≡ false → length w.axes ≡ 9 → Follows a (Some (gone v)) w (advanced a w)
unfolding advanced
follows_advanced a v from to w m h s nine =
    let y = follows_if (is_under_way v) a v from to w refl m h s nine in rw m y

pub others_after : (a : Axis) (x : Option Moving) (w u : Simulated) → Follows a x w u → OthersStill a w
    → OthersStill a u
others_after a x w u t o b m n =
    subst (λ (y : AxisInWorld). IsStill y.motion) (sym (t.other b n)) (o b m n)

still_advanced : (b : Axis) (w : Simulated) → IsStill (axis_at w b).motion → advanced b w ≡ w
unfolding advanced
still_advanced b w t = let h = t.unmoved in rw h refl

still_skipped : (b : Axis) (w : Simulated) → IsStill (axis_at w b).motion → axis_skipped b w ≡ w
unfolding axis_skipped
still_skipped b w t = let h = t.read in rw h refl

-- of the axes of a machine one alone changes, where a step leaves those that are still
in_turn_one : (step : Axis → Simulated → Simulated) (a : Axis) (x : Option Moving) (w : Simulated)
    → ((b : Axis) (u : Simulated) → IsStill (axis_at u b).motion → step b u ≡ u) → is_belt a ≡ false
    → Follows a x w (step a w) → OthersStill a w → in_turn step (axes_of (machine_of_axis a)) w ≡ step a w
in_turn_one step axis.FeedBelt x w h s t o = cc s
in_turn_one step axis.DepositBelt x w h s t o = cc s
in_turn_one step axis.TableLift x w h s t o =
    h axis.TableTurn (step axis.TableLift w)
    (others_after axis.TableLift x w (step axis.TableLift w) t o axis.TableTurn refl (omega arith))
in_turn_one step axis.TableTurn x w h s t o =
    ap (λ (v : Simulated). step axis.TableTurn v) (h axis.TableLift w (o axis.TableLift refl (omega arith)))
in_turn_one step axis.RobotTurn x w h s t o =
    let u = step axis.RobotTurn w in let o2 = others_after axis.RobotTurn x w u t o in
    ap (λ (v : Simulated). step axis.ArmTwo v) (h axis.ArmOne u (o2 axis.ArmOne refl (omega arith)))
    ∙ h axis.ArmTwo u (o2 axis.ArmTwo refl (omega arith))
in_turn_one step axis.ArmOne x w h s t o =
    let u = step axis.ArmOne w in let o2 = others_after axis.ArmOne x w u t o in
    ap (λ (v : Simulated). step axis.ArmTwo (step axis.ArmOne v))
    (h axis.RobotTurn w (o axis.RobotTurn refl (omega arith)))
    ∙ h axis.ArmTwo u (o2 axis.ArmTwo refl (omega arith))
in_turn_one step axis.ArmTwo x w h s t o =
    ap (λ (v : Simulated). step axis.ArmTwo (step axis.ArmOne v))
    (h axis.RobotTurn w (o axis.RobotTurn refl (omega arith)))
    ∙ ap (λ (v : Simulated). step axis.ArmTwo v) (h axis.ArmOne w (o axis.ArmOne refl (omega arith)))
in_turn_one step axis.PressOne x w h s t o = refl
in_turn_one step axis.PressTwo x w h s t o = refl

or_nothing : (b : Bool) → (b || false) ≡ b
or_nothing true = refl
or_nothing false = refl

-- its machine isn't read where this axis keeps it from that
missing_by : (a : Axis) (w : Simulated) → is_belt a ≡ false → OthersStill a w
    → is_reading_missing w (machine_of_axis a) ≡ is_silent_in (axis_at w a).motion
missing_by axis.FeedBelt w s o = cc s
missing_by axis.DepositBelt w s o = cc s
missing_by axis.TableLift w s o =
    let t = (o axis.TableTurn refl (omega arith)).read in
    rw t (or_nothing (is_silent_in (axis_at w axis.TableLift).motion))
missing_by axis.TableTurn w s o =
    let t = (o axis.TableLift refl (omega arith)).read in
    rw t (or_nothing (is_silent_in (axis_at w axis.TableTurn).motion))
missing_by axis.RobotTurn w s o =
    let t = (o axis.ArmOne refl (omega arith)).read in let u = (o axis.ArmTwo refl (omega arith)).read in
    rw (t, u) (or_nothing (is_silent_in (axis_at w axis.RobotTurn).motion))
missing_by axis.ArmOne w s o =
    let t = (o axis.RobotTurn refl (omega arith)).read in let u = (o axis.ArmTwo refl (omega arith)).read in
    rw (t, u) (or_nothing (is_silent_in (axis_at w axis.ArmOne).motion))
missing_by axis.ArmTwo w s o =
    let t = (o axis.RobotTurn refl (omega arith)).read in let u = (o axis.ArmOne refl (omega arith)).read in
    rw (t, u) (or_nothing (is_silent_in (axis_at w axis.ArmTwo).motion))
missing_by axis.PressOne w s o = or_nothing (is_silent_in (axis_at w axis.PressOne).motion)
missing_by axis.PressTwo w s o = or_nothing (is_silent_in (axis_at w axis.PressTwo).motion)

-- what a reading makes of the world, and what it shows
missing_here : (a : Axis) (v : Moving) (w : Simulated) → is_belt a ≡ false → OthersStill a w
    → (axis_at w a).motion ≡ Some v → is_reading_missing w (machine_of_axis a) ≡ not (v.missing == 0)
missing_here a v w s o m = missing_by a w s o ∙ ap (λ (x : Option Moving). is_silent_in x) m

abbrev pub skip : Moving → Moving
skip v = record v { missing = v.missing - 1 }

pub read_advanced : (a : Axis) (v : Moving) (from to : Pose) (w : Simulated) → is_belt a ≡ false → OthersStill a w
    → (axis_at w a).motion ≡ Some v → v.path ≡ Poses from to → v.stopped ≡ false → length w.axes ≡ 9
    → (v.missing == 0) ≡ true → read_on (machine_of_axis a) w ≡ advanced a w
unfolding read_on
read_advanced a v from to w s o m h d nine e =
    unless (is_reading_missing w (machine_of_axis a)) _ _
    (missing_here a v w s o m ∙ ap (λ (b : Bool). not b) e)
    ∙ in_turn_one advanced a (Some (gone v)) w still_advanced s (follows_advanced a v from to w m h d nine) o

skipped_one : (a : Axis) (v : Moving) (w : Simulated) → (axis_at w a).motion ≡ Some v → (v.missing == 0) ≡ false
    → axis_skipped a w ≡ with_motion a (Some (skip v)) w
unfolding axis_skipped
skipped_one a v w m e = rw (m, e) refl

chosen : {X : Type 0} (b : Bool) (x y : X) → b ≡ true → (if b then x else y) ≡ x
chosen true x y h = refl
chosen false x y h = cc h

follows_skipped : (a : Axis) (v : Moving) (w : Simulated) → (axis_at w a).motion ≡ Some v → (v.missing == 0) ≡ false
    → length w.axes ≡ 9 → Follows a (Some (skip v)) w (axis_skipped a w)
follows_skipped a v w m e nine =
    subst (λ (u : Simulated). Follows a (Some (skip v)) w u) (sym (skipped_one a v w m e))
    (follows_motion a (Some (skip v)) w nine)

read_skipped : (a : Axis) (v : Moving) (w : Simulated) → is_belt a ≡ false → OthersStill a w
    → (axis_at w a).motion ≡ Some v → length w.axes ≡ 9 → (v.missing == 0) ≡ false
    → read_on (machine_of_axis a) w ≡ axis_skipped a w
unfolding read_on
read_skipped a v w s o m nine e =
    chosen (is_reading_missing w (machine_of_axis a)) _ _
    (missing_here a v w s o m ∙ ap (λ (b : Bool). not b) e)
    ∙ in_turn_one axis_skipped a (Some (skip v)) w still_skipped s (follows_skipped a v w m e nine) o

follows_read : (b : Bool) (a : Axis) (v : Moving) (from to : Pose) (w : Simulated) → (v.missing == 0) ≡ b
    → is_belt a ≡ false → OthersStill a w → (axis_at w a).motion ≡ Some v → v.path ≡ Poses from to → v.stopped ≡ false
    → length w.axes ≡ 9 → Follows a (Some (if b then gone v else skip v)) w (read_on (machine_of_axis a) w)
follows_read true a v from to w e s o m h d nine =
    subst (λ (u : Simulated). Follows a (Some (gone v)) w u) (sym (read_advanced a v from to w s o m h d nine e))
    (follows_advanced a v from to w m h d nine)
follows_read false a v from to w e s o m h d nine =
    subst (λ (u : Simulated). Follows a (Some (skip v)) w u) (sym (read_skipped a v w s o m nine e))
    (follows_skipped a v w m e nine)

pub after_as : (a : Axis) (w : Simulated) → is_belt a ≡ false
    → after_reading w (machine_of_axis a) ≡ read_on (machine_of_axis a) w
unfolding after_reading
after_as a w s = ap (λ (v : Simulated). read_on (machine_of_axis a) v) (no_hands a w s)

pub follows_after : (a : Axis) (v : Moving) (from to : Pose) (w : Simulated) → is_belt a ≡ false → OthersStill a w
    → (axis_at w a).motion ≡ Some v → v.path ≡ Poses from to → v.stopped ≡ false → length w.axes ≡ 9
    → Follows a (Some (read_once v)) w (after_reading w (machine_of_axis a))
follows_after a v from to w s o m h d nine =
    subst (λ (u : Simulated). Follows a (Some (read_once v)) w u) (sym (after_as a w s))
    (follows_read (v.missing == 0) a v from to w refl s o m h d nine)

-- a reading that is missing shows nothing, and else it shows how the axes then stand
pub shown_missing : (a : Axis) (v : Moving) (w : Simulated) → is_belt a ≡ false → OthersStill a w
    → (axis_at w a).motion ≡ Some v → (v.missing == 0) ≡ false → shown w (machine_of_axis a) ≡ None
unfolding shown shown_on
shown_missing a v w s o m e =
    ap (λ (u : Simulated). shown_on (machine_of_axis a) u) (no_hands a w s)
    ∙ chosen (is_reading_missing w (machine_of_axis a)) _ _ (missing_here a v w s o m ∙ ap (λ (b : Bool). not b) e)

pub shown_read : (a : Axis) (v : Moving) (w : Simulated) → is_belt a ≡ false → OthersStill a w
    → (axis_at w a).motion ≡ Some v → (v.missing == 0) ≡ true
    → shown w (machine_of_axis a) ≡ Some (shown_now (after_reading w (machine_of_axis a)) (machine_of_axis a))
unfolding shown shown_on
shown_read a v w s o m e =
    ap (λ (u : Simulated). shown_on (machine_of_axis a) u) (no_hands a w s)
    ∙ (unless (is_reading_missing w (machine_of_axis a)) _ _ (missing_here a v w s o m ∙ ap (λ (b : Bool). not b) e)
    ∙ ap (λ (u : Simulated). Some (shown_now u (machine_of_axis a))) (sym (after_as a w s)))

-- what the switches of the axis then show
pub switches_then : (a : Axis) (v : Moving) (from to : Pose) (u : Simulated) → (axis_at u a).motion ≡ Some v
    → v.path ≡ Poses from to → switches_of u a ≡ shown_bits v a from to
switches_then a v from to u m h = rw (m, h) refl
