-- One reading more of an axis that goes, and of one that rests
use Rattle.std.proofs.Common.{◌≡◌, ◌≢◌, ◌<◌, Bool, true, false, Option, Some, None, List, [], ◌∷◌, length, refl}
use Rattle.std.proofs.Common.{ℕ, zero, suc, ◌+◌, ◌++◌, arith, sym, ap, subst, ◌∙◌, get_or-set_same, get_or-set_other}
use Rattle.std.proofs.Common.{if◌then◌else◌}
use Rattle.std.proofs.lemmas.Bool.Decides.{nat_tests}
use Rattle.std.specs.Prelude.{slice_index_or}
use Rattle.cell_types.specs.declared.words.Axis.{Axis}
use Rattle.cell_types.specs.declared.words.Axis.TheVariants as axis
use Rattle.cell_types.specs.declared.words.Pose.{Pose}
use Rattle.cell_types.specs.declared.words.Pose.TheVariants as pose
use Rattle.cell_types.specs.declared.words.Entry.{Entry}
use Rattle.cell_types.specs.Cell.{is_pose_of}
use Rattle.cell_types.specs.Same.{axis_number, same_axis, same_pose}
use Rattle.cell_types.specs.declared.words.Command.{Command}
use Rattle.cell_types.specs.declared.words.Command.TheVariants.{On}
use Rattle.cell_types.specs.declared.words.Station.{Station}
use Rattle.cell_types.specs.declared.words.Station.TheVariants as station
use Rattle.cell_rules.specs.Views.{at_of, going_of}
use Rattle.cell_rules.proofs.Safe.Facts.{axis_same}
use Rattle.cell_diagnosis.specs.declared.motion.Motion.{Motion}
use Rattle.cell_diagnosis.specs.Readings.{Seen, no_bits}
use Rattle.cell_diagnosis.specs.AxisRules.{verdict}
use Rattle.cell_diagnosis.specs.declared.verdict.Verdict.TheVariants.{Pending, Arrived as HasArrived}
use Rattle.cell_turns.specs.Observed.{axis_verdict, followed, same_motion}
use Rattle.cell_sim.specs.declared.axis.AxisInWorld.{AxisInWorld}
use Rattle.cell_sim.specs.declared.motion.Moving.{Moving}
use Rattle.cell_sim.specs.declared.motion.Path.{Path}
use Rattle.cell_sim.specs.declared.motion.Path.TheVariants.{Poses}
use Rattle.cell_sim.specs.declared.motion.Phase.{Phase}
use Rattle.cell_sim.specs.declared.motion.Phase.TheVariants.{Seen as IsSeen, Between, Arrived}
use Rattle.cell_sim.specs.declared.watch.SafetyRule.{SafetyRule}
use Rattle.cell_sim.specs.declared.watch.SafetyRule.TheVariants as rule
use Rattle.cell_sim.specs.declared.watch.Watch.{Watch}
use Rattle.cell_sim.specs.declared.world.Plate.{Plate}
use Rattle.cell_sim.specs.Looks.{looked}
use Rattle.cell_sim.specs.Moves.{moves}
use Rattle.cell_sim.specs.Parts.{axis_at, broke, counted, plate_here, with_axis, with_motion, with_plate, with_pose}
use Rattle.cell_sim.specs.Readings.{advanced, arrived, at_its_end, forged_plate, forged_there, forges, is_silent_in}
use Rattle.cell_sim.specs.Readings.{left_with}
use Rattle.cell_sim.specs.Simulated.{Simulated, at_home}
use Rattle.cell_world.specs.Tied.{Given, none, one, more, further_of, motion_along, next_given, noted_of, only}
use Rattle.cell_world.specs.Tied.{under_way}
use Rattle.cell_world.specs.Tied.{IsFair, Rests, RestsBy}
use Rattle.cell_world.proofs.Verdicts.{blanks, blanks_arrived, blanks_more, blanks_pending, first_pending}
use Rattle.cell_world.specs.Going.{IsAtRest}

pub at_same : (w : Simulated) (a : Axis) (x : AxisInWorld) → axis_number a < length w.axes
    → axis_at (with_axis a x w) a ≡ x
at_same w a x h = get_or-set_same w.axes (axis_number a) x (at_home a) h

pub at_other : (w : Simulated) (a b : Axis) (x : AxisInWorld) → axis_number b ≢ axis_number a
    → axis_at (with_axis a x w) b ≡ axis_at w b
at_other w a b x h = get_or-set_other w.axes (axis_number a) (axis_number b) x (at_home b) h

pub axes_at : (v w : Simulated) (a : Axis) → v.axes ≡ w.axes → axis_at v a ≡ axis_at w a
axes_at v w a h = ap (λ (xs : List AxisInWorld). slice_index_or xs (axis_number a) (at_home a)) h

pub below_nine : (a : Axis) (n : ℕ) → n ≡ 9 → axis_number a < n
below_nine axis.FeedBelt n h = omega (arith, h)
below_nine axis.TableLift n h = omega (arith, h)
below_nine axis.TableTurn n h = omega (arith, h)
below_nine axis.RobotTurn n h = omega (arith, h)
below_nine axis.ArmOne n h = omega (arith, h)
below_nine axis.ArmTwo n h = omega (arith, h)
below_nine axis.PressOne n h = omega (arith, h)
below_nine axis.PressTwo n h = omega (arith, h)
below_nine axis.DepositBelt n h = omega (arith, h)

-- what holds of an axis and of all others holds of each
pub other_axis : (a b : Axis) → axis_number b ≢ axis_number a → same_axis a b ≡ false
other_axis a b h = grind (arith, nat_tests)

pub different : (a b : Axis) → same_axis b a ≡ false → axis_number b ≢ axis_number a
different a b h = grind (arith, nat_tests)

each_by : (P : Axis → Type 0) (a b : Axis) (t : Bool) → same_axis b a ≡ t → P a
    → (axis_number b ≢ axis_number a → P b) → P b
each_by P a b true h x y = subst P (sym (axis_same b a h)) x
each_by P a b false h x y = y (different a b h)

pub each_axis : (P : Axis → Type 0) (a b : Axis) → P a → (axis_number b ≢ axis_number a → P b) → P b
each_axis P a b x y = each_by P a b (same_axis b a) refl x y

-- an axis is at rest as before where book and world have it as before
pub rests_as : (J J' : List Entry) (v w : Simulated) (a : Axis) → at_of J' a ≡ at_of J a → going_of J' a ≡ going_of J a
    → axis_at v a ≡ axis_at w a → IsAtRest J w a → IsAtRest J' v a
rests_as J J' v w a at going h t =
    record {
      booked = going ∙ t.booked;
      own_pose = ap (λ (q : Pose). is_pose_of a q) at ∙ t.own_pose;
      rests = subst (λ (x : AxisInWorld). Rests (at_of J' a) x) (sym h)
          (subst (λ (q : Pose). Rests q (axis_at w a)) (sym at) t.rests);
    }

-- what a reading makes of the world where an axis goes, and the same but for what a press forges
abbrev pub went : Axis → Pose → Pose → Given → Simulated → Simulated
went a at to (none n) w = with_motion a (Some (motion_along (Poses at to) n IsSeen)) w
went a at to (one n) w = with_motion a (Some (motion_along (Poses at to) n (Between n))) w
went a at to (more n zero) w = at_its_end a to (with_motion a (Some (motion_along (Poses at to) (n + 0) Arrived)) w)
went a at to (more n (suc k)) w = with_motion a (Some (motion_along (Poses at to) (n + suc k) (Between k))) w

unfoldable pub made : Axis → Pose → Pose → Given → Simulated → Simulated
made a at to (none n) w = with_motion a (Some (motion_along (Poses at to) n IsSeen)) w
made a at to (one n) w = with_motion a (Some (motion_along (Poses at to) n (Between n))) w
made a at to (more n zero) w = with_pose a to (with_motion a (Some (motion_along (Poses at to) (n + 0) Arrived)) w)
made a at to (more n (suc k)) w = with_motion a (Some (motion_along (Poses at to) (n + suc k) (Between k))) w

pub either : {A X : Type 0} (part : A → X) (b : Bool) (v w : A) (x : X) → part v ≡ x → part w ≡ x
    → part (if b then v else w) ≡ x
either part true v w x h k = h
either part false v w x h k = k

-- a part of the world that no forging changes
pub record IsLeft {X : Type 0} (part : Simulated → X) : Type 0 where
  pub broken : (rule : SafetyRule) (c : Option Command) (w : Simulated) → part (broke rule c w) ≡ part w
  pub plates : (s : Station) (o : Option Plate) (n : ℕ) (w : Simulated)
      → part (record (with_plate s o w) { forged = n }) ≡ part w

there_left : {X : Type 0} (part : Simulated → X) → IsLeft part → (a : Axis) (s : Station) (o : Option Plate)
    (w : Simulated) → part (forged_there a s o w) ≡ part w
there_left part l a s None w = refl
there_left part l a s (Some p) w =
    either part p.is_forged (broke rule.ForgedTwice (Some (On a pose.Top)) w) _ (part w)
    (l.broken rule.ForgedTwice (Some (On a pose.Top)) w) (l.plates s (Some (forged_plate p)) (counted w.forged) w)

pub forges_left : {X : Type 0} (part : Simulated → X) → IsLeft part → (a : Axis) (w : Simulated)
    → part (forges a w) ≡ part w
unfolding forges
forges_left part l axis.PressOne w = there_left part l axis.PressOne station.Press1 (plate_here w station.Press1) w
forges_left part l axis.PressTwo w = there_left part l axis.PressTwo station.Press2 (plate_here w station.Press2) w
forges_left part l a w = refl

pub went_left : {X : Type 0} (part : Simulated → X) → IsLeft part → (a : Axis) (at to : Pose) (g : Given)
    (w : Simulated) → part (went a at to g w) ≡ part (made a at to g w)
unfolding made
went_left part l a at to (none n) w = refl
went_left part l a at to (one n) w = refl
went_left part l a at to (more n (suc k)) w = refl
went_left part l a at to (more n zero) w =
    let v = with_pose a to (with_motion a (Some (motion_along (Poses at to) (n + 0) Arrived)) w) in
    either part (same_pose to pose.Top) (forges a v) v (part v) (forges_left part l a v) refl

-- a world that isn't watched looks at nothing, and whatever happens in it doesn't turn its watch on
pub unlooked : (c : Option Command) (w : Simulated) → w.watch.is_on ≡ false → looked c w ≡ w
unfolding looked
unlooked c w u = rw u refl

pub broke_on : (rule : SafetyRule) (c : Option Command) (w : Simulated) → (broke rule c w).watch.is_on ≡ w.watch.is_on
unfolding broke
broke_on rule c w = either (λ (t : Watch). t.is_on) w.watch.is_on _ w.watch w.watch.is_on refl refl

pub on_left : IsLeft (λ (w : Simulated). w.watch.is_on)
on_left = record { broken = broke_on; plates = λ s o n w. refl }

made_on : (a : Axis) (at to : Pose) (g : Given) (w : Simulated) → (made a at to g w).watch.is_on ≡ w.watch.is_on
unfolding made
made_on a at to (none n) w = refl
made_on a at to (one n) w = refl
made_on a at to (more n zero) w = refl
made_on a at to (more n (suc k)) w = refl

pub went_watch : (a : Axis) (at to : Pose) (g : Given) (w : Simulated)
    → (went a at to g w).watch.is_on ≡ w.watch.is_on
went_watch a at to g w = went_left (λ (v : Simulated). v.watch.is_on) on_left a at to g w ∙ made_on a at to g w

pub goes_on : (a : Axis) (w : Simulated) (at to : Pose) (g : Given) → w.watch.is_on ≡ false
    → (axis_at w a).motion ≡ Some (under_way (Poses at to) g) → advanced a w ≡ went a at to g w
unfolding advanced arrived left_with
goes_on a w at to (none n) u h = rw h refl
goes_on a w at to (one n) u h = rw h refl
goes_on a w at to (more n (suc k)) u h = rw h refl
goes_on a w at to (more n zero) u h =
    let e = unlooked (Some (On a to)) (went a at to (more n 0) w) (went_watch a at to (more n 0) w ∙ u) in rw h e

pub rest_moves : (p : Pose) (m : Option Moving) → RestsBy p m → moves m ≡ false
rest_moves p None r = refl
rest_moves p (Some m) r = rw r.2 refl

pub rest_silent : (p : Pose) (m : Option Moving) → RestsBy p m → is_silent_in m ≡ false
rest_silent p None r = refl
rest_silent p (Some m) r = rw r.2 refl

pub going_silent : (at to : Pose) (g : Given) → is_silent_in (Some (under_way (Poses at to) g)) ≡ false
going_silent at to g = refl

pub stays : (a : Axis) (w : Simulated) (p : Pose) → RestsBy p (axis_at w a).motion → advanced a w ≡ w
unfolding advanced
stays a w p r = let h = rest_moves p (axis_at w a).motion r in rw h refl

pub same_poses : (p : Pose) → same_pose p p ≡ true
same_poses p = grind (arith, nat_tests)

pub same_axes : (a : Axis) → same_axis a a ≡ true
same_axes a = grind (arith, nat_tests)

pub not_true : (b : Bool) → (b ≡ true → ⊥) → b ≡ false
not_true true h = absurd (h refl)
not_true false h = refl

pub unless : {X : Type 0} (b : Bool) (x y : X) → b ≡ false → (if b then x else y) ≡ y
unless true x y h = cc h
unless false x y h = refl

-- what is given after one more reading
pub same_given : (g h : Given) → Some g ≡ Some h → g ≡ h
same_given g h e = cc e

pub further_more : (g h : Given) → next_given g ≡ Some h → further_of g ≡ further_of h
further_more (none n) h e = ap further_of (same_given (one n) h e)
further_more (one n) h e = let x : n ≡ 0 + n = omega arith in x ∙ ap further_of (same_given (more 0 n) h e)
further_more (more n zero) h e = cc e
further_more (more n (suc k)) h e =
    let x : n + suc k ≡ suc n + k = omega arith in x ∙ ap further_of (same_given (more (suc n) k) h e)

-- the phase then, and the motion
abbrev pub phase_then : Given → Phase
phase_then (none n) = IsSeen
phase_then (one n) = Between n
phase_then (more n zero) = Arrived
phase_then (more n (suc k)) = Between k

pub motion_then : (path : Path) (g h : Given) → next_given g ≡ Some h
    → motion_along path (further_of g) (phase_then g) ≡ under_way path h
motion_then path (none n) h e = ap (under_way path) (same_given (one n) h e)
motion_then path (one n) h e =
    let x : n ≡ 0 + n = omega arith in
    ap (λ (i : ℕ). motion_along path i (Between n)) x ∙ ap (under_way path) (same_given (more 0 n) h e)
motion_then path (more n zero) h e = cc e
motion_then path (more n (suc k)) h e =
    let x : n + suc k ≡ suc n + k = omega arith in
    ap (λ (i : ℕ). motion_along path i (Between k)) x ∙ ap (under_way path) (same_given (more (suc n) k) h e)

-- what the axis watch has noted before, what it sees next, and that it goes on with the motion that it follows
abbrev pub readings_of : Motion → Given → List Seen
readings_of m (none n) = []
readings_of m (one n) = blanks m 0
readings_of m (more n k) = blanks m (suc n)

abbrev pub seen_of : Pose → Pose → Given → Seen
seen_of at to (none n) = Some (only at)
seen_of at to (one n) = Some no_bits
seen_of at to (more n zero) = Some (only to)
seen_of at to (more n (suc k)) = Some no_bits

pub same_as : (m : Motion) → same_motion m m ≡ true
same_as m = let a = same_axes m.axis in let b = same_poses m.from in let c = same_poses m.to in rw (a, b, c) refl

pub followed_as : (m : Motion) (g : Given) → followed (noted_of m g) (Some m) ≡ Some
    (record { motion = m; readings = readings_of m g })
followed_as m (none n) = refl
followed_as m (one n) = let e = same_as m in rw e refl
followed_as m (more n k) = let e = same_as m in rw e refl

-- with what it sees next, it has noted what is given then, or the motion's end
pub noted_more : (m : Motion) (g h : Given) → next_given g ≡ Some h
    → Some (record { motion = m; readings = readings_of m g ++ seen_of m.from m.to g ∷ [] }) ≡ noted_of m h
noted_more m (none n) h e = let x : one n ≡ h = same_given (one n) h e in ap (noted_of m) x
noted_more m (one n) h e = let x : more 0 n ≡ h = same_given (more 0 n) h e in ap (noted_of m) x
noted_more m (more n zero) h e = cc e
noted_more m (more n (suc k)) h e =
    let x : more (suc n) k ≡ h = same_given (more (suc n) k) h e in
    ap (λ (L : List Seen). Some (record { motion = m; readings = L })) (blanks_more m (suc n)) ∙ ap (noted_of m) x

-- the motion's limits let it be as long as before
pub fair_more : (m : Motion) (g h : Given) → next_given g ≡ Some h → IsFair m (further_of g) → IsFair m (further_of h)
fair_more m g h e t = subst (λ (n : ℕ). IsFair m n) (further_more g h e) t

-- the watch says nothing of it, or that it came
pub more_pending : (m : Motion) (g h : Given) → next_given g ≡ Some h → IsFair m (further_of g)
    → axis_verdict (noted_of m h) ≡ Pending
more_pending m (none n) h e t =
    let x : one n ≡ h = same_given (one n) h e in
    subst (λ (y : Given). axis_verdict (noted_of m y) ≡ Pending) x (first_pending m n t)
more_pending m (one n) h e t =
    let x : more 0 n ≡ h = same_given (more 0 n) h e in
    subst (λ (y : Given). axis_verdict (noted_of m y) ≡ Pending) x (blanks_pending m n 1 t (omega arith))
more_pending m (more n zero) h e t = cc e
more_pending m (more n (suc k)) h e t =
    let x : more (suc n) k ≡ h = same_given (more (suc n) k) h e in
    subst (λ (y : Given). axis_verdict (noted_of m y) ≡ Pending) x
    (blanks_pending m (n + suc k) (suc (suc n)) t (omega arith))

pub more_arrived : (m : Motion) (g : Given) → next_given g ≡ None → IsFair m (further_of g)
    → verdict m (readings_of m g ++ seen_of m.from m.to g ∷ []) ≡ HasArrived
more_arrived m (none n) e t = cc e
more_arrived m (one n) e t = cc e
more_arrived m (more n zero) e t = blanks_arrived m (n + 0) (suc n) t (omega arith)
more_arrived m (more n (suc k)) e t = cc e
