-- What a grip and a drop do
use Rattle.cell_rules.specs.declared.limits.BookLimits.{BookLimits}
use Rattle.cell_rules.specs.Legal.{first_of}
use Rattle.std.proofs.Common.{◌≡◌, ℕ, Bool, true, false, Option, Some, None, List, []}
use Rattle.std.proofs.Common.{is_some, is_none, refl, sym, ap, ◌∙◌, subst, length-set}
use Rattle.std.proofs.Common.{if◌then◌else◌}
use Rattle.cell_types.specs.declared.words.Arm.{Arm}
use Rattle.cell_types.specs.declared.words.Arm.TheVariants as arm
use Rattle.cell_types.specs.declared.words.Axis.{Axis}
use Rattle.cell_types.specs.declared.words.Axis.TheVariants as axis
use Rattle.cell_types.specs.declared.words.Pose.{Pose}
use Rattle.cell_types.specs.declared.words.Pose.TheVariants as pose
use Rattle.cell_types.specs.declared.words.Station.{Station}
use Rattle.cell_types.specs.declared.words.AxisState.{AxisState}
use Rattle.cell_types.specs.declared.words.Command.TheVariants.{MagnetOn, MagnetOff}
use Rattle.cell_types.specs.declared.words.Entry.{Entry}
use Rattle.cell_types.specs.declared.words.Entry.TheVariants.{Gripped, Dropped}
use Rattle.cell_types.specs.After.{after}
use Rattle.cell_types.specs.Cell.{Faced, axis_of_arm, drops_at, faced, grips_at, station_of_arm}
use Rattle.cell_types.specs.Cell.{machine_of_station}
use Rattle.cell_types.specs.Same.{same_pose}
use Rattle.cell_rules.specs.declared.refusal.Refusal.{Refusal}
use Rattle.cell_rules.specs.First.{handing_tests, is_faced, neighbour_tests}
use Rattle.cell_rules.specs.Legal.{allowed}
use Rattle.cell_rules.specs.SituationIn.{situation_in}
use Rattle.cell_rules.specs.Views.{at_of, plate_of}
use Rattle.cell_rules.specs.Views.{is_failed}
use Rattle.cell_rules.proofs.Safe.Bridge.{Good, good_passed, good_step, good_when_legal}
use Rattle.cell_rules.proofs.Safe.Facts.{Passed, free, no_other, not_false, occupied, resting}
use Rattle.cell_rules.proofs.Safe.Facts.{station_same}
use Rattle.cell_sim.specs.Commands.{after_command, faced_station, fails, gripped, gripped_from, laid_at, laid_down}
use Rattle.cell_sim.specs.Commands.{station_before}
use Rattle.cell_sim.specs.Looks.{looked}
use Rattle.cell_sim.specs.Parts.{axis_at, has_plate, plate_at, plate_moved}
use Rattle.cell_sim.specs.Simulated.{Simulated}
use Rattle.cell_world.proofs.Plates.{handed, moved, told_left, Left}
use Rattle.cell_world.specs.Going.{IsPlain}
use Rattle.cell_world.specs.Starting.{after_entry, one_more, RobotStands}
use Rattle.cell_world.specs.Handing.{Drops, Grips, HasBooked, IsHanded, MovesPlate}
use Rattle.cell_world.proofs.Steps.{unless, unlooked}
use Rattle.cell_types.specs.declared.words.Machine.TheVariants as machine
use Rattle.cell_types.specs.Cell.{machine_of_axis}
use Rattle.cell_rules.specs.Views.{going_of}
use Rattle.cell_world.proofs.Begins.{rest_where_out}

-- what the book's tests say of a grip and of a drop
neighbours : (b : Bool) (ts : List (Bool × Refusal)) → Passed (neighbour_tests b ts) → Passed ts
neighbours true ts h = h
neighbours false ts h = let c = h.0 in cc c

pub record Handing (J : List Entry) (x : Arm) (at from to : Station) (k : ℕ) : Type 0 where
  pub out : at_of J (axis_of_arm x) ≡ pose.Out
  pub facing : faced_station (faced x (at_of J axis.RobotTurn)) ≡ Some at
  pub there : Left J from ≡ Some k
  pub free : Left J to ≡ None

facing_station : (s : Station) (b : Bool) (o : Option Faced) → is_faced s (if b then None else o) ≡ true
    → faced_station o ≡ Some s
facing_station s true o h = cc h
facing_station s false None h = cc h
facing_station s false (Some f) h = ap (λ (x : Station). Some x) (station_same f.station s h)

handing : (J : List Entry) (x : Arm) (at from to : Station) (k : ℕ) → Good J
    → Passed (handing_tests (situation_in (after J)) x at from to k) → Handing J x at from to k
handing J x at from to k g h =
    let s = after J in let a = axis_of_arm x in
    let turn = is_some (s.going axis.RobotTurn) in
    let o = faced x (s.at axis.RobotTurn) in
    let full = occupied s from h.1.1.1.0 in
    record {
      out = g.agrees.at a ∙ ap (λ (y : AxisState). y.at) (resting s a pose.Out h.1.1.0);
      facing = ap (λ (q : Pose). faced_station (faced x q)) (g.agrees.at axis.RobotTurn)
          ∙ facing_station at turn o (not_false (is_faced at (if turn then None else o)) h.1.0);
      there = no_other s from full.0 k full.1 h.1.1.1.1.1.0;
      free = free s to h.1.1.1.1.0;
    }

arm_stands : (J : List Entry) (w : Simulated) (x : Arm) → RobotStands J w
    → (axis_at w (axis_of_arm x)).pose ≡ at_of J (axis_of_arm x)
arm_stands J w arm.Arm1 r = r axis.ArmOne refl
arm_stands J w arm.Arm2 r = r axis.ArmTwo refl

neighbour : (b : Bool) (ts : List (Bool × Refusal)) → Passed (neighbour_tests b ts) → b ≡ true
neighbour true ts h = refl
neighbour false ts h = let c : true ≡ false = h.0 in sym c

pub grips_there : (l : BookLimits) (J : List Entry) (x : Arm) (k : ℕ) (s : Station) → Good J
    → first_of l J (Gripped x k s) ≡ None → grips_at x s ≡ true
grips_there l J x k s g h =
    let ok : allowed l J (Gripped x k s) ≡ true = ap (λ (o : Option Refusal). is_none o) h in
    neighbour (grips_at x s) (handing_tests (situation_in (after J)) x s s (station_of_arm x) k)
    (good_passed l J (Gripped x k s) g ok).1.1

pub drops_there : (l : BookLimits) (J : List Entry) (x : Arm) (k : ℕ) (s : Station) → Good J
    → first_of l J (Dropped x k s) ≡ None → drops_at x s ≡ true
drops_there l J x k s g h =
    let ok : allowed l J (Dropped x k s) ≡ true = ap (λ (o : Option Refusal). is_none o) h in
    neighbour (drops_at x s) (handing_tests (situation_in (after J)) x s (station_of_arm x) s k)
    (good_passed l J (Dropped x k s) g ok).1.1

-- the machine at which it does so is healthy
pub grips_healthy : (l : BookLimits) (J : List Entry) (x : Arm) (k : ℕ) (s : Station) → Good J
    → first_of l J (Gripped x k s) ≡ None → is_failed J (machine_of_station s) ≡ false
grips_healthy l J x k s g h =
    let ok : allowed l J (Gripped x k s) ≡ true = ap (λ (o : Option Refusal). is_none o) h in
    g.agrees.failed (machine_of_station s)
    ∙ (neighbours (grips_at x s) (handing_tests (situation_in (after J)) x s s (station_of_arm x) k)
    (good_passed l J (Gripped x k s) g ok).1.1).0

pub drops_healthy : (l : BookLimits) (J : List Entry) (x : Arm) (k : ℕ) (s : Station) → Good J
    → first_of l J (Dropped x k s) ≡ None → is_failed J (machine_of_station s) ≡ false
drops_healthy l J x k s g h =
    let ok : allowed l J (Dropped x k s) ≡ true = ap (λ (o : Option Refusal). is_none o) h in
    g.agrees.failed (machine_of_station s)
    ∙ (neighbours (drops_at x s) (handing_tests (situation_in (after J)) x s (station_of_arm x) s k)
    (good_passed l J (Dropped x k s) g ok).1.1).0

-- so the station is before the arm in the world
before_there : (J : List Entry) (w : Simulated) (x : Arm) (at from to : Station) (k : ℕ) → RobotStands J w
    → Handing J x at from to k → station_before w x ≡ Some at
before_there J w x at from to k r h =
    let a = axis_of_arm x in
    let out = arm_stands J w x r ∙ h.out in
    ap (λ (q : Pose). if same_pose q pose.Out then faced_station (faced x (axis_at w axis.RobotTurn).pose)
    else None) out
    ∙ (ap (λ (q : Pose). faced_station (faced x q)) (r axis.RobotTurn refl) ∙ h.facing)

no_plate : (J : List Entry) (w : Simulated) (s : Station) → Good J → HasBooked J w s → Left J s ≡ None
    → has_plate w s ≡ false
no_plate J w s g b n = ap (λ (o : Option ℕ). is_some o) (b ∙ (told_left J s g ∙ n))

moved_so : (from to : Station) (w : Simulated) → has_plate w to ≡ false → plate_moved from to w ≡ moved from to w
unfolding moved
moved_so from to w h = unless (has_plate w to) w _ h

gripped_so : (w : Simulated) (x : Arm) (s : Station) → station_before w x ≡ Some s
    → gripped x w ≡ plate_moved s (station_of_arm x) w
unfolding gripped
gripped_so w x s h = ap (λ (o : Option Station). gripped_from x o w) h

laid_so : (w : Simulated) (x : Arm) (s : Station) → station_before w x ≡ Some s → has_plate w s ≡ false
    → laid_down x w ≡ plate_moved (station_of_arm x) s w
unfolding laid_down
laid_so w x s h n =
    ap (λ (o : Option Station). laid_at x o w) h ∙ unless (has_plate w s) _ (plate_moved (station_of_arm x) s w) n

on_grips : (w : Simulated) (x : Arm) (v : Simulated) → gripped x w ≡ v → v.watch.is_on ≡ false
    → after_command [] w (MagnetOn x) ≡ v
unfolding after_command fails
on_grips w x v h u = ap (λ (y : Simulated). looked (Some (MagnetOn x)) y) h ∙ unlooked (Some (MagnetOn x)) v u

off_drops : (w : Simulated) (x : Arm) (v : Simulated) → laid_down x w ≡ v → v.watch.is_on ≡ false
    → after_command [] w (MagnetOff x) ≡ v
unfolding after_command fails
off_drops w x v h u = ap (λ (y : Simulated). looked (Some (MagnetOff x)) y) h ∙ unlooked (Some (MagnetOff x)) v u

moved_plain : (from to : Station) (w : Simulated) → IsPlain w → IsPlain (moved from to w)
unfolding moved
moved_plain from to w t =
    record {
      unwatched = t.unwatched;
      axes = t.axes;
      stations = length-set _ _ _ ∙ (length-set _ _ _ ∙ t.stations);
    }

moved_axes : (from to : Station) (w : Simulated) (a : Axis) → axis_at (moved from to w) a ≡ axis_at w a
unfolding moved
moved_axes from to w a = refl

-- and all axes of the robot rest
pub grips_still : (l : BookLimits) (J : List Entry) (x : Arm) (k : ℕ) (s : Station) → Good J
    → first_of l J (Gripped x k s) ≡ None → (b : Axis) → machine_of_axis b ≡ machine.Robot → going_of J b ≡ None
grips_still l J x k s g h b e =
    let ok : allowed l J (Gripped x k s) ≡ true = ap (λ (o : Option Refusal). is_none o) h in
    let tests = neighbours (grips_at x s) (handing_tests (situation_in (after J)) x s s (station_of_arm x) k)
    (good_passed l J (Gripped x k s) g ok).1.1 in
    rest_where_out J x g tests.1.1.0 b e

pub drops_still : (l : BookLimits) (J : List Entry) (x : Arm) (k : ℕ) (s : Station) → Good J
    → first_of l J (Dropped x k s) ≡ None → (b : Axis) → machine_of_axis b ≡ machine.Robot → going_of J b ≡ None
drops_still l J x k s g h b e =
    let ok : allowed l J (Dropped x k s) ≡ true = ap (λ (o : Option Refusal). is_none o) h in
    let tests = neighbours (drops_at x s) (handing_tests (situation_in (after J)) x s (station_of_arm x) s k)
    (good_passed l J (Dropped x k s) g ok).1.1 in
    rest_where_out J x g tests.1.1.0 b e

moved_counts : (from to : Station) (w : Simulated) → (moved from to w).collisions ≡ w.collisions
unfolding moved
moved_counts from to w = refl

moved_rest : (J : List Entry) (w : Simulated) (e : Entry) (from to : Station)
    → IsPlain w → ((s : Station) → HasBooked J w s → plate_at (moved from to w) s ≡ plate_of (one_more J e) s)
    → after_entry w e ≡ moved from to w → MovesPlate J w e
moved_rest J w e from to t b h =
    record {
      plain = subst (λ (v : Simulated). IsPlain v) (sym h) (moved_plain from to w t);
      axes = λ a. ap (λ (v : Simulated). axis_at v a) h ∙ moved_axes from to w a;
      plates = λ s x. ap (λ (v : Simulated). plate_at v s) h ∙ b s x;
      collisions = ap (λ (v : Simulated). v.collisions) h ∙ moved_counts from to w;
    }

pub grip_hands : (l : BookLimits) (J : List Entry) (w : Simulated) (x : Arm) (k : ℕ) (s : Station)
    → IsHanded l J w x s (Gripped x k s) → Handing J x s s (station_of_arm x) k
grip_hands l J w x k s h =
    let e = Gripped x k s in let g = good_when_legal l J h.legal in
    let ok : allowed l J e ≡ true = ap (λ (o : Option Refusal). is_none o) h.allowed in
    handing J x s s (station_of_arm x) k g
    (neighbours (grips_at x s) (handing_tests (situation_in (after J)) x s s (station_of_arm x) k)
    (good_passed l J e g ok).1.1)

pub grip_moves : (l : BookLimits) (J : List Entry) (w : Simulated) (x : Arm) (k : ℕ) (s : Station)
    → IsHanded l J w x s (Gripped x k s) → after_entry w (Gripped x k s) ≡ moved s (station_of_arm x) w
grip_moves l J w x k s h =
    let to = station_of_arm x in let n = grip_hands l J w x k s h in
    let so = moved_so s to w (no_plate J w to (good_when_legal l J h.legal) h.arm n.free) in
    on_grips w x (moved s to w) (gripped_so w x s (before_there J w x s s to k h.stands n) ∙ so)
    (moved_plain s to w h.plain).unwatched

pub grips : Grips
grips l J w x k s h =
    let e = Gripped x k s in let to = station_of_arm x in
    let g = good_when_legal l J h.legal in
    let ok : allowed l J e ≡ true = ap (λ (o : Option Refusal). is_none o) h.allowed in
    let n = grip_hands l J w x k s h in
    moved_rest J w e s to h.plain
    (λ t. handed J w e k s to t g (good_step l J e g ok) h.plain refl n.there n.free h.there)
    (grip_moves l J w x k s h)

pub drop_hands : (l : BookLimits) (J : List Entry) (w : Simulated) (x : Arm) (k : ℕ) (s : Station)
    → IsHanded l J w x s (Dropped x k s) → Handing J x s (station_of_arm x) s k
drop_hands l J w x k s h =
    let e = Dropped x k s in let g = good_when_legal l J h.legal in
    let ok : allowed l J e ≡ true = ap (λ (o : Option Refusal). is_none o) h.allowed in
    handing J x s (station_of_arm x) s k g
    (neighbours (drops_at x s) (handing_tests (situation_in (after J)) x s (station_of_arm x) s k)
    (good_passed l J e g ok).1.1)

pub drop_moves : (l : BookLimits) (J : List Entry) (w : Simulated) (x : Arm) (k : ℕ) (s : Station)
    → IsHanded l J w x s (Dropped x k s) → after_entry w (Dropped x k s) ≡ moved (station_of_arm x) s w
drop_moves l J w x k s h =
    let from = station_of_arm x in let n = drop_hands l J w x k s h in
    let no = no_plate J w s (good_when_legal l J h.legal) h.there n.free in
    off_drops w x (moved from s w)
    (laid_so w x s (before_there J w x s from s k h.stands n) no ∙ moved_so from s w no)
    (moved_plain from s w h.plain).unwatched

pub drops : Drops
drops l J w x k s h =
    let e = Dropped x k s in let from = station_of_arm x in
    let g = good_when_legal l J h.legal in
    let ok : allowed l J e ≡ true = ap (λ (o : Option Refusal). is_none o) h.allowed in
    let n = drop_hands l J w x k s h in
    moved_rest J w e from s h.plain
    (λ t. handed J w e k from s t g (good_step l J e g ok) h.plain refl n.there n.free h.arm)
    (drop_moves l J w x k s h)
