-- What a machine with switches leaves of the belts' ends, of the lights and of the counts of plates laid in
use Rattle.std.proofs.Common.{◌≡◌, ◌≢◌, ℕ, true, false, inl, inr, Option, Some, None, List, is_some, refl, sym}
use Rattle.std.proofs.Common.{ap, ◌∙◌, subst, zero, suc, ◌+◌}
use Rattle.cell_types.specs.declared.words.Arm.{Arm}
use Rattle.cell_types.specs.declared.words.Arm.TheVariants as arm
use Rattle.cell_types.specs.declared.words.Axis.{Axis}
use Rattle.cell_types.specs.declared.words.Axis.TheVariants as axis
use Rattle.cell_types.specs.declared.words.Command.{Command}
use Rattle.cell_types.specs.declared.words.Command.TheVariants.{On}
use Rattle.cell_types.specs.declared.words.Entry.{Entry}
use Rattle.cell_types.specs.declared.words.Entry.TheVariants.{Started, Gripped, Dropped}
use Rattle.cell_types.specs.declared.words.Machine.{Machine}
use Rattle.cell_types.specs.declared.words.Pose.{Pose}
use Rattle.cell_types.specs.declared.words.Pose.TheVariants as pose
use Rattle.cell_types.specs.declared.words.Station.{Station}
use Rattle.cell_types.specs.declared.words.Station.TheVariants as station
use Rattle.cell_types.specs.Cell.{drops_at, grips_at, station_of_arm}
use Rattle.cell_types.specs.Same.{same_pose, station_number}
use Rattle.cell_rules.specs.declared.limits.BookLimits.{BookLimits}
use Rattle.cell_rules.specs.Views.{at_of, plate_of}
use Rattle.cell_rules.proofs.Safe.Bridge.{Good}
use Rattle.cell_rules.proofs.Safe.Facts.{station_same}
use Rattle.cell_ports.specs.declared.plan.Plan.{Plan}
use Rattle.cell_turns.specs.Following.{Following}
use Rattle.cell_sim.specs.declared.axis.AxisInWorld.{AxisInWorld}
use Rattle.cell_sim.specs.declared.motion.Path.{Path}
use Rattle.cell_sim.specs.declared.motion.Path.TheVariants.{Poses}
use Rattle.cell_sim.specs.declared.motion.Phase.TheVariants.{Arrived}
use Rattle.cell_sim.specs.declared.watch.SafetyRule.{SafetyRule}
use Rattle.cell_sim.specs.declared.watch.SafetyRule.TheVariants as rule
use Rattle.cell_sim.specs.declared.world.Plate.{Plate}
use Rattle.cell_sim.specs.Commands.{path_of, set_out, told}
use Rattle.cell_sim.specs.Parts.{broke, collided, counted, plate_here, with_axis, with_motion, with_plate}
use Rattle.cell_sim.specs.Parts.{with_pose}
use Rattle.cell_sim.specs.Readings.{after_reading, forged_plate, forged_there, forges}
use Rattle.cell_sim.specs.Simulated.{Simulated}
use Rattle.cell_world.specs.Agreeing.{has_belt}
use Rattle.cell_world.specs.Going.{IsPlain}
use Rattle.cell_world.specs.Handing.{IsHanded}
use Rattle.cell_world.specs.Starting.{after_entry}
use Rattle.cell_world.specs.Tie.{IsTied}
use Rattle.cell_world.specs.Tied.{Given, none, one, more, motion_along}
use Rattle.cell_world.proofs.Any.{after_any, others_of}
use Rattle.cell_world.proofs.Hands.{drop_hands, drop_moves, drops_there, grip_hands, grip_moves, grips_there}
use Rattle.cell_world.proofs.Laying.{laying_of}
use Rattle.cell_world.proofs.Machines.{no_belt, rest_after}
use Rattle.cell_world.proofs.Plates.{here_before, moved, same_number, some_none, told_left}
use Rattle.cell_world.proofs.Starts.{on_does, ready, ready_part}
use Rattle.cell_world.proofs.Steps.{either, made, went, went_left}

-- no arm takes a plate from a station, or brings it one
abbrev pub CannotHand : List Entry → Station → Type 0
CannotHand J station.FeedIn = Unit {0}
CannotHand J station.FeedEnd = Unit {0}
CannotHand J station.DepEnd = Unit {0}
CannotHand J station.Table = plate_of J station.Table ≡ None
CannotHand J station.DepIn = is_some (plate_of J station.DepIn) ≡ true
CannotHand J _ = ⊥

pub record SparesEnds (J : List Entry) (w v : Simulated) : Type 0 where
  pub part : laying_of v ≡ laying_of w
  pub light : v.deposit_light ≡ w.deposit_light
  pub here : (t : Station) → CannotHand J t → plate_here v t ≡ plate_here w t

pub spares_same : (J : List Entry) (w v : Simulated) → v ≡ w → SparesEnds J w v
spares_same J w v h =
    record {
      part = ap laying_of h;
      light = ap (λ (x : Simulated). x.deposit_light) h;
      here = λ t c. ap (λ (x : Simulated). plate_here x t) h;
    }

pub spares_then : (J : List Entry) (w v u : Simulated) → SparesEnds J w v → SparesEnds J v u → SparesEnds J w u
spares_then J w v u s t =
    record {
      part = t.part ∙ s.part;
      light = t.light ∙ s.light;
      here = λ x c. t.here x c ∙ s.here x c;
    }

-- ITS READING

pub broke_part : (r : SafetyRule) (c : Option Command) (w : Simulated) → laying_of (broke r c w) ≡ laying_of w
unfolding broke
broke_part r c w = refl

pub broke_light : (r : SafetyRule) (c : Option Command) (w : Simulated) → (broke r c w).deposit_light ≡ w.deposit_light
unfolding broke
broke_light r c w = refl

made_part : (a : Axis) (at to : Pose) (g : Given) (w : Simulated) → laying_of (made a at to g w) ≡ laying_of w
unfolding made
made_part a at to (none n) w = refl
made_part a at to (one n) w = refl
made_part a at to (more n zero) w = refl
made_part a at to (more n (suc k)) w = refl

made_light : (a : Axis) (at to : Pose) (g : Given) (w : Simulated)
    → (made a at to g w).deposit_light ≡ w.deposit_light
unfolding made
made_light a at to (none n) w = refl
made_light a at to (one n) w = refl
made_light a at to (more n zero) w = refl
made_light a at to (more n (suc k)) w = refl

there_here : (a : Axis) (s t : Station) (o : Option Plate) (w : Simulated) → station_number t ≢ station_number s
    → plate_here (forged_there a s o w) t ≡ plate_here w t
unfolding broke
there_here a s t None w d = refl
there_here a s t (Some q) w d =
    either (λ (v : Simulated). plate_here v t) q.is_forged (broke rule.ForgedTwice (Some (On a pose.Top)) w)
    (record (with_plate s (Some (forged_plate q)) w) { forged = counted w.forged }) (plate_here w t) refl
    (here_before s t (Some (forged_plate q)) w d)

pub forges_here : (a : Axis) (t : Station) (w : Simulated) → station_number t ≢ station_number station.Press1
    → station_number t ≢ station_number station.Press2 → plate_here (forges a w) t ≡ plate_here w t
unfolding forges
forges_here axis.PressOne t w d e =
    there_here axis.PressOne station.Press1 t (plate_here w station.Press1) w d
forges_here axis.PressTwo t w d e =
    there_here axis.PressTwo station.Press2 t (plate_here w station.Press2) w e
forges_here a t w d e = refl

went_here : (a : Axis) (at to : Pose) (g : Given) (t : Station) (w : Simulated)
    → station_number t ≢ station_number station.Press1 → station_number t ≢ station_number station.Press2
    → plate_here (went a at to g w) t ≡ plate_here w t
went_here a at to (none n) t w d e = refl
went_here a at to (one n) t w d e = refl
went_here a at to (more n (suc k)) t w d e = refl
went_here a at to (more n zero) t w d e =
    let v = with_pose a to (with_motion a (Some (motion_along (Poses at to) (n + 0) Arrived)) w) in
    either (λ (x : Simulated). plate_here x t) (same_pose to pose.Top) (forges a v) v (plate_here w t)
    (forges_here a t v d e) refl

pub apart_by : (t s : Station) → (t ≡ s → ⊥) → station_number t ≢ station_number s
apart_by t s h e = h (station_same t s (same_number (station_number t) (station_number s) e))

pub no_press : (J : List Entry) (t : Station) → CannotHand J t → (t ≡ station.Press1 → ⊥) × (t ≡ station.Press2 → ⊥)
no_press J t c =
    (λ e. subst (λ (x : Station). CannotHand J x) e c, λ e. subst (λ (x : Station). CannotHand J x) e c)

went_spares : (J : List Entry) (a : Axis) (at to : Pose) (g : Given) (w : Simulated)
    → SparesEnds J w (went a at to g w)
went_spares J a at to g w =
    record {
      part = went_left laying_of (record { broken = broke_part; plates = λ s o n v. refl }) a at to g w
          ∙ made_part a at to g w;
      light = went_left (λ (v : Simulated). v.deposit_light)
          (record { broken = broke_light; plates = λ s o n v. refl }) a at to g w
          ∙ made_light a at to g w;
      here = λ t c. let n = no_press J t c in
          went_here a at to g t w (apart_by t station.Press1 n.0) (apart_by t station.Press2 n.1);
    }

pub read_spares_ends : (J : List Entry) (p : Plan) (m : Machine) (f : Option Following) (w : Simulated)
    → has_belt m ≡ false → IsTied J p m f w → SparesEnds J w (after_reading w m)
read_spares_ends J p m f w b (inl t) = spares_same J w (after_reading w m) (rest_after J m w b t.rest)
read_spares_ends J p m f w b (inr t) =
    let a = t.mover in let at = at_of J a in
    subst (λ (x : Machine). SparesEnds J w (after_reading w x)) t.of
    (subst (λ (v : Simulated). SparesEnds J w v)
    (sym (after_any J a at t.to t.given w t.goes.plain.unwatched (no_belt a m t.of b) (others_of J a w t.goes.others)
    t.goes.goes.motion))
    (went_spares J a at t.to t.given w))

-- ITS ENTRIES

out_part : {X : Type 0} (part : Simulated → X) (a : Axis) (to : Pose) (o : Option Path) (w : Simulated)
    → ((b : Axis) (x : AxisInWorld) (u : Simulated) → part (with_axis b x u) ≡ part u)
    → part (set_out a to None o w) ≡ part w
unfolding set_out
out_part part a to None w h = refl
out_part part a to (Some y) w h = h a _ w

-- what no motor changes is as before when an axis is sent on
pub started_part : {X : Type 0} (part : Simulated → X) (a : Axis) (to : Pose) (w : Simulated) → IsPlain w
    → ((b : Axis) (x : AxisInWorld) (u : Simulated) → part (with_axis b x u) ≡ part u)
    → ((u : Simulated) → part (collided u) ≡ part u) → part (after_entry w (Started a to)) ≡ part w
unfolding told
started_part part a to w t h k =
    ap part (on_does a to w t)
    ∙ (out_part part a to (path_of (ready a w) a to) (ready a w) h
    ∙ (ready_part part a w (k (told a w)) ∙ h a _ w))

pub started_spares : (J : List Entry) (a : Axis) (to : Pose) (w : Simulated) → IsPlain w
    → SparesEnds J w (after_entry w (Started a to))
started_spares J a to w t =
    record {
      part = started_part laying_of a to w t (λ b x u. refl) (λ u. refl);
      light = started_part (λ (v : Simulated). v.deposit_light) a to w t (λ b x u. refl) (λ u. refl);
      here = λ s c. started_part (λ (v : Simulated). plate_here v s) a to w t (λ b x u. refl) (λ u. refl);
    }

moved_here : (from to t : Station) (w : Simulated) → station_number t ≢ station_number to
    → station_number t ≢ station_number from → plate_here (moved from to w) t ≡ plate_here w t
unfolding moved
moved_here from to t w d e =
    here_before to t (plate_here w from) (with_plate from None w) d ∙ here_before from t None w e

moved_part : (from to : Station) (w : Simulated) → (laying_of (moved from to w) ≡ laying_of w)
    × ((moved from to w).deposit_light ≡ w.deposit_light)
unfolding moved
moved_part from to w = (refl, refl)

moved_spares : (J : List Entry) (from to : Station) (w : Simulated) → (CannotHand J from → ⊥) → (CannotHand J to → ⊥)
    → SparesEnds J w (moved from to w)
moved_spares J from to w h k =
    let n = moved_part from to w in
    record {
      part = n.0;
      light = n.1;
      here = λ t c. moved_here from to t w
          (apart_by t to (λ e. k (subst (λ (x : Station). CannotHand J x) e c)))
          (apart_by t from (λ e. h (subst (λ (x : Station). CannotHand J x) e c)));
    }

arm_hands : (J : List Entry) (x : Arm) → CannotHand J (station_of_arm x) → ⊥
arm_hands J arm.Arm1 c = c
arm_hands J arm.Arm2 c = c

grip_hands_it : (J : List Entry) (x : Arm) (s : Station) (k : ℕ) → grips_at x s ≡ true → plate_of J s ≡ Some k
    → CannotHand J s → ⊥
grip_hands_it J arm.Arm1 station.Table k g h c = some_none (plate_of J station.Table) k h c
grip_hands_it J arm.Arm2 station.Press1 k g h c = c
grip_hands_it J arm.Arm2 station.Press2 k g h c = c
grip_hands_it J x s k g h c = cc g

not_some : {A : Type 0} (o : Option A) → o ≡ None → is_some o ≡ true → ⊥
not_some None h k = cc k
not_some (Some x) h k = cc h

drop_hands_it : (J : List Entry) (x : Arm) (s : Station) → drops_at x s ≡ true → plate_of J s ≡ None
    → CannotHand J s → ⊥
drop_hands_it J arm.Arm1 station.Press1 g h c = c
drop_hands_it J arm.Arm1 station.Press2 g h c = c
drop_hands_it J arm.Arm2 station.DepIn g h c = not_some (plate_of J station.DepIn) h c
drop_hands_it J x s g h c = cc g

pub gripped_spares : (l : BookLimits) (J : List Entry) (w : Simulated) (x : Arm) (k : ℕ) (s : Station) → Good J
    → IsHanded l J w x s (Gripped x k s) → SparesEnds J w (after_entry w (Gripped x k s))
gripped_spares l J w x k s g h =
    let n = grip_hands l J w x k s h in
    subst (λ (v : Simulated). SparesEnds J w v) (sym (grip_moves l J w x k s h))
    (moved_spares J s (station_of_arm x) w
    (λ c. grip_hands_it J x s k (grips_there l J x k s g h.allowed) (told_left J s g ∙ n.there) c)
    (λ c. arm_hands J x c))

pub dropped_spares : (l : BookLimits) (J : List Entry) (w : Simulated) (x : Arm) (k : ℕ) (s : Station) → Good J
    → IsHanded l J w x s (Dropped x k s) → SparesEnds J w (after_entry w (Dropped x k s))
dropped_spares l J w x k s g h =
    let n = drop_hands l J w x k s h in
    subst (λ (v : Simulated). SparesEnds J w v) (sym (drop_moves l J w x k s h))
    (moved_spares J (station_of_arm x) s w (λ c. arm_hands J x c)
    (λ c. drop_hands_it J x s (drops_there l J x k s g h.allowed) (told_left J s g ∙ n.free) c))
