-- What a machine shows that is tied agrees with the book
use Rattle.cell_world.proofs.Steps.{made, went_left}
use Rattle.std.proofs.Common.{◌≡◌, ℕ, true, false, inl, inr, Option, Some, None, List, length, refl, sym, ap}
use Rattle.std.proofs.Common.{◌∙◌, subst, is_some, zero, suc, ◌+◌}
use Rattle.cell_types.specs.declared.words.Axis.{Axis}
use Rattle.cell_types.specs.declared.words.Axis.TheVariants as axis
use Rattle.cell_types.specs.declared.words.Machine.{Machine}
use Rattle.cell_types.specs.declared.words.Pose.{Pose}
use Rattle.cell_types.specs.declared.words.Pose.TheVariants as pose
use Rattle.cell_types.specs.declared.words.Command.{Command}
use Rattle.cell_types.specs.declared.words.Command.TheVariants.{On}
use Rattle.cell_types.specs.declared.words.Entry.{Entry}
use Rattle.cell_types.specs.declared.words.Station.{Station}
use Rattle.cell_types.specs.declared.words.Station.TheVariants as station
use Rattle.cell_types.specs.Cell.{machine_of_axis}
use Rattle.cell_types.specs.Same.{same_pose}
use Rattle.cell_rules.specs.Views.{at_of, going_of}
use Rattle.cell_diagnosis.specs.declared.reading.Reading.{Reading}
use Rattle.cell_diagnosis.specs.RestFacts.{agrees, noted}
use Rattle.cell_ports.specs.declared.plan.Plan.{Plan}
use Rattle.cell_turns.specs.Expected.{expected_of}
use Rattle.cell_turns.specs.Following.{Following}
use Rattle.cell_turns.specs.Observed.{axis_noted}
use Rattle.cell_sim.specs.declared.axis.AxisInWorld.{AxisInWorld}
use Rattle.cell_sim.specs.declared.motion.Moving.{Moving}
use Rattle.cell_sim.specs.declared.motion.Path.TheVariants.{Poses}
use Rattle.cell_sim.specs.declared.motion.Phase.TheVariants.{Arrived}
use Rattle.cell_sim.specs.declared.watch.SafetyRule.{SafetyRule}
use Rattle.cell_sim.specs.declared.watch.SafetyRule.TheVariants as rule
use Rattle.cell_sim.specs.declared.world.Plate.{Plate}
use Rattle.cell_sim.specs.Looks.{is_belt}
use Rattle.cell_sim.specs.Moves.{switch_bit}
use Rattle.cell_sim.specs.Parts.{axis_at, broke, counted, plate_at, plate_here, with_motion, with_plate}
use Rattle.cell_sim.specs.Parts.{with_pose}
use Rattle.cell_sim.specs.Readings.{after_reading, by_the_hands, forged_plate, forged_there, forges}
use Rattle.cell_sim.specs.Readings.{is_reading_missing}
use Rattle.cell_sim.specs.Readings.{read_on, shown, shown_now, shown_on, switches_by, switches_of}
use Rattle.cell_sim.specs.Simulated.{Simulated}
use Rattle.cell_world.specs.Tied.{Given, none, one, more, RestsBy, motion_along, only}
use Rattle.cell_world.specs.Going.{IsAtRest}
use Rattle.cell_world.specs.Agreeing.{ShowsBooked, bits_at, has_belt}
use Rattle.cell_world.specs.Tie.{IsTied, ReadingAgrees, ReadingLeaves, WentOn}
use Rattle.cell_world.proofs.Agreeing.{booked_agrees}
use Rattle.cell_world.proofs.Any.{after_any, bits_only, none_silent, others_of}
use Rattle.cell_world.proofs.Plates.{each_station, here_before, here_now, number_of}
use Rattle.cell_world.proofs.Machines.{hands_off, machine_goes, no_belt, rest_after, silent_no}
use Rattle.cell_world.proofs.Steps.{each_axis, either, unless, went}

-- an axis that rests shows its pose alone
switches_still : (a : Axis) (p : Pose) (x : AxisInWorld) (o : Option Moving) → is_belt a ≡ false → x.pose ≡ p
    → RestsBy p o → switches_by a x o ≡ switch_bit p
switches_still a p x None s h r = unless (is_belt a) _ (switch_bit x.pose) s ∙ ap switch_bit h
switches_still a p x (Some m) s h r =
    ap (λ (y : Moving). switches_by a x (Some y)) r.2

shows_alone : (J : List Entry) (w : Simulated) (a : Axis) → is_belt a ≡ false → IsAtRest J w a
    → bits_at a (switches_of w a) ≡ only (at_of J a)
shows_alone J w a s t =
    let x = axis_at w a in
    ap (λ (n : ℕ). bits_at a n) (switches_still a (at_of J a) x x.motion s t.rests.pose t.rests.motion)
    ∙ bits_only a (at_of J a) s t.own_pose

going_not : (o : Option Pose) (to : Pose) → o ≡ Some to → o ≡ None → ⊥
going_not None to h k = cc h
going_not (Some q) to h k = cc k

abbrev Shown : List Entry → Simulated → Axis → Type 0
Shown J w a = going_of J a ≡ None → bits_at a (switches_of w a) ≡ only (at_of J a)

went_shows : (J : List Entry) (p : Plan) (m : Machine) (f : Option Following) (w : Simulated) → has_belt m ≡ false
    → WentOn J p m f w → (a : Axis) → machine_of_axis a ≡ m → Shown J w a
went_shows J p m f w b (inl (v, inl t)) a e n = shows_alone J w a (no_belt a m e b) (t.rest a e)
went_shows J p m f w b (inl (v, inr t)) a e n =
    each_axis (Shown J w) t.mover a (λ g. absurd (going_not (going_of J t.mover) t.to t.goes.booked g))
    (λ d g. shows_alone J w a (no_belt a m e b) (t.goes.others a (e ∙ sym t.of) d)) n
went_shows J p m f w b (inr t) a e n =
    each_axis (Shown J w) t.mover a (λ g. absurd (going_not (going_of J t.mover) t.to t.came.booked g))
    (λ d g. shows_alone J w a (no_belt a m e b) (t.came.others a (e ∙ sym t.of) d)) n

-- a forged plate is the same plate
put_forged : (s t : Station) (q : Plate) (w : Simulated) → length w.plates ≡ 9 → plate_here w s ≡ Some q
    → plate_at (with_plate s (Some (forged_plate q)) w) t ≡ plate_at w t
put_forged s t q w n h =
    each_station (λ (x : Station). plate_at (with_plate s (Some (forged_plate q)) w) x ≡ plate_at w x) s t
    (ap number_of (here_now s (Some (forged_plate q)) w n) ∙ sym (ap number_of h))
    (λ d. ap number_of (here_before s t (Some (forged_plate q)) w d))

there_plates : (a : Axis) (s t : Station) (o : Option Plate) (w : Simulated) → length w.plates ≡ 9
    → plate_here w s ≡ o → plate_at (forged_there a s o w) t ≡ plate_at w t
unfolding broke
there_plates a s t None w n h = refl
there_plates a s t (Some q) w n h =
    either (λ (v : Simulated). plate_at v t) q.is_forged (broke rule.ForgedTwice (Some (On a pose.Top)) w)
    (record (with_plate s (Some (forged_plate q)) w) { forged = counted w.forged }) (plate_at w t) refl
    (put_forged s t q w n h)

pub forges_plates : (a : Axis) (t : Station) (w : Simulated) → length w.plates ≡ 9
    → plate_at (forges a w) t ≡ plate_at w t
unfolding forges
forges_plates axis.PressOne t w n =
    there_plates axis.PressOne station.Press1 t (plate_here w station.Press1) w n refl
forges_plates axis.PressTwo t w n =
    there_plates axis.PressTwo station.Press2 t (plate_here w station.Press2) w n refl
forges_plates a t w n = refl

went_plates : (a : Axis) (at to : Pose) (g : Given) (t : Station) (w : Simulated) → length w.plates ≡ 9
    → plate_at (went a at to g w) t ≡ plate_at w t
went_plates a at to (none i) t w n = refl
went_plates a at to (one i) t w n = refl
went_plates a at to (more i (suc k)) t w n = refl
went_plates a at to (more i zero) t w n =
    let v = with_pose a to (with_motion a (Some (motion_along (Poses at to) (i + 0) Arrived)) w) in
    either (λ (x : Simulated). plate_at x t) (same_pose to pose.Top) (forges a v) v (plate_at w t)
    (forges_plates a t v n) refl

pub leaves_plates : ReadingLeaves
leaves_plates J p m f w b (inl t) s = ap (λ (v : Simulated). plate_at v s) (rest_after J m w b t.rest)
leaves_plates J p m f w b (inr t) s =
    let a = t.mover in let at = at_of J a in
    subst (λ (x : Machine). plate_at (after_reading w x) s ≡ plate_at w s) t.of
    (ap (λ (v : Simulated). plate_at v s)
    (after_any J a at t.to t.given w t.goes.plain.unwatched (no_belt a m t.of b) (others_of J a w t.goes.others)
    t.goes.goes.motion)
    ∙ went_plates a at t.to t.given s w t.goes.plain.stations)

-- and counts no collision
pub broke_counts : (r : SafetyRule) (c : Option Command) (w : Simulated) → (broke r c w).collisions ≡ w.collisions
unfolding broke
broke_counts r c w = refl

made_counts : (a : Axis) (at to : Pose) (g : Given) (w : Simulated) → (made a at to g w).collisions ≡ w.collisions
unfolding made
made_counts a at to (none n) w = refl
made_counts a at to (one n) w = refl
made_counts a at to (more n zero) w = refl
made_counts a at to (more n (suc k)) w = refl

went_counts : (a : Axis) (at to : Pose) (g : Given) (w : Simulated) → (went a at to g w).collisions ≡ w.collisions
went_counts a at to g w =
    went_left (λ (v : Simulated). v.collisions) (record { broken = broke_counts; plates = λ s o n v. refl }) a at to g w
    ∙ made_counts a at to g w

pub leaves_collisions : (J : List Entry) (p : Plan) (m : Machine) (f : Option Following) (w : Simulated)
    → has_belt m ≡ false → IsTied J p m f w → (after_reading w m).collisions ≡ w.collisions
leaves_collisions J p m f w b (inl t) = ap (λ (v : Simulated). v.collisions) (rest_after J m w b t.rest)
leaves_collisions J p m f w b (inr t) =
    let a = t.mover in let at = at_of J a in
    subst (λ (x : Machine). (after_reading w x).collisions ≡ w.collisions) t.of
    (ap (λ (v : Simulated). v.collisions)
    (after_any J a at t.to t.given w t.goes.plain.unwatched (no_belt a m t.of b) (others_of J a w t.goes.others)
    t.goes.goes.motion)
    ∙ went_counts a at t.to t.given w)

-- no reading of it is missing
read_not_missing : (J : List Entry) (p : Plan) (m : Machine) (f : Option Following) (w : Simulated)
    → has_belt m ≡ false → IsTied J p m f w → is_reading_missing w m ≡ false
read_not_missing J p m f w b (inl t) = silent_no J m w b t.rest
read_not_missing J p m f w b (inr t) =
    let a = t.mover in
    subst (λ (x : Machine). is_reading_missing w x ≡ false) t.of
    (none_silent J a (at_of J a) t.to t.given w (no_belt a m t.of b) (others_of J a w t.goes.others)
    t.goes.goes.motion)

shows_after : (m : Machine) (w : Simulated) → is_reading_missing (by_the_hands w m) m ≡ false
    → shown w m ≡ Some (shown_now (after_reading w m) m)
unfolding shown shown_on after_reading
shows_after m w h =
    unless (is_reading_missing (by_the_hands w m) m) None (Some (shown_now (read_on m (by_the_hands w m)) m)) h

pub reading_agrees : ReadingAgrees
reading_agrees J p m f w u b t k =
    let v = after_reading w m in
    let read = ap (λ (y : Simulated). is_reading_missing y m) (hands_off m w b) ∙ read_not_missing J p m f w b t in
    let now = machine_goes J p m f w b t in
    let booked : ShowsBooked J m v = record {
      axes = λ a e n. went_shows J p m (axis_noted J m p f (shown w m)) v b now a e n;
      plates = λ s e. ap (λ (o : Option ℕ). is_some o) (leaves_plates J p m f w b t s ∙ k s e);
    } in
    subst (λ (r : Option Reading). agrees (noted m (expected_of J m u) r) ≡ true) (sym (shows_after m w read))
    (booked_agrees J m u v b booked)
