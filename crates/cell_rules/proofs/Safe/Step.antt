-- The invariant of the cell, and that every allowed entry keeps it.
use Rattle.std.proofs.Common.{◌≡◌, ◌≢◌, ℕ, ◌+◌, ◌≤◌, Bool, true, false, cond, ◌==◌, ◌&&◌, [], ◌∷◌, Option, Some, None}
use Rattle.std.proofs.Common.{is_some, refl, sym, ap, ◌∙◌, eqb-true, arith, inl, inr, if◌then◌else◌}
use Rattle.cell_types.specs.declared.words.Machine.{Machine}
use Rattle.cell_types.specs.declared.words.Station.{Station}
use Rattle.cell_types.specs.declared.words.Axis.{Axis}
use Rattle.cell_types.specs.declared.words.Pose.{Pose}
use Rattle.cell_types.specs.declared.words.Zone.{Zone}
use Rattle.cell_types.specs.declared.words.Arm.{Arm}
use Rattle.cell_types.specs.declared.words.Belt.{Belt}
use Rattle.cell_types.specs.declared.words.Colour.{Colour}
use Rattle.cell_types.specs.declared.words.Place.{Place}
use Rattle.cell_types.specs.declared.words.AxisState.{AxisState}
use Rattle.cell_types.specs.declared.words.Entry.{Entry}
use Rattle.cell_types.specs.Same.{same_machine, same_station, same_axis, same_belt, same_colour}
use Rattle.cell_types.specs.Cell.{machine_of_axis, machine_of_station, is_before_press, home, axis_of_arm}
use Rattle.cell_types.specs.Cell.{station_of_arm, faced}
use Rattle.cell_rules.specs.declared.limits.BookLimits.{BookLimits}
use Rattle.cell_rules.specs.First.{is_pose, is_faced, not_holder, any_visited, any_still_there, parked_tests}
use Rattle.cell_rules.specs.First.{ends_by_arrival, handing_tests, station_empty, other_plate_at, tests}
use Rattle.cell_types.specs.After.{Snapshot, with_at, is_plate, with_plate, step}
use Rattle.cell_rules.specs.SituationIn.{situation_in}
use Rattle.std.specs.Prelude.{unwrap_or}
use Rattle.std.proofs.Common.{subst}
use Rattle.cell_rules.specs.Views.{puts}
use Rattle.cell_rules.specs.Safety.{is_forged_as}
use Rattle.cell_rules.proofs.Safe.Facts.{pose_same, Axes, axes_of, rest, going_to, Passed, passed_first, passed_last}
use Rattle.cell_rules.proofs.Safe.Facts.{free, plate_at, occupied, no_other, resting, held, and_both, not_false}
use Rattle.cell_rules.proofs.Safe.Facts.{not_some_tells, is_plate_tells, is_pose_tells}
use Rattle.cell_rules.proofs.Safe.Motion.{Holders, Spot, Load1, Load2, Unload1, Unload2, spot_arm, spot_pose}
use Rattle.cell_rules.proofs.Safe.Motion.{spot_station, Facing, ArmSafe, MotionSafe, begun, press_goes, may_go}
use Rattle.cell_rules.proofs.Safe.Motion.{has_pose, fits}
use Rattle.cell_rules.proofs.Safe.Stops.{motion_rests}
use Rattle.cell_rules.proofs.Safe.Zones.{motion_claimed, motion_yielded}
use Rattle.cell_rules.proofs.Safe.Arms.{Stands, stands, not_in, at_is}
use Rattle.cell_rules.proofs.Safe.Starts.{motion_started}
use Rattle.cell_rules.proofs.Safe.Repairs.{homed, motion_repaired}
use Rattle.cell_rules.proofs.Safe.Plates.{press_stage, stage, Counted, ends, PlatesSafe, placed_at, Numbered}
use Rattle.cell_rules.proofs.Safe.Plates.{plates_placed, plates_left, numbered, plates_begun, start_clear, plates_rests}
use Rattle.cell_rules.proofs.Safe.Plates.{arrived_stage, plates_homed, emptied, forged_at, forged_counted, no_end}
use Rattle.cell_rules.proofs.Safe.Plates.{Ending, rests_clear, stage_same}
use Rattle.cell_rules.proofs.Safe.Returns.{ReturnsSafe, returns_placed, returns_forged, returns_cleared, due_told}
use Rattle.cell_rules.proofs.Safe.Returns.{returns_expected, expected_there, expected_unforged, returns_back}
use Rattle.cell_rules.proofs.Safe.Lights.{FeedLit, LightsSafe, feed_without, deposit_without, lights_started}
use Rattle.cell_rules.proofs.Safe.Lights.{lights_rests, lights_declared, lights_repaired, deposit_placed, lights_placed}

pub record Safe (ax : Axes) (holder : Holders) (plate : Station → Option ℕ) (place : ℕ → Place) (marks : ℕ
    → ℕ) (n : ℕ) (failed : Machine → Bool) (lamp : Belt → Colour) (expected : Option ℕ) (waits : ℕ
    → Option Station) : Type 0 where
  pub motion : MotionSafe ax holder
  pub plates : PlatesSafe ax plate place marks n
  pub lights : LightsSafe ax plate failed lamp
  pub returns : ReturnsSafe expected waits place marks

abbrev pub Inv : Snapshot → (ℕ → Place) → (ℕ → ℕ) → Type 0
Inv s place marks = Safe (axes_of s) s.holder s.plate place marks s.admitted s.failed s.lamp s.expected s.waits

-- where plates are, and how often they were forged, after an entry
abbrev pub then_place : Entry → (ℕ → Place) → ℕ → Place
then_place e place k = unwrap_or (puts k e) (place k)

abbrev pub then_marks : Entry → (ℕ → ℕ) → ℕ → ℕ
then_marks e marks k = if is_forged_as k e then marks k + 1 else marks k

-- the axes after an entry
started_at : (s : Snapshot) (a y : Axis) (to : Pose) (b : Bool) → same_axis a y ≡ b
    → (let r : AxisState = record { at = s.at y; going = cond b (Some to) (s.going y) } in r)
    ≡ cond b (going_to (s.at a) to) (axes_of s y)
started_at s a y to b e = grind (arith, pose_same)

pub axes_started : (s : Snapshot) (a : Axis) (to : Pose)
    → axes_of (step (Entry.Started a to) s) ≡ begun (axes_of s) a to
axes_started s a to = λ i y. started_at s a y to (same_axis a y) refl i

rested_at : (s : Snapshot) (y : Axis) (p : Pose) (b : Bool)
    → (let r : AxisState = record { at = cond b p (s.at y); going = cond b None (s.going y) } in r)
    ≡ cond b (rest p) (axes_of s y)
rested_at s y p b = grind (arith, pose_same)

pub axes_arrived : (s : Snapshot) (a : Axis) (p : Pose)
    → axes_of (step (Entry.Arrived a p) s) ≡ with_at (same_axis a) (rest p) (axes_of s)
axes_arrived s a p = λ i y. rested_at s y p (same_axis a y) i

pub axes_conveyed : (s : Snapshot) (a : Axis) (k : ℕ) (dest : Station)
    → axes_of (step (Entry.Conveyed a k dest) s) ≡ with_at (same_axis a) (rest Pose.Rest) (axes_of s)
axes_conveyed s a k dest = λ i y. rested_at s y Pose.Rest (same_axis a y) i

pub axes_forged_one : (s : Snapshot) (k : ℕ)
    → axes_of (step (Entry.Forged Machine.Press1 k) s) ≡ with_at (same_axis Axis.PressOne) (rest Pose.Top) (axes_of s)
axes_forged_one s k = λ i y. rested_at s y Pose.Top (same_axis Axis.PressOne y) i

pub axes_forged_two : (s : Snapshot) (k : ℕ)
    → axes_of (step (Entry.Forged Machine.Press2 k) s) ≡ with_at (same_axis Axis.PressTwo) (rest Pose.Top) (axes_of s)
axes_forged_two s k = λ i y. rested_at s y Pose.Top (same_axis Axis.PressTwo y) i

homed_at : (s : Snapshot) (y : Axis) (b : Bool)
    → (let r : AxisState = record { at = cond b (home y) (s.at y); going = cond b None (s.going y) } in r)
    ≡ cond b (rest (home y)) (axes_of s y)
homed_at s y b = grind (arith, pose_same)

pub axes_repaired : (s : Snapshot) (m : Machine) → axes_of (step (Entry.Repaired m) s) ≡ homed (axes_of s) m
axes_repaired s m = λ i y. homed_at s y (same_machine (machine_of_axis y) m) i

-- the invariant over other axes
abbrev SafeWith : Snapshot → (ℕ → Place) → (ℕ → ℕ) → Axes → Type 0
SafeWith t place marks ax = Safe ax t.holder t.plate place marks t.admitted t.failed t.lamp t.expected t.waits

-- the axes are exchanged as a whole, as the lemmas on the parts speak of axes and not of entries
with_axes : (t : Snapshot) (place : ℕ → Place) (marks : ℕ → ℕ) (ax : Axes) → axes_of t ≡ ax → SafeWith t place marks ax
    → Inv t place marks
with_axes t place marks ax e h = subst (λ (x : Axes). SafeWith t place marks x) (sym e) h

-- the tests let a light turn green only where all that green says is so
step_lamp : (l : BookLimits) (s : Snapshot) (place : ℕ → Place) (marks : ℕ → ℕ) (b : Belt) (to : Colour)
    → Inv s place marks → Passed (tests l (situation_in s) (Entry.Lamp b to))
    → Inv (step (Entry.Lamp b to) s) place marks
step_lamp l s place marks b to e f = grind (arith, pose_same)

-- a light has two colours only
pub green : (c : Colour) → same_colour c Colour.Red ≡ false → c ≡ Colour.Green
green c e = grind (arith, pose_same)

-- A plate that isn't at DepEnd, has a number and was never forged comes in at FeedIn, and the feed light turns red.
abbrev Enters : Snapshot → (ℕ → Place) → (ℕ → ℕ) → ℕ → ℕ → Option ℕ → (ℕ → Option Station) → Type 0
Enters s place marks k n expected waits =
    Safe (axes_of s) s.holder (with_plate k Station.FeedIn s.plate) (placed_at k (Place.At Station.FeedIn) place) marks
    n s.failed (with_at (same_belt Belt.Feed) Colour.Red s.lamp) expected waits

-- the feed light is green, so both places on the belt are free
enters : (s : Snapshot) (place : ℕ → Place) (marks : ℕ → ℕ) (k n : ℕ) (expected : Option ℕ) (waits : ℕ → Option Station)
    → Inv s place marks → s.lamp Belt.Feed ≡ Colour.Green → place k ≢ Place.At Station.DepEnd → Numbered k s.admitted n
    → marks k ≡ 0 → ReturnsSafe expected waits (placed_at k (Place.At Station.FeedIn) place) marks
    → Enters s place marks k n expected waits
enters s place marks k n expected waits v g nd w c r =
    let lit = v.lights.feed g in
    record {
      motion = v.motion;
      plates = plates_placed (axes_of s) s.plate place marks s.admitted n k Station.FeedIn v.plates w lit.front c
          (no_end (axes_of s) Station.FeedIn (λ x. x));
      lights = record {
        feed = λ d. cc;
        deposit = λ d. deposit_placed s.plate s.failed place k Station.FeedIn refl v.plates.there nd
            (v.lights.deposit d);
      };
      returns = r;
    }

-- a plate that is nowhere is a new one
step_admitted : (l : BookLimits) (s : Snapshot) (place : ℕ → Place) (marks : ℕ → ℕ) (k : ℕ) → Inv s place marks
    → Passed (tests l (situation_in s) (Entry.Admitted k))
    → Inv (step (Entry.Admitted k) s) (placed_at k (Place.At Station.FeedIn) place) marks
step_admitted l s place marks k v h =
    let e : k ≡ s.admitted + 1 = eqb-true k (s.admitted + 1) (not_false (k == s.admitted + 1) h.1.1.1.0) in
    let g : s.lamp Belt.Feed ≡ Colour.Green = green (s.lamp Belt.Feed) h.1.1.1.1.0 in
    let nowhere : place k ≡ Place.Nowhere = v.plates.outside k (inr (omega arith)) in
    let w : Numbered k s.admitted (s.admitted + 1) = record {
      low = omega arith;
      high = omega arith;
      grows =
          omega arith;
      others = λ j d le. omega arith;
    } in
    let c : Counted (axes_of s) Place.Nowhere (marks k) = rw nowhere at (v.plates.counted k) in
    enters s place marks k (s.admitted + 1) s.expected s.waits v g (λ d. cc) w c
    (returns_placed s.expected s.waits place marks k (Place.At Station.FeedIn) v.returns (λ d. cc))

-- the expected plate is in quarantine
step_reinstated : (l : BookLimits) (s : Snapshot) (place : ℕ → Place) (marks : ℕ → ℕ) (k : ℕ) → Inv s place marks
    → Passed (tests l (situation_in s) (Entry.Reinstated k))
    → Inv (step (Entry.Reinstated k) s) (placed_at k (Place.At Station.FeedIn) place) marks
step_reinstated l s place marks k v h =
    let e : s.expected ≡ Some k = is_plate_tells k s.expected (not_false (is_plate k s.expected) h.1.1.0) in
    let g : s.lamp Belt.Feed ≡ Colour.Green = green (s.lamp Belt.Feed) h.1.1.1.0 in
    let there : place k ≡ Place.Quarantine = expected_there s.expected s.waits place marks k v.returns e in
    enters s place marks k s.admitted None (with_at (λ (j : ℕ). k == j) None s.waits) v g (λ d. cc)
    (numbered place s.admitted k v.plates.outside (λ d. cc))
    (expected_unforged s.expected s.waits place marks k v.returns e)
    (returns_back s.expected s.waits place marks k (Place.At Station.FeedIn) v.returns)

-- the tests ask that the plate waits from before a press, which is what the invariant wants of it
step_expected : (l : BookLimits) (s : Snapshot) (place : ℕ → Place) (marks : ℕ → ℕ) (k : ℕ) → Inv s place marks
    → Passed (tests l (situation_in s) (Entry.Expected k)) → Inv (step (Entry.Expected k) s) place marks
step_expected l s place marks k v h =
    record {
      motion = v.motion;
      plates = v.plates;
      lights = v.lights;
      returns = returns_expected s.expected s.waits place marks k v.returns (due_told s.waits k h.1.0 h.1.1.1.1.0);
    }

step_claimed : (l : BookLimits) (s : Snapshot) (place : ℕ → Place) (marks : ℕ → ℕ) (m : Machine) (z : Zone)
    → Inv s place marks → Passed (tests l (situation_in s) (Entry.Claimed m z))
    → Inv (step (Entry.Claimed m z) s) place marks
step_claimed l s place marks m z v h =
    record {
      motion = motion_claimed (axes_of s) s.holder z (Some m) v.motion (not_some_tells (s.holder z) h.1.1.1.0);
      plates = v.plates;
      lights = v.lights;
      returns = v.returns;
    }

step_yielded : (l : BookLimits) (s : Snapshot) (place : ℕ → Place) (marks : ℕ → ℕ) (m : Machine) (z : Zone)
    → Inv s place marks → Passed (tests l (situation_in s) (Entry.Yielded m z))
    → Inv (step (Entry.Yielded m z) s) place marks
step_yielded l s place marks m z v h =
    let parked = passed_first (parked_tests (situation_in s) m) (not_holder (situation_in s) m z ∷ []) h.1.1 in
    let holds = passed_last (parked_tests (situation_in s) m) (not_holder (situation_in s) m z ∷ []) h.1.1 in
    record {
      motion = motion_yielded s z m v.motion parked (held s m z holds.0);
      plates = v.plates;
      lights = v.lights;
      returns = v.returns;
    }

step_started : (l : BookLimits) (s : Snapshot) (place : ℕ → Place) (marks : ℕ → ℕ) (a : Axis) (to : Pose)
    → Inv s place marks → Passed (tests l (situation_in s) (Entry.Started a to))
    → Inv (step (Entry.Started a to) s) place marks
step_started l s place marks a to v h =
    with_axes (step (Entry.Started a to) s) place marks (begun (axes_of s) a to) (axes_started s a to)
    (record {
      motion = motion_started s a to v.motion h.1.1;
      plates = plates_begun (axes_of s) a to s.plate place marks s.admitted v.plates (λ t. start_clear s a to t h.1.1);
      lights = lights_started s a to h.1.1 v.lights;
      returns = v.returns;
    })

-- what an axis does that is going
going_fits : (s : Snapshot) (a : Axis) (p : Pose) → fits a (axes_of s a) ≡ true → s.going a ≡ Some p
    → may_go a (s.at a) p ≡ true
going_fits s a p e f = grind (arith, pose_same)

-- a belt's motion leads to none of its poses, but it ends by a conveyed plate and not by an arrival
arrival_pose : (a : Axis) (q p : Pose) → ends_by_arrival a p ≡ true → may_go a q p ≡ true → has_pose a p ≡ true
arrival_pose a q p e f = grind (arith, pose_same)

-- the axis was going just there, so it's one that stops, and at a pose to which it may go
step_arrived : (l : BookLimits) (s : Snapshot) (place : ℕ → Place) (marks : ℕ → ℕ) (a : Axis) (p : Pose)
    → Inv s place marks → Passed (tests l (situation_in s) (Entry.Arrived a p))
    → Inv (step (Entry.Arrived a p) s) place marks
step_arrived l s place marks a p v h =
    let t = and_both (is_pose p (s.going a)) (ends_by_arrival a p)
    (not_false (is_pose p (s.going a) && ends_by_arrival a p) h.1.1.0) in
    let g = is_pose_tells p (s.going a) t.0 in
    let m = going_fits s a p (v.motion.fitting a) g in
    with_axes (step (Entry.Arrived a p) s) place marks (with_at (same_axis a) (rest p) (axes_of s)) (axes_arrived s a p)
    (record {
      motion = motion_rests (axes_of s) s.holder a p p v.motion g (arrival_pose a (s.at a) p t.1 m);
      plates = plates_rests (axes_of s) a p s.plate place marks s.admitted v.plates
          (λ u. arrived_stage (axes_of s) a p s.plate u g m t.1 (λ y e. v.plates.clear a p y g e));
      lights = lights_rests (axes_of s) a p p s.plate s.failed s.lamp g v.lights;
      returns = v.returns;
    })

-- A plate moves between two stations where no motion ends.
moves : (s : Snapshot) (place : ℕ → Place) (marks : ℕ → ℕ) (k : ℕ) (src dest : Station) → Inv s place marks
    → s.plate src ≡ Some k → s.plate dest ≡ None → stage (axes_of s) src ≡ stage (axes_of s) dest
    → (Ending (axes_of s) dest → ⊥) → PlatesSafe (axes_of s) (with_plate k dest s.plate)
    (placed_at k (Place.At dest) place) marks s.admitted
moves s place marks k src dest v e f g n =
    let p = v.plates.there src k e in
    let c : Counted (axes_of s) (Place.At src) (marks k) = rw p at (v.plates.counted k) in
    plates_placed (axes_of s) s.plate place marks s.admitted s.admitted k dest v.plates
    (numbered place s.admitted k v.plates.outside (λ d. cc)) f (c ∙ g) (no_end (axes_of s) dest n)

-- A belt that comes to rest has carried a plate.
conveys : (s : Snapshot) (place : ℕ → Place) (marks : ℕ → ℕ) (a : Axis) (q : Pose) (k : ℕ) (src dest : Station)
    → Inv s place marks → s.going a ≡ Some q → ends a q ≡ Some dest → s.plate src ≡ Some k → has_pose a Pose.Rest ≡ true
    → ((t : Station) → stage (with_at (same_axis a) (rest Pose.Rest) (axes_of s)) t ≡ stage (axes_of s) t)
    → stage (axes_of s) src ≡ stage (axes_of s) dest → (Ending (with_at (same_axis a) (rest Pose.Rest) (axes_of s)) dest
    → ⊥) → LightsSafe (with_at (same_axis a) (rest Pose.Rest) (axes_of s)) (with_plate k dest s.plate) s.failed s.lamp
    → Inv (step (Entry.Conveyed a k dest) s) (placed_at k (Place.At dest) place) marks
conveys s place marks a q k src dest v g t e r w c n o =
    let ax = with_at (same_axis a) (rest Pose.Rest) (axes_of s) in
    let p = v.plates.there src k e in
    let m : Counted (axes_of s) (Place.At src) (marks k) = rw p at (v.plates.counted k) in
    with_axes (step (Entry.Conveyed a k dest) s) (placed_at k (Place.At dest) place) marks ax (axes_conveyed s a k dest)
    (record {
      motion = motion_rests (axes_of s) s.holder a Pose.Rest q v.motion g r;
      plates = plates_placed ax s.plate place marks s.admitted s.admitted k dest
          (plates_rests (axes_of s) a Pose.Rest s.plate place marks s.admitted v.plates (λ u. inl (w u)))
          (numbered place s.admitted k v.plates.outside (λ d. cc))
          (v.plates.clear a q dest g t) (m ∙ (c ∙ sym (w dest))) (no_end ax dest n);
      lights = o;
      returns = returns_placed s.expected s.waits place marks k (Place.At dest) v.returns (λ d. cc);
    })

-- a belt that moves puts its light out
feed_dark : (ax : Axes) (plate : Station → Option ℕ) (q : Pose) → (ax Axis.FeedBelt).going ≡ Some q → FeedLit ax plate
    → ⊥
feed_dark ax plate q g o = let b : None ≡ Some q = ap (λ (t : AxisState). t.going) (sym o.belt) ∙ g in cc

-- belts convey between three pairs of stations, and the tests refuse all the rest
step_conveyed : (l : BookLimits) (s : Snapshot) (place : ℕ → Place) (marks : ℕ → ℕ) (a : Axis) (k : ℕ) (dest : Station)
    → Inv s place marks → Passed (tests l (situation_in s) (Entry.Conveyed a k dest))
    → Inv (step (Entry.Conveyed a k dest) s) (placed_at k (Place.At dest) place) marks
step_conveyed l s place marks Axis.FeedBelt k Station.FeedEnd v h =
    let g = is_pose_tells Pose.ToEnd (s.going Axis.FeedBelt) (not_false _ h.1.1.0) in
    let e = plate_at s Station.FeedIn k h.1.1.1.0 in
    conveys s place marks Axis.FeedBelt Pose.ToEnd k Station.FeedIn Station.FeedEnd v g refl e refl
    (λ t. stage_same (axes_of s) (with_at (same_axis Axis.FeedBelt) (rest Pose.Rest) (axes_of s)) t refl refl) refl
    (λ d. cc)
    (record {
      feed = λ d. absurd (feed_dark (axes_of s) s.plate Pose.ToEnd g (v.lights.feed d));
      deposit = λ d. deposit_placed s.plate s.failed place k Station.FeedEnd refl v.plates.there (λ f. let p =
          v.plates.there Station.FeedIn k e in cc) (v.lights.deposit d);
    })
step_conveyed l s place marks Axis.FeedBelt k Station.Table v h =
    let g = is_pose_tells Pose.ToTable (s.going Axis.FeedBelt) (not_false _ h.1.1.0) in
    let e = plate_at s Station.FeedEnd k h.1.1.1.0 in
    conveys s place marks Axis.FeedBelt Pose.ToTable k Station.FeedEnd Station.Table v g refl e refl
    (λ t. stage_same (axes_of s) (with_at (same_axis Axis.FeedBelt) (rest Pose.Rest) (axes_of s)) t refl refl) refl
    (λ d. cc)
    (record {
      feed = λ d. absurd (feed_dark (axes_of s) s.plate Pose.ToTable g (v.lights.feed d));
      deposit = λ d. deposit_placed s.plate s.failed place k Station.Table refl v.plates.there (λ f. let p =
          v.plates.there Station.FeedEnd k e in cc) (v.lights.deposit d);
    })
step_conveyed l s place marks Axis.DepositBelt k Station.DepEnd v h =
    let g = is_pose_tells Pose.ToEnd (s.going Axis.DepositBelt) (not_false _ h.1.1.0) in
    let e = plate_at s Station.DepIn k h.1.1.1.0 in
    let f = v.plates.clear Axis.DepositBelt Pose.ToEnd Station.DepEnd g refl in
    conveys s place marks Axis.DepositBelt Pose.ToEnd k Station.DepIn Station.DepEnd v g refl e refl
    (λ t. stage_same (axes_of s) (with_at (same_axis Axis.DepositBelt) (rest Pose.Rest) (axes_of s)) t refl refl)
    refl (λ d. cc)
    (record {
      feed = λ d. let o = feed_without (axes_of s) s.plate k (v.lights.feed d) in record {
        belt = o.belt;
        front =
            o.front;
        back = o.back;
      };
      deposit = λ d. let o = v.lights.deposit d in let t = o.there in cc;
    })
step_conveyed l s place marks _ k _ v h = let e = h.1.1.0 in cc

-- A plate is forged.
forges : (s : Snapshot) (place : ℕ → Place) (marks : ℕ → ℕ) (m : Machine) (a : Axis) (t : Station) (k : ℕ)
    → Inv s place marks → s.going a ≡ Some Pose.Top → s.plate t ≡ Some k → has_pose a Pose.Top ≡ true
    → axes_of (step (Entry.Forged m k) s) ≡ with_at (same_axis a) (rest Pose.Top) (axes_of s) → stage (axes_of s) t ≡ 0
    → stage (with_at (same_axis a) (rest Pose.Top) (axes_of s)) t ≡ 1
    → ((u : Station) → u ≢ t → stage (with_at (same_axis a) (rest Pose.Top) (axes_of s)) u ≡ stage (axes_of s) u)
    → Inv (step (Entry.Forged m k) s) place (forged_at k marks)
forges s place marks m a t k v g e r i z one w =
    let ax = with_at (same_axis a) (rest Pose.Top) (axes_of s) in
    let p = v.plates.there t k e in
    with_axes (step (Entry.Forged m k) s) place (forged_at k marks) ax i
    (record {
      motion = motion_rests (axes_of s) s.holder a Pose.Top Pose.Top v.motion g r;
      plates = record {
        there = v.plates.there;
        here = v.plates.here;
        outside = v.plates.outside;
        inside = v.plates.inside;
        counted = forged_counted (axes_of s) ax s.plate place marks s.admitted k t v.plates e z one w;
        clear = λ y q u d f. rests_clear (axes_of s) s.plate a y Pose.Top q u (same_axis a y) refl
            (λ x. v.plates.clear y q u x f) d;
      };
      lights = lights_rests (axes_of s) a Pose.Top Pose.Top s.plate s.failed s.lamp g v.lights;
      returns = returns_forged s.expected s.waits place marks k v.returns (λ d. cc);
    })

-- a press reaches Top only from Middle, where its plate isn't forged yet
rises : (q : Pose) → press_goes q Pose.Top ≡ true → press_stage q ≡ 0
rises q e = grind (arith, pose_same)

-- of the stations, only the press itself depends on its axis
other_one : (ax : Axes) (u : Station) → u ≢ Station.Press1
    → stage (with_at (same_axis Axis.PressOne) (rest Pose.Top) ax) u ≡ stage ax u
other_one ax u e = grind (arith, pose_same)

other_two : (ax : Axes) (u : Station) → u ≢ Station.Press2
    → stage (with_at (same_axis Axis.PressTwo) (rest Pose.Top) ax) u ≡ stage ax u
other_two ax u e = grind (arith, pose_same)

step_forged : (l : BookLimits) (s : Snapshot) (place : ℕ → Place) (marks : ℕ → ℕ) (m : Machine) (k : ℕ)
    → Inv s place marks → Passed (tests l (situation_in s) (Entry.Forged m k))
    → Inv (step (Entry.Forged m k) s) place (forged_at k marks)
step_forged l s place marks Machine.Press1 k v h =
    let g = is_pose_tells Pose.Top (s.going Axis.PressOne) (not_false _ h.1.1.0) in
    forges s place marks Machine.Press1 Axis.PressOne Station.Press1 k v g (plate_at s Station.Press1 k h.1.1.1.0) refl
    (axes_forged_one s k)
    (rises (s.at Axis.PressOne) (going_fits s Axis.PressOne Pose.Top (v.motion.fitting Axis.PressOne) g)) refl
    (other_one (axes_of s))
step_forged l s place marks Machine.Press2 k v h =
    let g = is_pose_tells Pose.Top (s.going Axis.PressTwo) (not_false _ h.1.1.0) in
    forges s place marks Machine.Press2 Axis.PressTwo Station.Press2 k v g (plate_at s Station.Press2 k h.1.1.1.0) refl
    (axes_forged_two s k)
    (rises (s.at Axis.PressTwo) (going_fits s Axis.PressTwo Pose.Top (v.motion.fitting Axis.PressTwo) g)) refl
    (other_two (axes_of s))
step_forged l s place marks _ k v h = let e = h.1.1.0 in cc

-- An arm hands a plate over.
spot_same : (x y : Spot) → spot_arm x ≡ spot_arm y → spot_station x ≡ spot_station y → x ≡ y
spot_same x y e f = grind (arith, pose_same)

-- the spots are the rows of what an arm may face, so both tell the same station
spot_faced : (x : Spot) (t : Station) → is_faced t (faced (spot_arm x) (spot_pose x)) ≡ true → spot_station x ≡ t
spot_faced x t e = grind (arith, pose_same)

pub record Hands (s : Snapshot) (arm : Arm) (at from to : Station) (k : ℕ) : Type 0 where
  pub stand : Stands (axes_of s) s.holder arm
  pub meets : spot_station stand.spot ≡ at
  pub healthy : s.failed (machine_of_station at) ≡ false
  pub out : axes_of s (axis_of_arm arm) ≡ rest Pose.Out
  pub full : s.plate from ≡ Some k
  pub empty : s.plate to ≡ None

-- the arm is out and so at a spot, and the tests say that this spot's station is meant
pub hands : (s : Snapshot) (arm : Arm) (at from to : Station) (k : ℕ) → ArmSafe (axes_of s) s.holder arm
    → Passed (handing_tests (situation_in s) arm at from to k) → Hands s arm at from to k
hands s arm at from to k v h =
    let o = resting s (axis_of_arm arm) Pose.Out h.1.1.0 in
    let y = stands (axes_of s) s.holder arm v (not_in (axes_of s (axis_of_arm arm)) Pose.Out o (λ e. cc)) in
    let g : s.going Axis.RobotTurn ≡ None = ap (λ (t : AxisState). t.going) y.faced.turn in
    let p : s.at Axis.RobotTurn ≡ spot_pose y.spot = ap (λ (t : AxisState). t.at) y.faced.turn in
    let i : is_faced at (if is_some (s.going Axis.RobotTurn) then None else faced arm (s.at Axis.RobotTurn)) ≡ true =
    not_false _ h.1.0 in
    let j : is_faced at (faced arm (s.at Axis.RobotTurn)) ≡ true = rw g at i in
    let f : is_faced at (faced (spot_arm y.spot) (spot_pose y.spot)) ≡ true = rw (y.own, ← p) j in
    let e = occupied s from h.1.1.1.0 in
    record {
      stand = y;
      meets = spot_faced y.spot at f;
      healthy = h.0;
      out = o;
      full = no_other s from e.0 k e.1 h.1.1.1.1.1.0;
      empty = free s to h.1.1.1.1.0;
    }

-- where the arm is
pub at_spot : (s : Snapshot) (y : Spot) (from to : Station) (k : ℕ) → Hands s (spot_arm y) (spot_station y) from to k
    → Facing (axes_of s) s.holder y
at_spot s y from to k e = grind (arith, pose_same)

-- a plate is at one station only
not_at_end : (s : Snapshot) (place : ℕ → Place) (marks : ℕ → ℕ) (src : Station) (k : ℕ) → Inv s place marks
    → s.plate src ≡ Some k → src ≢ Station.DepEnd → place k ≢ Place.At Station.DepEnd
not_at_end s place marks src k v e n d = let p = v.plates.there src k e in let i : src ≡ Station.DepEnd = cc in n i

-- a plate is moved to a station of no light
moved_to : (s : Snapshot) (place : ℕ → Place) (marks : ℕ → ℕ) (e : Entry) (k : ℕ) (src dest : Station)
    → Inv s place marks → s.plate src ≡ Some k → s.plate dest ≡ None → src ≢ Station.DepEnd
    → stage (axes_of s) src ≡ stage (axes_of s) dest → (Ending (axes_of s) dest → ⊥)
    → same_station dest Station.FeedIn ≡ false → same_station dest Station.FeedEnd ≡ false
    → same_station dest Station.DepEnd ≡ false
    → Safe (axes_of s) s.holder (with_plate k dest s.plate) (placed_at k (Place.At dest) place) marks s.admitted
    s.failed s.lamp s.expected s.waits
moved_to s place marks e k src dest v f t n c o d1 d2 d3 =
    record {
      motion = v.motion;
      plates = moves s place marks k src dest v f t c o;
      lights = lights_placed (axes_of s) s.plate s.failed s.lamp place k dest d1 d2 d3 v.plates.there
          (not_at_end s place marks src k v f n) v.lights;
      returns = let p = v.plates.there src k f in returns_placed s.expected s.waits place marks k (Place.At dest)
          v.returns (λ d. cc);
    }

-- the table's plate is unforged like arm one's, and that of a press at Bottom forged like arm two's
step_gripped : (l : BookLimits) (s : Snapshot) (place : ℕ → Place) (marks : ℕ → ℕ) (arm : Arm) (k : ℕ) (src : Station)
    → Inv s place marks → Passed (tests l (situation_in s) (Entry.Gripped arm k src))
    → Inv (step (Entry.Gripped arm k src) s) (placed_at k (Place.At (station_of_arm arm)) place) marks
step_gripped l s place marks Arm.Arm1 k Station.Table v h =
    let g = hands s Arm.Arm1 Station.Table Station.Table Station.Arm1 k v.motion.arm_one h.1.1 in
    moved_to s place marks (Entry.Gripped Arm.Arm1 k Station.Table) k Station.Table Station.Arm1 v g.full g.empty
    (λ e. cc) refl (λ d. d) refl refl refl
step_gripped l s place marks Arm.Arm2 k Station.Press1 v h =
    let g = hands s Arm.Arm2 Station.Press1 Station.Press1 Station.Arm2 k v.motion.arm_two h.1.1 in
    let r = at_is s Axis.PressOne Pose.Bottom (at_spot s Unload1 Station.Press1 Station.Arm2 k g).ready in
    moved_to s place marks (Entry.Gripped Arm.Arm2 k Station.Press1) k Station.Press1 Station.Arm2 v g.full g.empty
    (λ e. cc) (rw r) (λ d. d) refl refl refl
step_gripped l s place marks Arm.Arm2 k Station.Press2 v h =
    let g = hands s Arm.Arm2 Station.Press2 Station.Press2 Station.Arm2 k v.motion.arm_two h.1.1 in
    let r = at_is s Axis.PressTwo Pose.Bottom (at_spot s Unload2 Station.Press2 Station.Arm2 k g).ready in
    moved_to s place marks (Entry.Gripped Arm.Arm2 k Station.Press2) k Station.Press2 Station.Arm2 v g.full g.empty
    (λ e. cc) (rw r) (λ d. d) refl refl refl
step_gripped l s place marks _ k _ v h = let e = h.1.1.0 in cc

-- arm one's unforged plate goes into a press at Middle, and arm two's forged one onto the deposit belt
step_dropped : (l : BookLimits) (s : Snapshot) (place : ℕ → Place) (marks : ℕ → ℕ) (arm : Arm) (k : ℕ) (dest : Station)
    → Inv s place marks → Passed (tests l (situation_in s) (Entry.Dropped arm k dest))
    → Inv (step (Entry.Dropped arm k dest) s) (placed_at k (Place.At dest) place) marks
step_dropped l s place marks Arm.Arm1 k Station.Press1 v h =
    let g = hands s Arm.Arm1 Station.Press1 Station.Arm1 Station.Press1 k v.motion.arm_one h.1.1 in
    let f = (at_spot s Load1 Station.Arm1 Station.Press1 k g).ready in
    let r = at_is s Axis.PressOne Pose.Middle f in
    moved_to s place marks (Entry.Dropped Arm.Arm1 k Station.Press1) k Station.Arm1 Station.Press1 v g.full g.empty
    (λ e. cc) (rw r) (λ d. let t : s.going Axis.PressOne ≡ None = ap (λ (u : AxisState). u.going) f in cc) refl refl
    refl
step_dropped l s place marks Arm.Arm1 k Station.Press2 v h =
    let g = hands s Arm.Arm1 Station.Press2 Station.Arm1 Station.Press2 k v.motion.arm_one h.1.1 in
    let f = (at_spot s Load2 Station.Arm1 Station.Press2 k g).ready in
    let r = at_is s Axis.PressTwo Pose.Middle f in
    moved_to s place marks (Entry.Dropped Arm.Arm1 k Station.Press2) k Station.Arm1 Station.Press2 v g.full g.empty
    (λ e. cc) (rw r) (λ d. let t : s.going Axis.PressTwo ≡ None = ap (λ (u : AxisState). u.going) f in cc) refl refl
    refl
step_dropped l s place marks Arm.Arm2 k Station.DepIn v h =
    let g = hands s Arm.Arm2 Station.DepIn Station.Arm2 Station.DepIn k v.motion.arm_two h.1.1 in
    moved_to s place marks (Entry.Dropped Arm.Arm2 k Station.DepIn) k Station.Arm2 Station.DepIn v g.full g.empty
    (λ e. cc) refl (λ d. d) refl refl refl
step_dropped l s place marks _ k _ v h = let e = h.1.1.0 in cc

-- the deposit light is green, so there is a plate at the belt's end, and the tests say which
step_delivered : (l : BookLimits) (s : Snapshot) (place : ℕ → Place) (marks : ℕ → ℕ) (k : ℕ) → Inv s place marks
    → Passed (tests l (situation_in s) (Entry.Delivered k))
    → Inv (step (Entry.Delivered k) s) (placed_at k Place.Delivered place) marks
step_delivered l s place marks k v h =
    let lit = v.lights.deposit (green (s.lamp Belt.Deposit) h.1.1.1.0) in
    let e = no_other s Station.DepEnd lit.plate_there k lit.there h.1.1.0 in
    let p = v.plates.there Station.DepEnd k e in
    let c : Counted (axes_of s) (Place.At Station.DepEnd) (marks k) = rw p at (v.plates.counted k) in
    record {
      motion = v.motion;
      plates = plates_left (axes_of s) s.plate place marks s.admitted k Place.Delivered v.plates
          (numbered place s.admitted k v.plates.outside (λ d. cc)) (λ t d. cc) (λ d. cc) c;
      lights = record {
        feed = λ d. feed_without (axes_of s) s.plate k (v.lights.feed d);
        deposit = λ d. cc;
      };
      returns = returns_placed s.expected s.waits place marks k Place.Delivered v.returns (λ d. cc);
    }

-- a plate before a press was never forged
stage_before : (ax : Axes) (t : Station) → is_before_press t ≡ true → stage ax t ≡ 0
stage_before ax t e = grind (arith, pose_same)

-- so quarantine, where a plate may have been forged once at most, takes plates from every station
pub stage_low : (ax : Axes) (t : Station) → stage ax t ≤ 1
stage_low ax t = grind (arith, pose_same)

-- the station's machine has failed, so the plate isn't the one that a green deposit light tells of
step_quarantined : (l : BookLimits) (s : Snapshot) (place : ℕ → Place) (marks : ℕ → ℕ) (k : ℕ) (src : Station)
    → Inv s place marks → Passed (tests l (situation_in s) (Entry.Quarantined k src))
    → Inv (step (Entry.Quarantined k src) s) (placed_at k Place.Quarantine place) marks
step_quarantined l s place marks k src v h =
    let t = passed_last (any_visited (situation_in s) (machine_of_station src))
    (station_empty (situation_in s) src ∷ other_plate_at (situation_in s) src k ∷ []) h.1.1 in
    let bad : s.failed (machine_of_station src) ≡ true = not_false (s.failed (machine_of_station src)) h.1.0 in
    let o = occupied s src t.0 in
    let e = no_other s src o.0 k o.1 t.1.0 in
    let p = v.plates.there src k e in
    let c : Counted (axes_of s) (Place.At src) (marks k) = rw p at (v.plates.counted k) in
    let low = stage_low (axes_of s) src in
    record {
      motion = v.motion;
      plates = plates_left (axes_of s) s.plate place marks s.admitted k Place.Quarantine v.plates
          (numbered place s.admitted k v.plates.outside (λ d. cc)) (λ u d. cc) (λ d. cc) (omega (arith, c, low));
      lights = record {
        feed = λ d. feed_without (axes_of s) s.plate k (v.lights.feed d);
        deposit = λ d.
            let y = v.lights.deposit d in
            deposit_without s.plate s.failed place k v.plates.there
            (not_at_end s place marks src k v e (λ i. let b : s.failed (machine_of_station Station.DepEnd) ≡ true =
            rw i at bad in let w = y.healthy in cc)) y;
      };
      returns = returns_cleared s.expected s.waits place marks k src v.returns (λ d. cc)
          (λ b. c ∙ stage_before (axes_of s) src b);
    }

-- the tests say that nobody visits the machine and that its stations are empty, so its axes may go home
step_repaired : (l : BookLimits) (s : Snapshot) (place : ℕ → Place) (marks : ℕ → ℕ) (m : Machine) → Inv s place marks
    → Passed (tests l (situation_in s) (Entry.Repaired m)) → Inv (step (Entry.Repaired m) s) place marks
step_repaired l s place marks m v h =
    let a = passed_first (any_visited (situation_in s) m) (any_still_there (situation_in s) m) h.1.1 in
    let b = passed_last (any_visited (situation_in s) m) (any_still_there (situation_in s) m) h.1.1 in
    with_axes (step (Entry.Repaired m) s) place marks (homed (axes_of s) m) (axes_repaired s m)
    (record {
      motion = motion_repaired s m v.motion a;
      plates = plates_homed (axes_of s) m s.plate place marks s.admitted v.plates (emptied s m b);
      lights = lights_repaired (axes_of s) s.plate s.failed s.lamp m v.lights;
      returns = v.returns;
    })

-- Every entry that passes its tests keeps the invariant.
pub inv_step : (l : BookLimits) (s : Snapshot) (place : ℕ → Place) (marks : ℕ → ℕ) (e : Entry) → Inv s place marks
    → Passed (tests l (situation_in s) e) → Inv (step e s) (then_place e place) (then_marks e marks)
inv_step l s place marks (Entry.Lamp b to) v h = step_lamp l s place marks b to v h
inv_step l s place marks (Entry.Admitted k) v h = step_admitted l s place marks k v h
inv_step l s place marks (Entry.Claimed m z) v h = step_claimed l s place marks m z v h
inv_step l s place marks (Entry.Yielded m z) v h = step_yielded l s place marks m z v h
inv_step l s place marks (Entry.Started a to) v h = step_started l s place marks a to v h
inv_step l s place marks (Entry.Arrived a p) v h = step_arrived l s place marks a p v h
inv_step l s place marks (Entry.Conveyed a k dest) v h = step_conveyed l s place marks a k dest v h
inv_step l s place marks (Entry.Forged m k) v h = step_forged l s place marks m k v h
inv_step l s place marks (Entry.Gripped arm k src) v h = step_gripped l s place marks arm k src v h
inv_step l s place marks (Entry.Dropped arm k dest) v h = step_dropped l s place marks arm k dest v h
inv_step l s place marks (Entry.Delivered k) v h = step_delivered l s place marks k v h
inv_step l s place marks (Entry.Declared m cause) v h =
    record {
      motion = v.motion;
      plates = v.plates;
      lights =
          lights_declared (axes_of s) s.plate s.failed s.lamp m v.lights;
      returns = v.returns;
    }
inv_step l s place marks (Entry.Quarantined k src) v h = step_quarantined l s place marks k src v h
inv_step l s place marks (Entry.Repaired m) v h = step_repaired l s place marks m v h
inv_step l s place marks (Entry.Expected k) v h = step_expected l s place marks k v h
inv_step l s place marks (Entry.Reinstated k) v h = step_reinstated l s place marks k v h
inv_step l s place marks _ v h = record { motion = v.motion; plates = v.plates; lights = v.lights; returns = v.returns }
