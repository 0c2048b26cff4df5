-- A healthy machine that moves carries its plate
use Rattle.std.proofs.Common.{◌≡◌, ◌≢◌, ℕ, ◌+◌, Bool, true, false, cond, ◌==◌, List, [], ◌∷◌, Option, Some, None}
use Rattle.std.proofs.Common.{is_some, refl, sym, ap, ◌∙◌, arith, subst, inr, if◌then◌else◌, eqb-true}
use Rattle.cell_types.specs.declared.words.Machine.{Machine}
use Rattle.cell_types.specs.declared.words.Station.{Station}
use Rattle.cell_types.specs.declared.words.Axis.{Axis}
use Rattle.cell_types.specs.declared.words.Pose.{Pose}
use Rattle.cell_types.specs.declared.words.Arm.{Arm}
use Rattle.cell_types.specs.declared.words.Belt.{Belt}
use Rattle.std.proofs.lemmas.Bool.Decides.{nat_tests}
use Rattle.cell_types.specs.declared.words.Place.{Place}
use Rattle.cell_types.specs.declared.words.AxisState.{AxisState}
use Rattle.cell_types.specs.declared.words.Entry.{Entry}
use Rattle.cell_types.specs.Same.{same_machine, same_station, same_axis}
use Rattle.cell_types.specs.Cell.{machine_of_axis, machine_of_station, press_axis}
use Rattle.cell_types.specs.After.{Snapshot, opening, after, is_plate, without, with_plate, is_axis_of, step}
use Rattle.cell_rules.specs.Situations.{Situation}
use Rattle.cell_rules.specs.Views.{place_of, is_occupied}
use Rattle.cell_rules.specs.declared.limits.BookLimits.{BookLimits}
use Rattle.cell_rules.specs.First.{tests, started_tests, any_visited, station_empty, other_plate_at}
use Rattle.cell_rules.specs.SituationIn.{situation_in}
use Rattle.cell_rules.specs.Legal.{legal}
use Rattle.cell_rules.specs.Carrying.{carries_from, IsCarrying}
use Rattle.cell_rules.proofs.Safe.Facts.{axis_same, machine_same, pose_same, not_false, is_plate_tells, Passed}
use Rattle.cell_rules.proofs.Safe.Facts.{passed_last, axes_of, rest, occupied, no_other, plate_at}
use Rattle.cell_rules.proofs.Safe.Motion.{Unload1, Unload2}
use Rattle.cell_rules.proofs.Safe.Plates.{without_is}
use Rattle.cell_rules.proofs.Safe.Returns.{expected_there}
use Rattle.cell_rules.proofs.Safe.Step.{Inv, hands, at_spot, green}
use Rattle.cell_types.proofs.Left.{after_snoc}
use Rattle.cell_rules.proofs.Safe.Bridge.{good_cell, good_passed, good_when_legal, along, marks_of}

-- a station isn't empty
abbrev pub Full : Snapshot → Station → Type 0
Full s t = is_some (s.plate t) ≡ true

abbrev pub Carried : Snapshot → Type 0
Carried s = (a : Axis) (q : Pose) (t : Station) → s.going a ≡ Some q → carries_from a q ≡ Some t
    → s.failed (machine_of_axis a) ≡ false → Full s t

-- the station is its machine's, and no arm's, nor where plates are gripped or delivered but at a press that goes to Top
carry_own : (a : Axis) (q : Pose) (t : Station) → carries_from a q ≡ Some t → machine_of_axis a ≡ machine_of_station t
carry_own a q t e = grind (arith, pose_same)

carry_apart : (a : Axis) (q : Pose) (t : Station) → carries_from a q ≡ Some t → (t ≢ Station.Table) × (t ≢ Station.Arm1)
    × (t ≢ Station.Arm2) × (t ≢ Station.DepEnd)
carry_apart a q t e = (
  (λ i. grind (arith, pose_same)),
  (λ i. grind (arith, pose_same)),
  (λ i. grind (arith, pose_same)),
  (λ i. grind (arith, pose_same)),
)

-- a motion that starts with a plate finds it there
started_full : (s : Snapshot) (a : Axis) (q : Pose) (t : Station) → Passed (started_tests (situation_in s) a q)
    → carries_from a q ≡ Some t → Full s t
started_full s a q t e f = grind (arith, pose_same)

begun_full : (s : Snapshot) (a y : Axis) (to q : Pose) (t : Station) (b : Bool) → same_axis a y ≡ b
    → (carries_from a to ≡ Some t → Full s t) → (s.going y ≡ Some q → Full s t) → cond b (Some to) (s.going y) ≡ Some q
    → carries_from y q ≡ Some t → Full s t
begun_full s a y to q t b e f g p r = grind (arith, axis_same)

-- an axis that rests goes nowhere
still_goes : (o : Option Pose) (q : Pose) (b : Bool) → (if b then None else o) ≡ Some q → o ≡ Some q
still_goes o q true e = cc
still_goes o q false e = e

-- a machine that is healthy after a failure was so before
healthy_before : (f : Bool) (b : Bool) → (if b then true else f) ≡ false → f ≡ false
healthy_before f true e = cc
healthy_before f false e = e

-- a plate that moves leaves those of other stations
some_is : (o : Option ℕ) → is_some o ≡ true → (j : ℕ) × (o ≡ Some j)
some_is None e = cc
some_is (Some j) e = (j, refl)

stays_full : (plate : Station → Option ℕ) (k : ℕ) (t : Station) → plate t ≢ Some k → is_some (plate t) ≡ true
    → is_some (without k plate t) ≡ true
stays_full plate k t n e =
    let j = some_is (plate t) e in
    let w : without k plate t ≡ Some j.0 = without_is k plate t j.0 j.1 (λ i. n (j.1 ∙ ap (λ (m : ℕ). Some m) i)) in
    ap is_some w

comes_full : (plate : Station → Option ℕ) (k : ℕ) (s t : Station) → plate t ≢ Some k → is_some (plate t) ≡ true
    → is_some (with_plate k s plate t) ≡ true
comes_full plate k s t n e = go (same_station s t)
  where
    go : (b : Bool) → is_some (if b then Some k else without k plate t) ≡ true
    go true = refl
    go false = stays_full plate k t n e

-- the plate of one station is at no other
elsewhere : (s : Snapshot) (place : ℕ → Place) (marks : ℕ → ℕ) (k : ℕ) (src t : Station) → Inv s place marks
    → s.plate src ≡ Some k → t ≢ src → s.plate t ≢ Some k
elsewhere s place marks k src t v e n d =
    let p : place k ≡ Place.At src = v.plates.there src k e in
    let q : place k ≡ Place.At t = v.plates.there t k d in
    let same : t ≡ src = cc in n same

-- an arm that reaches a press finds it at rest
at_rest : (s : Snapshot) (a : Axis) (p q : Pose) → axes_of s a ≡ rest p → s.going a ≡ Some q → ⊥
at_rest s a p q e g = let n : s.going a ≡ None = ap (λ (t : AxisState). t.going) e in cc

carried_started : (s : Snapshot) (a : Axis) (to : Pose) → Passed (started_tests (situation_in s) a to) → Carried s
    → Carried (step (Entry.Started a to) s)
carried_started s a to h c y q t g e f = begun_full s a y to q t (same_axis a y) refl (started_full s a to t h)
    (λ i. c y q t i e f) g e

-- a belt's motion carries from the station where its plate comes from
conveyed_apart : (a y : Axis) (q : Pose) (src t : Station) (b : Bool) → same_axis a y ≡ b
    → machine_of_axis a ≡ machine_of_station src → (o : Option Pose) → (if b then None else o) ≡ Some q
    → carries_from y q ≡ Some t → t ≢ src
conveyed_apart a y q src t b e m o g f = grind (arith, pose_same)

carried_conveyed : (l : BookLimits) (s : Snapshot) (place : ℕ → Place) (marks : ℕ
    → ℕ) (a : Axis) (k : ℕ) (dest src : Station) → Inv s place marks → s.plate src ≡ Some k
    → machine_of_axis a ≡ machine_of_station src → Carried s → Carried (step (Entry.Conveyed a k dest) s)
carried_conveyed l s place marks a k dest src v i m c y q t g e f =
    comes_full s.plate k dest t
    (elsewhere s place marks k src t v i (conveyed_apart a y q src t (same_axis a y) refl m (s.going y) g e))
    (c y q t (still_goes (s.going y) q (same_axis a y) g) e f)

-- a press whose plate is gripped goes nowhere
press_one_of : (a : Axis) (q : Pose) → carries_from a q ≡ Some Station.Press1 → a ≡ Axis.PressOne
press_one_of a q e = grind (arith, pose_same)

press_two_of : (a : Axis) (q : Pose) → carries_from a q ≡ Some Station.Press2 → a ≡ Axis.PressTwo
press_two_of a q e = grind (arith, pose_same)

not_press_one : (s : Snapshot) (a : Axis) (p q : Pose) (t : Station) → axes_of s Axis.PressOne ≡ rest p
    → s.going a ≡ Some q → carries_from a q ≡ Some t → t ≢ Station.Press1
not_press_one s a p q t r g e n =
    let i : carries_from a q ≡ Some Station.Press1 = e ∙ ap (λ (x : Station). Some x) n in
    let y : a ≡ Axis.PressOne = press_one_of a q i in
    let h : s.going Axis.PressOne ≡ Some q = rw y at g in
    at_rest s Axis.PressOne p q r h

not_press_two : (s : Snapshot) (a : Axis) (p q : Pose) (t : Station) → axes_of s Axis.PressTwo ≡ rest p
    → s.going a ≡ Some q → carries_from a q ≡ Some t → t ≢ Station.Press2
not_press_two s a p q t r g e n =
    let i : carries_from a q ≡ Some Station.Press2 = e ∙ ap (λ (x : Station). Some x) n in
    let y : a ≡ Axis.PressTwo = press_two_of a q i in
    let h : s.going Axis.PressTwo ≡ Some q = rw y at g in
    at_rest s Axis.PressTwo p q r h

-- arms take plates from the table, or from a press that stands, and no motion carries from there
carried_gripped : (l : BookLimits) (s : Snapshot) (place : ℕ → Place) (marks : ℕ → ℕ) (x : Arm) (k : ℕ) (src : Station)
    → Inv s place marks → Passed (tests l (situation_in s) (Entry.Gripped x k src)) → Carried s
    → Carried (step (Entry.Gripped x k src) s)
carried_gripped l s place marks Arm.Arm1 k Station.Table v h c a q t g e f =
    let w = hands s Arm.Arm1 Station.Table Station.Table Station.Arm1 k v.motion.arm_one h.1.1 in
    comes_full s.plate k Station.Arm1 t (elsewhere s place marks k Station.Table t v w.full (carry_apart a q t e).0)
    (c a q t g e f)
carried_gripped l s place marks Arm.Arm2 k Station.Press1 v h c a q t g e f =
    let w = hands s Arm.Arm2 Station.Press1 Station.Press1 Station.Arm2 k v.motion.arm_two h.1.1 in
    let r = (at_spot s Unload1 Station.Press1 Station.Arm2 k w).ready in
    comes_full s.plate k Station.Arm2 t (elsewhere s place marks k Station.Press1 t v w.full
    (not_press_one s a Pose.Bottom q t r g e)) (c a q t g e f)
carried_gripped l s place marks Arm.Arm2 k Station.Press2 v h c a q t g e f =
    let w = hands s Arm.Arm2 Station.Press2 Station.Press2 Station.Arm2 k v.motion.arm_two h.1.1 in
    let r = (at_spot s Unload2 Station.Press2 Station.Arm2 k w).ready in
    comes_full s.plate k Station.Arm2 t (elsewhere s place marks k Station.Press2 t v w.full
    (not_press_two s a Pose.Bottom q t r g e)) (c a q t g e f)
carried_gripped l s place marks _ k _ v h c a q t g e f = let n = h.1.1.0 in cc

-- the plate leaves an arm, and no motion carries from there
carried_dropped : (l : BookLimits) (s : Snapshot) (place : ℕ → Place) (marks : ℕ → ℕ) (x : Arm) (k : ℕ) (dest : Station)
    → Inv s place marks → Passed (tests l (situation_in s) (Entry.Dropped x k dest)) → Carried s
    → Carried (step (Entry.Dropped x k dest) s)
carried_dropped l s place marks Arm.Arm1 k Station.Press1 v h c a q t g e f =
    let w = hands s Arm.Arm1 Station.Press1 Station.Arm1 Station.Press1 k v.motion.arm_one h.1.1 in
    comes_full s.plate k Station.Press1 t (elsewhere s place marks k Station.Arm1 t v w.full (carry_apart a q t e).1)
    (c a q t g e f)
carried_dropped l s place marks Arm.Arm1 k Station.Press2 v h c a q t g e f =
    let w = hands s Arm.Arm1 Station.Press2 Station.Arm1 Station.Press2 k v.motion.arm_one h.1.1 in
    comes_full s.plate k Station.Press2 t (elsewhere s place marks k Station.Arm1 t v w.full (carry_apart a q t e).1)
    (c a q t g e f)
carried_dropped l s place marks Arm.Arm2 k Station.DepIn v h c a q t g e f =
    let w = hands s Arm.Arm2 Station.DepIn Station.Arm2 Station.DepIn k v.motion.arm_two h.1.1 in
    comes_full s.plate k Station.DepIn t (elsewhere s place marks k Station.Arm2 t v w.full (carry_apart a q t e).2)
    (c a q t g e f)
carried_dropped l s place marks _ k _ v h c a q t g e f = let n = h.1.1.0 in cc

-- the plate leaves the belt's end, and no motion carries from there
carried_delivered : (l : BookLimits) (s : Snapshot) (place : ℕ → Place) (marks : ℕ → ℕ) (k : ℕ) → Inv s place marks
    → Passed (tests l (situation_in s) (Entry.Delivered k)) → Carried s → Carried (step (Entry.Delivered k) s)
carried_delivered l s place marks k v h c a q t g e f =
    let lit = v.lights.deposit (green (s.lamp Belt.Deposit) h.1.1.1.0) in
    let i = no_other s Station.DepEnd lit.plate_there k lit.there h.1.1.0 in
    stays_full s.plate k t (elsewhere s place marks k Station.DepEnd t v i (carry_apart a q t e).3) (c a q t g e f)

-- the motion's machine is the station's, and it's healthy, while that of src has failed
failed_not : (s : Snapshot) (a : Axis) (q : Pose) (src t : Station) → s.failed (machine_of_station src) ≡ true
    → carries_from a q ≡ Some t → s.failed (machine_of_axis a) ≡ false → t ≢ src
failed_not s a q src t bad e f n =
    let own : machine_of_axis a ≡ machine_of_station t = carry_own a q t e in
    let at : machine_of_axis a ≡ machine_of_station src = own ∙ ap machine_of_station n in
    let wrong : s.failed (machine_of_station src) ≡ false = rw at at f in cc

carried_quarantined : (l : BookLimits) (s : Snapshot) (place : ℕ → Place) (marks : ℕ → ℕ) (k : ℕ) (src : Station)
    → Inv s place marks → Passed (tests l (situation_in s) (Entry.Quarantined k src)) → Carried s
    → Carried (step (Entry.Quarantined k src) s)
carried_quarantined l s place marks k src v h c a q t g e f =
    let w = passed_last (any_visited (situation_in s) (machine_of_station src))
    (station_empty (situation_in s) src ∷ other_plate_at (situation_in s) src k ∷ []) h.1.1 in
    let bad : s.failed (machine_of_station src) ≡ true = not_false (s.failed (machine_of_station src)) h.1.0 in
    let o = occupied s src w.0 in
    let i = no_other s src o.0 k o.1 w.1.0 in
    stays_full s.plate k t (elsewhere s place marks k src t v i (failed_not s a q src t bad e f)) (c a q t g e f)

-- a machine whose axis still moves isn't the one that is repaired
repaired_healthy : (x m : Machine) (o : Option Pose) (q : Pose) (fx : Bool)
    → (if same_machine x m then None else o) ≡ Some q → (if same_machine m x then false else fx) ≡ false → fx ≡ false
repaired_healthy x m o q fx g f = grind (arith, machine_same, nat_tests)

-- a plate that is at no station comes in
enters_full : (s : Snapshot) (place : ℕ → Place) (marks : ℕ → ℕ) (k : ℕ) (p : Place) → Inv s place marks → place k ≡ p
    → ((u : Station) → p ≢ Place.At u) → (t : Station) → Full s t
    → is_some (with_plate k Station.FeedIn s.plate t) ≡ true
enters_full s place marks k p v i n t e =
    comes_full s.plate k Station.FeedIn t (λ d. n t (sym i ∙ v.plates.there t k d)) e

-- a plate leaves no station from which a healthy machine's motion carries it
pub carried_step : (l : BookLimits) (s : Snapshot) (place : ℕ → Place) (marks : ℕ → ℕ) (e : Entry) → Inv s place marks
    → Passed (tests l (situation_in s) e) → Carried s → Carried (step e s)
carried_step l s place marks (Entry.Admitted k) v h c = λ a q t g e f.
    let n : k ≡ s.admitted + 1 = eqb-true k (s.admitted + 1) (not_false (k == s.admitted + 1) h.1.1.1.0) in
    let nowhere : place k ≡ Place.Nowhere = v.plates.outside k (inr (omega arith)) in
    enters_full s place marks k Place.Nowhere v nowhere (λ u d. cc) t (c a q t g e f)
carried_step l s place marks (Entry.Started a to) v h c = carried_started s a to h.1.1 c
carried_step l s place marks (Entry.Arrived b p) v h c =
    λ a q t g e f. c a q t (still_goes (s.going a) q (same_axis b a) g) e f
carried_step l s place marks (Entry.Conveyed Axis.FeedBelt k Station.FeedEnd) v h c =
    carried_conveyed l s place marks Axis.FeedBelt k Station.FeedEnd Station.FeedIn v
    (plate_at s Station.FeedIn k h.1.1.1.0) refl c
carried_step l s place marks (Entry.Conveyed Axis.FeedBelt k Station.Table) v h c =
    carried_conveyed l s place marks Axis.FeedBelt k Station.Table Station.FeedEnd v
    (plate_at s Station.FeedEnd k h.1.1.1.0) refl c
carried_step l s place marks (Entry.Conveyed Axis.DepositBelt k Station.DepEnd) v h c =
    carried_conveyed l s place marks Axis.DepositBelt k Station.DepEnd Station.DepIn v
    (plate_at s Station.DepIn k h.1.1.1.0) refl c
carried_step l s place marks (Entry.Conveyed _ k _) v h c = let n = h.1.1.0 in cc
carried_step l s place marks (Entry.Forged m k) v h c =
    λ a q t g e f. c a q t (still_goes (s.going a) q (is_axis_of a (press_axis m)) g) e f
carried_step l s place marks (Entry.Gripped x k src) v h c = carried_gripped l s place marks x k src v h c
carried_step l s place marks (Entry.Dropped x k dest) v h c = carried_dropped l s place marks x k dest v h c
carried_step l s place marks (Entry.Delivered k) v h c = carried_delivered l s place marks k v h c
carried_step l s place marks (Entry.Declared m cause) v h c =
    λ a q t g e f. c a q t g e (healthy_before (s.failed (machine_of_axis a)) (same_machine m (machine_of_axis a)) f)
carried_step l s place marks (Entry.Quarantined k src) v h c = carried_quarantined l s place marks k src v h c
carried_step l s place marks (Entry.Repaired m) v h c = λ a q t g e f.
    c a q t (still_goes (s.going a) q (same_machine (machine_of_axis a) m) g) e
    (repaired_healthy (machine_of_axis a) m (s.going a) q (s.failed (machine_of_axis a)) g f)
carried_step l s place marks (Entry.Reinstated k) v h c = λ a q t g e f.
    let x : s.expected ≡ Some k = is_plate_tells k s.expected (not_false (is_plate k s.expected) h.1.1.0) in
    enters_full s place marks k Place.Quarantine v (expected_there s.expected s.waits place marks k v.returns x)
    (λ u d. cc) t (c a q t g e f)
carried_step l s place marks _ v h c = c

carried : (l : BookLimits) (J : List Entry) → legal l J ≡ true → Carried (after J)
carried l J h = along l (λ K. Carried (after K)) (λ a q t g e f. cc)
    (λ K e w c a. subst Carried (sym (after_snoc opening K e))
    (carried_step l (after K) (place_of K) (marks_of K) e w.safe (good_passed l K e w a) c)) J h

pub carrying_when_legal : (l : BookLimits) (J : List Entry) → legal l J ≡ true → IsCarrying J
carrying_when_legal l J h a q t g e f =
    let w = good_when_legal l J h in
    let o : is_occupied J t ≡ is_some ((after J).plate t) = ap (λ (c : Situation). c.occupied t) (good_cell J w) in
    o ∙ carried l J h a q t (sym (w.agrees.going a) ∙ g) e (sym (w.agrees.failed (machine_of_axis a)) ∙ f)
