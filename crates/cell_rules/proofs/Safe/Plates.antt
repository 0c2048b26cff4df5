-- The part of the invariant that is about plates.
use Rattle.std.proofs.Common.{◌≡◌, ◌≢◌, ℕ, ◌+◌, ◌≤◌, Bool, true, false, cond, ◌==◌, ◌&&◌, Option, Some, None, is_some}
use Rattle.std.proofs.Common.{refl, sym, ap, ◌∙◌, eq-eqb, ne_eqb, arith, ◌⊎◌, inl, inr, if◌then◌else◌}
use Rattle.cell_types.specs.declared.words.Machine.{Machine}
use Rattle.cell_types.specs.declared.words.Station.{Station}
use Rattle.cell_types.specs.declared.words.Axis.{Axis}
use Rattle.cell_types.specs.declared.words.Pose.{Pose}
use Rattle.cell_types.specs.declared.words.Place.{Place}
use Rattle.cell_types.specs.Same.{same_machine, same_station, same_axis, same_pose, station_number}
use Rattle.cell_types.specs.Cell.{machine_of_axis, machine_of_station, home}
use Rattle.cell_rules.specs.First.{any_still_there, started_tests, ends_by_arrival}
use Rattle.cell_types.specs.After.{Snapshot, with_at, is_plate, without, with_plate}
use Rattle.cell_rules.specs.SituationIn.{situation_in}
use Rattle.std.specs.Prelude.{unwrap_or}
use Rattle.std.proofs.lemmas.Bool.{cases_eq}
use Rattle.cell_rules.specs.Last.{when}
use Rattle.cell_rules.proofs.Safe.Facts.{station_same, pose_same, Axes, rest, going_to, Passed}
use Rattle.cell_rules.proofs.Safe.Motion.{begun, press_goes, may_go}
use Rattle.cell_rules.proofs.Safe.Repairs.{homed}

-- how often a plate at a station has been forged
abbrev pub press_stage : Pose → ℕ
press_stage p = if same_pose p Pose.Middle then 0 else 1

abbrev pub stage : Axes → Station → ℕ
stage ax Station.Press1 = press_stage (ax Axis.PressOne).at
stage ax Station.Press2 = press_stage (ax Axis.PressTwo).at
stage ax Station.Arm2 = 1
stage ax Station.DepIn = 1
stage ax Station.DepEnd = 1
stage ax _ = 0

abbrev pub Counted : Axes → Place → ℕ → Type 0
Counted ax Place.Nowhere m = m ≡ 0
Counted ax (Place.At t) m = m ≡ stage ax t
Counted ax Place.Quarantine m = m ≤ 1
Counted ax Place.Delivered m = m ≡ 1

-- the station that has to be empty when a motion ends
abbrev pub ends : Axis → Pose → Option Station
ends Axis.FeedBelt Pose.ToEnd = Some Station.FeedEnd
ends Axis.FeedBelt Pose.ToTable = Some Station.Table
ends Axis.DepositBelt Pose.ToEnd = Some Station.DepEnd
ends Axis.PressOne Pose.Middle = Some Station.Press1
ends Axis.PressTwo Pose.Middle = Some Station.Press2
ends _ _ = None

pub record PlatesSafe (ax : Axes) (plate : Station → Option ℕ) (place : ℕ → Place) (marks : ℕ
    → ℕ) (n : ℕ) : Type 0 where
  pub there : (t : Station) (k : ℕ) → plate t ≡ Some k → place k ≡ Place.At t
  pub here : (t : Station) (k : ℕ) → place k ≡ Place.At t → plate t ≡ Some k
  pub outside : (k : ℕ) → (k ≡ 0) ⊎ (n + 1 ≤ k) → place k ≡ Place.Nowhere
  pub inside : (k : ℕ) → 1 ≤ k → k ≤ n → place k ≢ Place.Nowhere
  pub counted : (k : ℕ) → Counted ax (place k) (marks k)
  pub clear : (a : Axis) (q : Pose) (t : Station) → (ax a).going ≡ Some q → ends a q ≡ Some t → plate t ≡ None

-- plate k comes to v
abbrev pub placed_at : ℕ → Place → (ℕ → Place) → ℕ → Place
placed_at k v place j = unwrap_or (when (k == j) v) (place j)

-- the test of the two numbers is named, so that the proof can go by its values
placed_same_case : (k : ℕ) (v : Place) (place : ℕ → Place) (b : Bool) → (k == k) ≡ b → placed_at k v place k ≡ v
placed_same_case k v place b e = grind (arith, pose_same)

pub placed_same : (k : ℕ) (v : Place) (place : ℕ → Place) → placed_at k v place k ≡ v
placed_same k v place = placed_same_case k v place (k == k) refl

pub placed_other : (k : ℕ) (v : Place) (place : ℕ → Place) (j : ℕ) → j ≢ k → placed_at k v place j ≡ place j
placed_other k v place j n = let e : (k == j) ≡ false = ne_eqb k j (λ d. n (sym d)) in rw e

without_case : (k : ℕ) (plate : Station → Option ℕ) (t : Station) (j : ℕ) (o : Option ℕ) → plate t ≡ o
    → (if is_plate k o then None else o) ≡ Some j → (plate t ≡ Some j) × (j ≢ k)
without_case k plate t j o e f = grind (arith, pose_same)

pub without_tells : (k : ℕ) (plate : Station → Option ℕ) (t : Station) (j : ℕ) → without k plate t ≡ Some j
    → (plate t ≡ Some j) × (j ≢ k)
without_tells k plate t j h = without_case k plate t j (plate t) refl h

pub without_is : (k : ℕ) (plate : Station → Option ℕ) (t : Station) (j : ℕ) → plate t ≡ Some j → j ≢ k
    → without k plate t ≡ Some j
without_is k plate t j e n = let f : (j == k) ≡ false = ne_eqb j k n in rw (e, f)

-- what leaves makes nothing full
pub without_none : (k : ℕ) (plate : Station → Option ℕ) (t : Station) → plate t ≡ None → without k plate t ≡ None
without_none k plate t e = rw e

-- What plate k needs to come somewhere: it has a number, and plates get no other new numbers.
pub record Numbered (k n n' : ℕ) : Type 0 where
  pub low : 1 ≤ k
  pub high : k ≤ n'
  pub grows : n ≤ n'
  pub others : (j : ℕ) → j ≢ k → j ≤ n' → j ≤ n

-- plate k has a number, so it's none of those that are nowhere
outside_after : (place : ℕ → Place) (k n n' : ℕ) (v : Place) → Numbered k n n'
    → ((j : ℕ) → (j ≡ 0) ⊎ (n + 1 ≤ j) → place j ≡ Place.Nowhere) → (j : ℕ) → (j ≡ 0) ⊎ (n' + 1 ≤ j)
    → placed_at k v place j ≡ Place.Nowhere
outside_after place k n n' v e f j g = grind (arith, pose_same)

-- plate k comes somewhere, and any other plate with a number had one before
inside_after : (place : ℕ → Place) (k n n' : ℕ) (v : Place) → v ≢ Place.Nowhere → Numbered k n n'
    → ((j : ℕ) → 1 ≤ j → j ≤ n → place j ≢ Place.Nowhere) → (j : ℕ) → 1 ≤ j → j ≤ n'
    → placed_at k v place j ≢ Place.Nowhere
inside_after place k n n' v nv w o j low high = go (cases_eq j k)
  where
    go : (j ≡ k) ⊎ (j ≡ k → ⊥) → placed_at k v place j ≢ Place.Nowhere
    go (inl e) = rw (e, placed_same k v place) nv
    go (inr ne) = rw (placed_other k v place j ne) (o j low (w.others j ne high))

-- no other plate changes its place
counted_after : (ax : Axes) (place : ℕ → Place) (marks : ℕ → ℕ) (k : ℕ) (v : Place) → Counted ax v (marks k)
    → ((j : ℕ) → Counted ax (place j) (marks j)) → (j : ℕ) → Counted ax (placed_at k v place j) (marks j)
counted_after ax place marks k v c o j = go (cases_eq j k)
  where
    go : (j ≡ k) ⊎ (j ≡ k → ⊥) → Counted ax (placed_at k v place j) (marks j)
    go (inl e) = rw (e, placed_same k v place) c
    go (inr ne) = rw (placed_other k v place j ne) (o j)

-- a test on two stations
station_yes : (s t : Station) → s ≡ t → same_station s t ≡ true
station_yes s t e = eq-eqb (station_number s) (station_number t) (ap station_number e)

pub with_plate_at : (k : ℕ) (s t : Station) (plate : Station → Option ℕ) → s ≡ t → with_plate k s plate t ≡ Some k
with_plate_at k s t plate e = rw (station_yes s t e)

-- plate k is at s only, and what another station holds it held before
there_case : (plate : Station → Option ℕ) (place : ℕ → Place) (k : ℕ) (s t : Station) (j : ℕ) (b : Bool)
    → same_station s t ≡ b → ((t : Station) (j : ℕ) → plate t ≡ Some j → place j ≡ Place.At t)
    → (if b then Some k else without k plate t) ≡ Some j → placed_at k (Place.At s) place j ≡ Place.At t
there_case plate place k s t j true e o h =
    let i : k ≡ j = cc in
    rw (← i) (placed_same k (Place.At s) place ∙ ap Place.At (station_same s t e))
there_case plate place k s t j false e o h =
    let w = without_tells k plate t j h in
    placed_other k (Place.At s) place j w.1 ∙ o t j w.0

-- station s was empty, so no plate is lost that was there
here_case : (plate : Station → Option ℕ) (k : ℕ) (s t : Station) (j : ℕ) (b : Bool) → same_station s t ≡ b
    → plate s ≡ None → plate t ≡ Some j → j ≢ k → (if b then Some k else without k plate t) ≡ Some j
here_case plate k s t j b e f g p = grind (arith, pose_same)

-- the motions under way end at other stations than s, and these are as before
clear_case : (plate : Station → Option ℕ) (k : ℕ) (s t : Station) (b : Bool) → same_station s t ≡ b → s ≢ t
    → plate t ≡ None → (if b then Some k else without k plate t) ≡ None
clear_case plate k s t b e f g = grind (arith, pose_same)

-- Plate k comes to station s, and leaves every other.
pub plates_placed : (ax : Axes) (plate : Station → Option ℕ) (place : ℕ → Place) (marks : ℕ
    → ℕ) (n n' k : ℕ) (s : Station) → PlatesSafe ax plate place marks n → Numbered k n n' → plate s ≡ None
    → marks k ≡ stage ax s → ((a : Axis) (q : Pose) → (ax a).going ≡ Some q → ends a q ≢ Some s)
    → PlatesSafe ax (with_plate k s plate) (placed_at k (Place.At s) place) marks n'
plates_placed ax plate place marks n n' k s o w f m c =
    record {
      there = λ t j h. there_case plate place k s t j (same_station s t) refl o.there h;
      here = λ t j h. go t j h (cases_eq j k);
      outside = outside_after place k n n' (Place.At s) w o.outside;
      inside = inside_after place k n n' (Place.At s) (λ e. cc) w o.inside;
      counted = counted_after ax place marks k (Place.At s) m o.counted;
      clear = λ a q t g e. clear_case plate k s t (same_station s t) refl (λ d. c a q g (e ∙ ap Some (sym d)))
          (o.clear a q t g e);
    }
  where
    go : (t : Station) (j : ℕ) → placed_at k (Place.At s) place j ≡ Place.At t → (j ≡ k) ⊎ (j ≡ k → ⊥)
        → with_plate k s plate t ≡ Some j
    go t j h (inl e) =
        let p : placed_at k (Place.At s) place j ≡ Place.At s = rw e (placed_same k (Place.At s) place) in
        let d : s ≡ t = cc in
        with_plate_at k s t plate d ∙ ap Some (sym e)
    go t j h (inr ne) =
        let p = placed_other k (Place.At s) place j ne in
        here_case plate k s t j (same_station s t) refl f (o.here t j (sym p ∙ h)) ne

-- Plate k leaves the stations.
pub plates_left : (ax : Axes) (plate : Station → Option ℕ) (place : ℕ → Place) (marks : ℕ → ℕ) (n k : ℕ) (v : Place)
    → PlatesSafe ax plate place marks n → Numbered k n n → ((t : Station) → v ≢ Place.At t) → v ≢ Place.Nowhere
    → Counted ax v (marks k) → PlatesSafe ax (without k plate) (placed_at k v place) marks n
plates_left ax plate place marks n k v o w nt nv m =
    record {
      there = λ t j h. let d = without_tells k plate t j h in placed_other k v place j d.1 ∙ o.there t j d.0;
      here = λ t j h. go t j h (cases_eq j k);
      outside = outside_after place k n n v w o.outside;
      inside = inside_after place k n n v nv w o.inside;
      counted = counted_after ax place marks k v m o.counted;
      clear = λ a q t g e. without_none k plate t (o.clear a q t g e);
    }
  where
    go : (t : Station) (j : ℕ) → placed_at k v place j ≡ Place.At t → (j ≡ k) ⊎ (j ≡ k → ⊥) → without k plate t ≡ Some j
    go t j h (inl e) =
        let p : placed_at k v place j ≡ v = rw e (placed_same k v place) in
        absurd (nt t (sym p ∙ h))
    go t j h (inr ne) =
        let p = placed_other k v place j ne in
        without_is k plate t j (o.here t j (sym p ∙ h)) ne

-- a plate that is somewhere has a number
pub numbered : (place : ℕ → Place) (n k : ℕ) → ((j : ℕ) → (j ≡ 0) ⊎ (n + 1 ≤ j) → place j ≡ Place.Nowhere)
    → place k ≢ Place.Nowhere → Numbered k n n
numbered place n k e f = grind (arith, pose_same)

-- The axes change.
pub stage_same : (ax ax' : Axes) (t : Station) → (ax' Axis.PressOne).at ≡ (ax Axis.PressOne).at
    → (ax' Axis.PressTwo).at ≡ (ax Axis.PressTwo).at → stage ax' t ≡ stage ax t
stage_same ax ax' t e f = grind (arith, pose_same)

-- where a stage changes the station is empty, so no plate is counted by it
counted_axes : (ax ax' : Axes) (plate : Station → Option ℕ) (j m : ℕ) (p : Place)
    → ((t : Station) → p ≡ Place.At t → plate t ≡ Some j)
    → ((t : Station) → (stage ax' t ≡ stage ax t) ⊎ (plate t ≡ None)) → Counted ax p m → Counted ax' p m
counted_axes ax ax' plate j m p e f g = grind (arith, pose_same)

-- of the rules only the counts and the stations kept clear depend on axes
pub plates_axes : (ax ax' : Axes) (plate : Station → Option ℕ) (place : ℕ → Place) (marks : ℕ → ℕ) (n : ℕ)
    → PlatesSafe ax plate place marks n → ((t : Station) → (stage ax' t ≡ stage ax t) ⊎ (plate t ≡ None))
    → ((a : Axis) (q : Pose) (t : Station) → (ax' a).going ≡ Some q → ends a q ≡ Some t → plate t ≡ None)
    → PlatesSafe ax' plate place marks n
plates_axes ax ax' plate place marks n e f g = grind (arith, pose_same)

-- an axis starts: it has the pose that it leaves
begun_at : (ax : Axes) (a y : Axis) (to : Pose) (b : Bool) → same_axis a y ≡ b
    → (cond b (going_to (ax a).at to) (ax y)).at ≡ (ax y).at
begun_at ax a y to b e = grind (arith, pose_same)

-- the tests ask that the new motion's end is empty, and other motions end where they did
begun_clear : (ax : Axes) (plate : Station → Option ℕ) (a y : Axis) (to q : Pose) (t : Station) (b : Bool)
    → same_axis a y ≡ b → (ends a to ≡ Some t → plate t ≡ None) → ((ax y).going ≡ Some q → plate t ≡ None)
    → (cond b (going_to (ax a).at to) (ax y)).going ≡ Some q → ends y q ≡ Some t → plate t ≡ None
begun_clear ax plate a y to q t b e f g p r = grind (arith, pose_same)

pub plates_begun : (ax : Axes) (a : Axis) (to : Pose) (plate : Station → Option ℕ) (place : ℕ → Place) (marks : ℕ
    → ℕ) (n : ℕ) → PlatesSafe ax plate place marks n → ((t : Station) → ends a to ≡ Some t → plate t ≡ None)
    → PlatesSafe (begun ax a to) plate place marks n
plates_begun ax a to plate place marks n o w =
    plates_axes ax (begun ax a to) plate place marks n o
    (λ t. inl (stage_same ax (begun ax a to) t (begun_at ax a Axis.PressOne to (same_axis a Axis.PressOne) refl)
    (begun_at ax a Axis.PressTwo to (same_axis a Axis.PressTwo) refl)))
    (λ y q t g e. begun_clear ax plate a y to q t (same_axis a y) refl (w t) (λ d. o.clear y q t d e) g e)

-- where a motion ends is empty when it starts
pub start_clear : (s : Snapshot) (a : Axis) (to : Pose) (t : Station) → Passed (started_tests (situation_in s) a to)
    → ends a to ≡ Some t → s.plate t ≡ None
start_clear s a to t e f = grind (arith, pose_same)

-- an axis comes to rest
pub rests_clear : (ax : Axes) (plate : Station → Option ℕ) (a y : Axis) (p q : Pose) (t : Station) (b : Bool)
    → same_axis a y ≡ b → ((ax y).going ≡ Some q → plate t ≡ None) → (cond b (rest p) (ax y)).going ≡ Some q
    → plate t ≡ None
rests_clear ax plate a y p q t b e f g = grind (arith, pose_same)

pub plates_rests : (ax : Axes) (a : Axis) (p : Pose) (plate : Station → Option ℕ) (place : ℕ → Place) (marks : ℕ
    → ℕ) (n : ℕ) → PlatesSafe ax plate place marks n
    → ((t : Station) → (stage (with_at (same_axis a) (rest p) ax) t ≡ stage ax t) ⊎ (plate t ≡ None))
    → PlatesSafe (with_at (same_axis a) (rest p) ax) plate place marks n
plates_rests ax a p plate place marks n o w =
    plates_axes ax (with_at (same_axis a) (rest p) ax) plate place marks n o w
    (λ y q t g e. rests_clear ax plate a y p q t (same_axis a y) refl (λ d. o.clear y q t d e) g)

-- a press arrives: empty at Middle, with a forged plate at Bottom
press_arrives : (q p : Pose) → press_goes q p ≡ true → p ≢ Pose.Top
    → (p ≡ Pose.Middle) ⊎ (press_stage p ≡ press_stage q)
press_arrives q p e f = grind (arith, pose_same)

-- belts don't end by an arrival, and a press goes to Middle only while it's empty
pub arrived_stage : (ax : Axes) (a : Axis) (p : Pose) (plate : Station → Option ℕ) (t : Station) → (ax a).going ≡ Some p
    → may_go a (ax a).at p ≡ true → ends_by_arrival a p ≡ true → ((t : Station) → ends a p ≡ Some t → plate t ≡ None)
    → (stage (with_at (same_axis a) (rest p) ax) t ≡ stage ax t) ⊎ (plate t ≡ None)
arrived_stage ax a p plate t e f g q = grind (arith, pose_same)

-- A machine is repaired: its stations are empty.
homed_clear : (ax : Axes) (plate : Station → Option ℕ) (y : Axis) (q : Pose) (t : Station) (b : Bool)
    → ((ax y).going ≡ Some q → plate t ≡ None) → (cond b (rest (home y)) (ax y)).going ≡ Some q → plate t ≡ None
homed_clear ax plate y q t b e f = grind (arith, pose_same)

homed_stage : (ax : Axes) (m : Machine) (plate : Station → Option ℕ) (t : Station)
    → (same_machine (machine_of_station t) m ≡ true → plate t ≡ None) → (stage (homed ax m) t ≡ stage ax t)
    ⊎ (plate t ≡ None)
homed_stage ax m plate t e = grind (arith, pose_same)

pub plates_homed : (ax : Axes) (m : Machine) (plate : Station → Option ℕ) (place : ℕ → Place) (marks : ℕ → ℕ) (n : ℕ)
    → PlatesSafe ax plate place marks n → ((t : Station) → same_machine (machine_of_station t) m ≡ true
    → plate t ≡ None) → PlatesSafe (homed ax m) plate place marks n
plates_homed ax m plate place marks n o f =
    plates_axes ax (homed ax m) plate place marks n o
    (λ t. homed_stage ax m plate t (f t))
    (λ y q t g e. homed_clear ax plate y q t (same_machine (machine_of_axis y) m) (λ d. o.clear y q t d e) g)

-- what the tests say of the stations of a machine
still_case : (s : Snapshot) (t : Station) (b : Bool) → (b && is_some (s.plate t)) ≡ false → b ≡ true → s.plate t ≡ None
still_case s t b e f = grind (arith, pose_same)

pub emptied : (s : Snapshot) (m : Machine) → Passed (any_still_there (situation_in s) m) → (t : Station)
    → same_machine (machine_of_station t) m ≡ true → s.plate t ≡ None
unfolding any_still_there
emptied s m e t f = grind (arith, pose_same)

-- A plate is forged: it alone is in the press, which was on its way from Middle to Top.
abbrev pub forged_at : ℕ → (ℕ → ℕ) → ℕ → ℕ
forged_at k marks j = if k == j then marks j + 1 else marks j

pub forged_other : (k j : ℕ) (marks : ℕ → ℕ) → j ≢ k → forged_at k marks j ≡ marks j
forged_other k j marks n = let e : (k == j) ≡ false = ne_eqb k j (λ d. n (sym d)) in rw e

pub forged_same : (k : ℕ) (marks : ℕ → ℕ) → forged_at k marks k ≡ marks k + 1
forged_same k marks = let e : (k == k) ≡ true = eq-eqb k k refl in rw e

-- only the stage of t changes, and the plate isn't there
counted_axes_but : (ax ax' : Axes) (j m : ℕ) (p : Place) (t : Station) → (p ≡ Place.At t → ⊥)
    → ((u : Station) → u ≢ t → stage ax' u ≡ stage ax u) → Counted ax p m → Counted ax' p m
counted_axes_but ax ax' j m p t e f g = grind (arith, pose_same)

-- the press holds the one plate that is forged, so all others are elsewhere and keep their count
pub forged_counted : (ax ax' : Axes) (plate : Station → Option ℕ) (place : ℕ → Place) (marks : ℕ
    → ℕ) (n k : ℕ) (t : Station) → PlatesSafe ax plate place marks n → plate t ≡ Some k → stage ax t ≡ 0
    → stage ax' t ≡ 1 → ((u : Station) → u ≢ t → stage ax' u ≡ stage ax u) → (j : ℕ)
    → Counted ax' (place j) (forged_at k marks j)
forged_counted ax ax' plate place marks n k t o e z one w j = go (cases_eq j k)
  where
    go : (j ≡ k) ⊎ (j ≡ k → ⊥) → Counted ax' (place j) (forged_at k marks j)
    go (inl i) =
        let p = o.there t k e in
        let c : Counted ax (Place.At t) (marks k) = rw p at (o.counted k) in
        let g : marks k + 1 ≡ stage ax' t = omega (arith, c, z, one) in
        rw (i, p, forged_same k marks) g
    go (inr ne) =
        rw (forged_other k j marks ne)
        (counted_axes_but ax ax' j (marks j) (place j) t
        (λ d. ne (let a = o.here t j d in cc)) w (o.counted j))

-- the motion that ends at a station
abbrev pub Ending : Axes → Station → Type 0
Ending ax Station.FeedEnd = (ax Axis.FeedBelt).going ≡ Some Pose.ToEnd
Ending ax Station.Table = (ax Axis.FeedBelt).going ≡ Some Pose.ToTable
Ending ax Station.DepEnd = (ax Axis.DepositBelt).going ≡ Some Pose.ToEnd
Ending ax Station.Press1 = (ax Axis.PressOne).going ≡ Some Pose.Middle
Ending ax Station.Press2 = (ax Axis.PressTwo).going ≡ Some Pose.Middle
Ending ax _ = ⊥

ending : (ax : Axes) (a : Axis) (q : Pose) (t : Station) → (ax a).going ≡ Some q → ends a q ≡ Some t → Ending ax t
ending ax a q t e f = grind (arith, pose_same)

pub no_end : (ax : Axes) (t : Station) → (Ending ax t → ⊥) → (a : Axis) (q : Pose) → (ax a).going ≡ Some q
    → ends a q ≢ Some t
no_end ax t n a q g e = n (ending ax a q t g e)
