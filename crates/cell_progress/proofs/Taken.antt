-- Where plates are after an entry, as a function of where they were
use Rattle.std.proofs.Common.{◌≡◌, ◌≢◌, ℕ, ◌+◌, ◌==◌, Bool, true, false, Option, Some, None, is_some, refl, sym, ap}
use Rattle.std.proofs.Common.{◌∙◌, arith, eqb-true, inr}
use Rattle.std.specs.Prelude.{if◌then◌else◌}
use Rattle.std.proofs.Math.Path.{fun_ext}
use Rattle.std.proofs.lemmas.Bool.Decides.{nat_tests}
use Rattle.cell_types.specs.declared.words.Belt.{Belt}
use Rattle.cell_types.specs.declared.words.Machine.{Machine}
use Rattle.cell_types.specs.declared.words.Station.{Station}
use Rattle.cell_types.specs.declared.words.Axis.{Axis}
use Rattle.cell_types.specs.declared.words.Pose.{Pose}
use Rattle.cell_types.specs.declared.words.Arm.{Arm}
use Rattle.cell_types.specs.declared.words.Place.{Place}
use Rattle.cell_types.specs.declared.words.Entry.{Entry}
use Rattle.cell_types.specs.declared.words.Entry.TheVariants.{Admitted, Conveyed, Gripped, Dropped, Delivered}
use Rattle.cell_types.specs.declared.words.Entry.TheVariants.{Quarantined, Reinstated}
use Rattle.cell_types.specs.Same.{same_station}
use Rattle.cell_types.specs.Cell.{machine_of_station, station_of_arm}
use Rattle.cell_types.specs.After.{Snapshot, is_plate, step, with_plate, without}
use Rattle.cell_rules.specs.First.{any_visited}
use Rattle.cell_rules.proofs.Safe.Facts.{pose_same, station_same, not_false, no_other, occupied, passed_last}
use Rattle.cell_rules.proofs.Safe.Step.{Inv, green}
use Rattle.cell_progress.specs.Orders.{cell_of}
use Rattle.cell_progress.proofs.Happening.{Happens, operators_never, is_operators}
use Rattle.cell_progress.proofs.Passing.{Allowed}

-- which stations are occupied
abbrev pub taken : Snapshot → Station → Bool
taken s t = is_some (s.plate t)

abbrev pub left_at : Station → (Station → Bool) → Station → Bool
left_at src o t = if same_station src t then false else o t

abbrev pub come_at : Station → (Station → Bool) → Station → Bool
come_at dest o t = if same_station dest t then true else o t

-- where a belt's motion takes the plate from, and the motion's name
abbrev pub source : Station → Station
source Station.FeedEnd = Station.FeedIn
source Station.Table = Station.FeedEnd
source _ = Station.DepIn

abbrev pub motion_of : Station → Pose
motion_of Station.Table = Pose.ToTable
motion_of _ = Pose.ToEnd

-- which are occupied after an entry that can happen
abbrev pub occupied_after : Entry → (Station → Bool) → Station → Bool
occupied_after (Admitted k) o = come_at Station.FeedIn o
occupied_after (Conveyed a k dest) o = come_at dest (left_at (source dest) o)
occupied_after (Gripped x k src) o = come_at (station_of_arm x) (left_at src o)
occupied_after (Dropped x k dest) o = come_at dest (left_at (station_of_arm x) o)
occupied_after (Delivered k) o = left_at Station.DepEnd o
occupied_after (Quarantined k t) o = left_at t o
occupied_after _ o = o

-- a plate that moves is at one station, and the other is empty
pub record Moved (s : Snapshot) (src dest : Station) (k : ℕ) : Type 0 where
  pub full : s.plate src ≡ Some k
  pub empty : s.plate dest ≡ None

-- a belt's motion ends
pub record Ended (s : Snapshot) (a : Axis) (q : Pose) (src : Station) (k : ℕ) : Type 0 where
  pub going : s.going a ≡ Some q
  pub full : s.plate src ≡ Some k

pub conveyed : (s : Snapshot) (a : Axis) (k : ℕ) (dest : Station) → Allowed s (Conveyed a k dest)
    → Ended s a (motion_of dest) (source dest) k
conveyed s a k dest h = grind (arith, nat_tests, pose_same)

-- an arm hands a plate over
pub gripped : (s : Snapshot) (x : Arm) (k : ℕ) (src : Station) → Allowed s (Gripped x k src)
    → Moved s src (station_of_arm x) k
gripped s x k src h = grind (arith, nat_tests)

pub dropped : (s : Snapshot) (x : Arm) (k : ℕ) (dest : Station) → Allowed s (Dropped x k dest)
    → Moved s (station_of_arm x) dest k
dropped s x k dest h = grind (arith, nat_tests)

-- a plate is taken out, cleared, or laid in
pub out_full : (s : Snapshot) (place : ℕ → Place) (marks : ℕ → ℕ) (k : ℕ) → Inv s place marks
    → Allowed s (Delivered k) → s.plate Station.DepEnd ≡ Some k
out_full s place marks k v h =
    let lit = v.lights.deposit (green (s.lamp Belt.Deposit) h.1.1.1.0) in
    no_other s Station.DepEnd lit.plate_there k lit.there h.1.1.0

pub cleared_full : (s : Snapshot) (k : ℕ) (t : Station) → Allowed s (Quarantined k t)
    → s.plate t ≡ Some k
cleared_full s k t h =
    let p = passed_last (any_visited (cell_of s) (machine_of_station t)) _ h.1.1 in
    let e = occupied s t p.0 in no_other s t e.0 k e.1 p.1.0

pub new_plate : (s : Snapshot) (place : ℕ → Place) (marks : ℕ → ℕ) (k : ℕ) → Inv s place marks
    → Allowed s (Admitted k) → place k ≡ Place.Nowhere
new_plate s place marks k v h =
    let n : k ≡ s.admitted + 1 = eqb-true k (s.admitted + 1) (not_false (k == s.admitted + 1) h.1.1.1.0) in
    v.plates.outside k (inr (omega arith))

left_case : (b : Bool) (k : ℕ) (o : Option ℕ) → (b ≡ true → o ≡ Some k) → (b ≡ false → o ≢ Some k)
    → is_some (if is_plate k o then None else o) ≡ (if b then false else is_some o)
left_case b k None e n = grind arith
left_case b k (Some j) e n = grind (arith, nat_tests)

at_same : (t u : Station) → Place.At t ≡ Place.At u → same_station t u ≡ true
at_same t u e = let i : t ≡ u = cc in grind (arith, nat_tests)

-- a plate leaves its station, and no other changes
left_is : (s : Snapshot) (place : ℕ → Place) (marks : ℕ → ℕ) (k : ℕ) (src : Station) → Inv s place marks
    → s.plate src ≡ Some k → (t : Station) → is_some (without k s.plate t) ≡ left_at src (taken s) t
left_is s place marks k src v e t =
    left_case (same_station src t) k (s.plate t) (λ f. ap s.plate (sym (station_same src t f)) ∙ e)
    (λ f d. let g = at_same src t (sym (v.plates.there src k e) ∙ v.plates.there t k d) in cc)

-- one that is nowhere leaves none
none_is : (s : Snapshot) (place : ℕ → Place) (marks : ℕ → ℕ) (k : ℕ) → Inv s place marks → place k ≡ Place.Nowhere
    → (t : Station) → is_some (without k s.plate t) ≡ taken s t
none_is s place marks k v n t =
    left_case false k (s.plate t) (λ f. cc) (λ f d. let p = v.plates.there t k d in cc)

-- and comes to one
comes_is : (s : Snapshot) (k : ℕ) (dest : Station) (o : Station → Bool)
    → ((t : Station) → is_some (without k s.plate t) ≡ o t)
    → (λ t. is_some (with_plate k dest s.plate t)) ≡ come_at dest o
comes_is s k dest o e = fun_ext (λ t. come_case (same_station dest t) (without k s.plate t) (o t) (e t))
  where
    come_case : (b : Bool) (w : Option ℕ) (x : Bool) → is_some w ≡ x
        → is_some (if b then Some k else w) ≡ (if b then true else x)
    come_case true w x e = refl
    come_case false w x e = e

-- which stations are occupied after an entry that can happen
pub taken_step : (plan : ℕ) (may : Machine → Bool) (s : Snapshot) (place : ℕ → Place) (marks : ℕ → ℕ) (e : Entry)
    → Inv s place marks → Happens plan may (cell_of s) e → Allowed s e
    → taken (step e s) ≡ occupied_after e (taken s)
unfolding is_operators
taken_step plan may s place marks (Admitted k) v h p =
    comes_is s k Station.FeedIn (taken s) (none_is s place marks k v (new_plate s place marks k v p))
taken_step plan may s place marks (Conveyed a k dest) v h p =
    comes_is s k dest _ (left_is s place marks k (source dest) v (conveyed s a k dest p).full)
taken_step plan may s place marks (Gripped x k src) v h p =
    comes_is s k (station_of_arm x) _ (left_is s place marks k src v (gripped s x k src p).full)
taken_step plan may s place marks (Dropped x k dest) v h p =
    comes_is s k dest _ (left_is s place marks k (station_of_arm x) v (dropped s x k dest p).full)
taken_step plan may s place marks (Delivered k) v h p =
    fun_ext (left_is s place marks k Station.DepEnd v (out_full s place marks k v p))
taken_step plan may s place marks (Quarantined k t) v h p =
    fun_ext (left_is s place marks k t v (cleared_full s k t p))
taken_step plan may s place marks (Reinstated k) v h p =
    absurd (operators_never plan may (cell_of s) (Reinstated k) h refl)
taken_step plan may s place marks _ v h p = refl
