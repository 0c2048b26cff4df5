-- What is shown of what a legal journal's first entries leave is what these entries tell
use Rattle.std.proofs.Common.{◌≡◌, ◌↔◌, ◌<◌, ℕ, Bool, true, false, List, [], ◌∷◌, Option, Some, None, refl, sym, ap}
use Rattle.std.proofs.Common.{◌∙◌, arith, cond}
use Rattle.std.specs.Prelude.{not, ◌-◌, if◌then◌else◌}
use Rattle.std.specs.List.{find}
use Rattle.std.specs.Option.{option_map}
use Rattle.cell_types.specs.declared.words.Station.{Station}
use Rattle.cell_types.specs.declared.words.Axis.{Axis}
use Rattle.cell_types.specs.declared.words.Pose.{Pose}
use Rattle.cell_types.specs.declared.words.Belt.{Belt}
use Rattle.cell_types.specs.declared.words.Place.{Place}
use Rattle.cell_types.specs.declared.words.Entry.{Entry}
use Rattle.cell_types.specs.declared.words.Station.TheVariants as station
use Rattle.cell_types.specs.declared.words.Axis.TheVariants as axis
use Rattle.cell_types.specs.declared.words.Pose.TheVariants as pose
use Rattle.cell_types.specs.declared.words.Belt.TheVariants as belt
use Rattle.cell_types.specs.declared.words.Place.TheVariants as place
use Rattle.cell_types.specs.Same.{same_place, same_pose}
use Rattle.cell_rules.specs.Views.{plate_of, place_of, placed, is_at, at_of}
use Rattle.cell_journal.specs.declared.snapshot.Snapshot.{Snapshot}
use Rattle.cell_journal.specs.Snapshots.{state_of}
use Rattle.cell_rules.specs.Invariants.{KeptState, forged_by_now}
use Rattle.plate_book.specs.Seen.{SeesViews}
use Rattle.cell_picture.specs.declared.facts.ShownPlate.{ShownPlate}
use Rattle.cell_picture.specs.Shown.{is_forged, shown_at, facts_of}
use Rattle.cell_picture.specs.Parts.{lamp_shown, plate_shown}
use Rattle.cell_picture.specs.Seen.{ShowsViews, MarksForged}

-- the plates are listed in the order of the stations' numbers, by which they are looked up
shown_each : (s : Snapshot) (t : Station) → plate_shown (facts_of s) t ≡ shown_at (state_of s) t
shown_each s station.FeedIn = refl
shown_each s station.FeedEnd = refl
shown_each s station.Table = refl
shown_each s station.Arm1 = refl
shown_each s station.Arm2 = refl
shown_each s station.Press1 = refl
shown_each s station.Press2 = refl
shown_each s station.DepIn = refl
shown_each s station.DepEnd = refl

-- a plate's mark has no say in which plate it is
plate_alone : (o : Option ℕ) (b : Bool) → option_map (λ (p : ShownPlate). p.plate)
    (option_map (λ k. record { plate = k; forged = b }) o) ≡ o
plate_alone None b = refl
plate_alone (Some k) b = refl

plate_same : (s : Snapshot) (t : Station) → option_map (λ (p : ShownPlate). p.plate) (plate_shown (facts_of s) t)
    ≡ (state_of s).plate t
plate_same s t = ap (option_map (λ (p : ShownPlate). p.plate)) (shown_each s t)
    ∙ plate_alone ((state_of s).plate t) (is_forged (state_of s).at t)

-- the same of the belts' lights
lamp_each : (s : Snapshot) (b : Belt) → lamp_shown (facts_of s) b ≡ (state_of s).lamp b
lamp_each s belt.Feed = refl
lamp_each s belt.Deposit = refl

-- apart from plates, lights and the quarantine, a picture takes the snapshot's parts as they are
pub shows_views : (s : Snapshot) (J : List Entry) → SeesViews s J → ShowsViews (facts_of s) J
unfolding state_of
shows_views s J v =
    record {
      plates = λ t. plate_same s t ∙ v.plates t;
      axes = v.axes;
      holders = v.holders;
      failed = v.failed;
      asked = v.asked;
      lamps = λ b. lamp_each s b ∙ v.lamps b;
      expected = v.expected;
      totals = v.totals;
      quarantine = ap (λ t. t.quarantined - t.reinstated) v.totals;
    }

-- a plate that is shown is at its station, and marked as the station and the poses say
parts : (o : Option ℕ) (b : Bool) (p : ShownPlate) → option_map (λ k. record { plate = k; forged = b }) o ≡ Some p
    → (o ≡ Some p.plate) × (b ≡ p.forged)
parts None b p h = cc
parts (Some k) b p h =
    let same : (record { plate = k; forged = b }) ≡ p = cc in
    (ap (λ (q : ShownPlate). Some q.plate) same, ap (λ (q : ShownPlate). q.forged) same)

found_passes : (p : ℕ → Bool) (xs : List ℕ) (k : ℕ) → find p xs ≡ Some k → p k ≡ true
found_passes p [] k h = cc
found_passes p (x ∷ xs) k h = go (p x) refl (found_passes p xs k) h
  where
    go : (b : Bool) → p x ≡ b → (find p xs ≡ Some k → p k ≡ true) → cond b (Some x) (find p xs) ≡ Some k → p k ≡ true
    go true e later h = let same : x ≡ k = cc in ap p (sym same) ∙ e
    go false e later h = later h

place_same : (p : Place) (t : Station) → same_place p (place.At t) ≡ true → p ≡ place.At t
place_same p t e = grind arith

-- the plate of a station is searched for among those placed, so one that is found is there
plate_there : (J : List Entry) (t : Station) (k : ℕ) → plate_of J t ≡ Some k → place_of J k ≡ place.At t
unfolding plate_of
plate_there J t k h = place_same (place_of J k) t (found_passes (is_at J t) (placed J) k h)

-- a press that still has its plate to forge stands in the middle
pressed : (b : Bool) → (not b ≡ true) ↔ (0 < (if b then 0 else 1))
pressed true = grind arith
pressed false = grind arith

-- a plate's mark says whether the plate was forged
marks : (J : List Entry) (at : Axis → Pose) (t : Station) → ((a : Axis) → at a ≡ at_of J a)
    → (is_forged at t ≡ true) ↔ (0 < forged_by_now J t)
marks J at station.FeedIn same = grind arith
marks J at station.FeedEnd same = grind arith
marks J at station.Table same = grind arith
marks J at station.Arm1 same = grind arith
marks J at station.Arm2 same = grind arith
marks J at station.Press1 same = rw (same axis.PressOne) (pressed (same_pose (at_of J axis.PressOne) pose.Middle))
marks J at station.Press2 same = rw (same axis.PressTwo) (pressed (same_pose (at_of J axis.PressTwo) pose.Middle))
marks J at station.DepIn same = grind arith
marks J at station.DepEnd same = grind arith

-- how often a plate was forged follows from its station and the presses, so a mark needs no history
pub marks_forged : (s : Snapshot) (J : List Entry) → SeesViews s J → KeptState J → MarksForged (facts_of s) J
marks_forged s J v kept t p h =
    let its = parts ((state_of s).plate t) (is_forged (state_of s).at t) p (sym (shown_each s t) ∙ h) in
    let there = plate_there J t p.plate (sym (v.plates t) ∙ its.0) in
    let says = marks J (state_of s).at t (λ a. ap (λ x. x.at) (v.axes a)) in
    rw (← its.1, kept.forged p.plate t there) says
