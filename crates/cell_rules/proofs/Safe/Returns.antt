-- The part of the invariant that is about plates that come back from quarantine.
use Rattle.std.proofs.Common.{◌≡◌, ◌≢◌, ℕ, true, false, ◌==◌, Option, Some, None, is_none, refl, sym, ap, ◌∙◌, eq-eqb}
use Rattle.std.proofs.Common.{ne_eqb, ◌⊎◌, inl, inr}
use Rattle.std.proofs.lemmas.Bool.{cases_eq}
use Rattle.cell_types.specs.declared.words.Station.{Station}
use Rattle.cell_types.specs.declared.words.Place.{Place}
use Rattle.cell_types.specs.After.{with_at}
use Rattle.cell_types.specs.Cell.{is_before_press}
use Rattle.cell_rules.specs.First.{waits_behind}
use Rattle.cell_rules.proofs.Safe.Facts.{not_false}
use Rattle.cell_rules.proofs.Safe.Plates.{placed_at, placed_same, placed_other, forged_at, forged_other}

-- plate k waits in quarantine from a station before a press
pub record Due (waits : ℕ → Option Station) (k : ℕ) : Type 0 where
  pub from : Station
  pub waits_there : waits k ≡ Some from
  pub before : is_before_press from ≡ true

pub record ReturnsSafe (expected : Option ℕ) (waits : ℕ → Option Station) (place : ℕ → Place) (marks : ℕ
    → ℕ) : Type 0 where
  pub there : (k : ℕ) (t : Station) → waits k ≡ Some t → place k ≡ Place.Quarantine
  pub unforged : (k : ℕ) (t : Station) → waits k ≡ Some t → is_before_press t ≡ true → marks k ≡ 0
  pub due : (k : ℕ) → expected ≡ Some k → Due waits k

-- a plate that isn't in quarantine doesn't wait
waits_not : (expected : Option ℕ) (waits : ℕ → Option Station) (place : ℕ → Place) (marks : ℕ → ℕ) (k : ℕ) (t : Station)
    → ReturnsSafe expected waits place marks → place k ≢ Place.Quarantine → waits k ≡ Some t → ⊥
waits_not expected waits place marks k t o n h = n (o.there k t h)

-- a plate that isn't in quarantine comes to v
pub returns_placed : (expected : Option ℕ) (waits : ℕ → Option Station) (place : ℕ → Place) (marks : ℕ
    → ℕ) (k : ℕ) (v : Place) → ReturnsSafe expected waits place marks → place k ≢ Place.Quarantine
    → ReturnsSafe expected waits (placed_at k v place) marks
returns_placed expected waits place marks k v o n =
    record { there = λ j t h. go j t h (cases_eq j k); unforged = o.unforged; due = o.due }
  where
    go : (j : ℕ) (t : Station) → waits j ≡ Some t → (j ≡ k) ⊎ (j ≡ k → ⊥) → placed_at k v place j ≡ Place.Quarantine
    go j t h (inl e) = let i : waits k ≡ Some t = rw e at h in absurd (waits_not expected waits place marks k t o n i)
    go j t h (inr ne) = placed_other k v place j ne ∙ o.there j t h

-- a plate that isn't in quarantine is forged
pub returns_forged : (expected : Option ℕ) (waits : ℕ → Option Station) (place : ℕ → Place) (marks : ℕ → ℕ) (k : ℕ)
    → ReturnsSafe expected waits place marks → place k ≢ Place.Quarantine
    → ReturnsSafe expected waits place (forged_at k marks)
returns_forged expected waits place marks k o n =
    record { there = o.there; unforged = λ j t h b. go j t h b (cases_eq j k); due = o.due }
  where
    go : (j : ℕ) (t : Station) → waits j ≡ Some t → is_before_press t ≡ true → (j ≡ k) ⊎ (j ≡ k → ⊥)
        → forged_at k marks j ≡ 0
    go j t h b (inl e) = let i : waits k ≡ Some t = rw e at h in absurd (waits_not expected waits place marks k t o n i)
    go j t h b (inr ne) = forged_other k j marks ne ∙ o.unforged j t h b

-- the station from which plate k waits, after one more entry on it
waits_same : (waits : ℕ → Option Station) (k : ℕ) (w : Option Station) → with_at (λ (j : ℕ). k == j) w waits k ≡ w
waits_same waits k w = let e : (k == k) ≡ true = eq-eqb k k refl in rw e

waits_other : (waits : ℕ → Option Station) (k : ℕ) (w : Option Station) (j : ℕ) → j ≢ k
    → with_at (λ (i : ℕ). k == i) w waits j ≡ waits j
waits_other waits k w j n = let e : (k == j) ≡ false = ne_eqb k j (λ d. n (sym d)) in rw e

-- a plate is cleared from src into quarantine
pub returns_cleared : (expected : Option ℕ) (waits : ℕ → Option Station) (place : ℕ → Place) (marks : ℕ
    → ℕ) (k : ℕ) (src : Station) → ReturnsSafe expected waits place marks → place k ≢ Place.Quarantine
    → (is_before_press src ≡ true → marks k ≡ 0)
    → ReturnsSafe expected (with_at (λ (j : ℕ). k == j) (Some src) waits) (placed_at k Place.Quarantine place) marks
returns_cleared expected waits place marks k src o n z =
    record {
      there = λ j t h. go j t h (cases_eq j k);
      unforged = λ j t h b. marked j t h b (cases_eq j k);
      due = λ j e.
          let d = o.due j e in
          let ne : j ≢ k = λ i. n (ap place (sym i) ∙ o.there j d.from d.waits_there) in
          record {
            from = d.from;
            waits_there = waits_other waits k (Some src) j ne ∙ d.waits_there;
            before =
                d.before;
          };
    }
  where
    go : (j : ℕ) (t : Station) → with_at (λ (i : ℕ). k == i) (Some src) waits j ≡ Some t → (j ≡ k) ⊎ (j ≡ k → ⊥)
        → placed_at k Place.Quarantine place j ≡ Place.Quarantine
    go j t h (inl e) = rw e (placed_same k Place.Quarantine place)
    go j t h (inr ne) = placed_other k Place.Quarantine place j ne
        ∙ o.there j t (sym (waits_other waits k (Some src) j ne) ∙ h)

    marked : (j : ℕ) (t : Station) → with_at (λ (i : ℕ). k == i) (Some src) waits j ≡ Some t → is_before_press t ≡ true
        → (j ≡ k) ⊎ (j ≡ k → ⊥) → marks j ≡ 0
    marked j t h b (inl e) =
        let g : with_at (λ (i : ℕ). k == i) (Some src) waits k ≡ Some t = rw e at h in
        let s : Some src ≡ Some t = sym (waits_same waits k (Some src)) ∙ g in
        let i : src ≡ t = cc in
        let c : is_before_press src ≡ true = rw (← i) at b in
        rw e (z c)
    marked j t h b (inr ne) = o.unforged j t (sym (waits_other waits k (Some src) j ne) ∙ h) b

-- a plate that waits from before a press is expected
pub due_told : (waits : ℕ → Option Station) (k : ℕ) → is_none (waits k) ≡ false → waits_behind (waits k) ≡ false
    → Due waits k
due_told waits k h b = go (waits k) refl h b
  where
    go : (w : Option Station) → waits k ≡ w → is_none w ≡ false → waits_behind w ≡ false → Due waits k
    go None e h b = cc
    go (Some t) e h b = record { from = t; waits_there = e; before = not_false (is_before_press t) b }

pub returns_expected : (expected : Option ℕ) (waits : ℕ → Option Station) (place : ℕ → Place) (marks : ℕ → ℕ) (k : ℕ)
    → ReturnsSafe expected waits place marks → Due waits k → ReturnsSafe (Some k) waits place marks
returns_expected expected waits place marks k o d =
    record { there = o.there; unforged = o.unforged; due = λ j e. let i : k ≡ j = cc in rw i at d }

-- the expected plate is in quarantine, and was never forged
pub expected_there : (expected : Option ℕ) (waits : ℕ → Option Station) (place : ℕ → Place) (marks : ℕ → ℕ) (k : ℕ)
    → ReturnsSafe expected waits place marks → expected ≡ Some k → place k ≡ Place.Quarantine
expected_there expected waits place marks k o e = let d = o.due k e in o.there k d.from d.waits_there

pub expected_unforged : (expected : Option ℕ) (waits : ℕ → Option Station) (place : ℕ → Place) (marks : ℕ → ℕ) (k : ℕ)
    → ReturnsSafe expected waits place marks → expected ≡ Some k → marks k ≡ 0
expected_unforged expected waits place marks k o e = let d = o.due k e in o.unforged k d.from d.waits_there d.before

-- a plate is laid back, and none is expected
pub returns_back : (expected : Option ℕ) (waits : ℕ → Option Station) (place : ℕ → Place) (marks : ℕ
    → ℕ) (k : ℕ) (v : Place) → ReturnsSafe expected waits place marks
    → ReturnsSafe None (with_at (λ (j : ℕ). k == j) None waits) (placed_at k v place) marks
returns_back expected waits place marks k v o =
    record {
      there = λ j t h. go j t h (cases_eq j k);
      unforged = λ j t h b. marked j t h b (cases_eq j k);
      due = λ j e. cc;
    }
  where
    go : (j : ℕ) (t : Station) → with_at (λ (i : ℕ). k == i) None waits j ≡ Some t → (j ≡ k) ⊎ (j ≡ k → ⊥)
        → placed_at k v place j ≡ Place.Quarantine
    go j t h (inl e) =
        let g : with_at (λ (i : ℕ). k == i) None waits k ≡ Some t = rw e at h in
        let n : None ≡ Some t = sym (waits_same waits k None) ∙ g in
        cc
    go j t h (inr ne) = placed_other k v place j ne ∙ o.there j t (sym (waits_other waits k None j ne) ∙ h)

    marked : (j : ℕ) (t : Station) → with_at (λ (i : ℕ). k == i) None waits j ≡ Some t → is_before_press t ≡ true
        → (j ≡ k) ⊎ (j ≡ k → ⊥) → marks j ≡ 0
    marked j t h b (inl e) =
        let g : with_at (λ (i : ℕ). k == i) None waits k ≡ Some t = rw e at h in
        let n : None ≡ Some t = sym (waits_same waits k None) ∙ g in
        cc
    marked j t h b (inr ne) = o.unforged j t (sym (waits_other waits k None j ne) ∙ h) b
