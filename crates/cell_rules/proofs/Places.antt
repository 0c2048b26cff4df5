-- Where the plates of a legal journal may be
use Rattle.std.proofs.Common.{◌≡◌, ◌≢◌, ℕ, ◌+◌, ◌≤◌, ◌<◌, Bool, true, false, ◌==◌, List, [], ◌∷◌, ◌++◌, Option, Some}
use Rattle.std.proofs.Common.{None, refl, sym, ap, ◌∙◌, arith, ◌⊎◌, if◌then◌else◌}
use Rattle.std.specs.Prelude.{unwrap_or, nat_le}
use Rattle.std.specs.Option.{option_and_then}
use Rattle.std.specs.List.{count_by}
use Rattle.std.proofs.lemmas.Bool.Decides.{nat_tests}
use Rattle.cell_types.specs.declared.words.Place.{Place}
use Rattle.cell_types.specs.declared.words.Entry.{Entry}
use Rattle.cell_types.specs.declared.words.Entry.TheVariants.{Admitted, Conveyed}
use Rattle.cell_types.specs.declared.cell.BeltMotion.{BeltMotion}
use Rattle.cell_types.specs.Cell.{motion_to}
use Rattle.cell_types.specs.After.{after}
use Rattle.cell_rules.specs.Last.{when}
use Rattle.cell_rules.specs.Situations.{situation_of}
use Rattle.cell_rules.specs.Views.{Placing, placing, puts, place_of, source, start_of, is_admitted}
use Rattle.cell_rules.specs.declared.limits.BookLimits.{BookLimits}
use Rattle.cell_rules.specs.First.{first, tests}
use Rattle.cell_rules.specs.Legal.{allowed, legal}
use Rattle.cell_rules.proofs.Safe.Facts.{none_refused, is_none_tells}
use Rattle.cell_rules.proofs.Safe.Views.{view_snoc, count_snoc}
use Rattle.cell_rules.proofs.Safe.Bridge.{Good, good_when_legal, along}
use Rattle.cell_rules.proofs.Safe.Safety.{safe_entry}

pub full_not : (n m : ℕ) → nat_le n m ≡ false → m < n
full_not n m h = grind (arith, nat_tests)

-- no more plates are admitted than the limit says
limit_step : (l : BookLimits) (J : List Entry) (e : Entry) → count_by is_admitted J ≤ l.plates
    → first l (situation_of J) e ≡ None → (if is_admitted e then count_by is_admitted J + 1 else count_by is_admitted J)
    ≤ l.plates
limit_step l J (Admitted k) n h = let p : count_by is_admitted J < l.plates =
    full_not _ _ (none_refused (tests l (situation_of J) (Admitted k)) h).1.0 in omega arith
limit_step l J _ n h = n

pub admitted_law : (l : BookLimits) (J : List Entry) → legal l J ≡ true → count_by is_admitted J ≤ l.plates
admitted_law l = along l (λ J. count_by is_admitted J ≤ l.plates) (omega arith)
    (λ J e g n a. rw (count_snoc is_admitted J e) (limit_step l J e n (is_none_tells (first l (situation_of J) e) a)))

-- a plate that is somewhere is one of those that the limit allows
split : (k n : ℕ) → ((k ≡ 0) ⊎ (n + 1 ≤ k) → ⊥) → (1 ≤ k) × (k ≤ n)
split k n h = grind arith

pub somewhere_small : (l : BookLimits) (J : List Entry) (k : ℕ) → legal l J ≡ true → place_of J k ≢ Place.Nowhere
    → (1 ≤ k) × (k ≤ l.plates)
somewhere_small l J k h n =
    let g = good_when_legal l J h in
    let r = split k (after J).admitted (λ o. n (g.safe.plates.outside k o)) in
    let c : count_by is_admitted J ≤ l.plates = admitted_law l J h in
    let e : count_by is_admitted J ≡ (after J).admitted = g.agrees.admitted in
    (r.0, omega (arith, r.1, c, e))

-- a delivered plate doesn't come back
start_at : (o : Option BeltMotion) → start_of o ≢ Place.Delivered
start_at None e = cc
start_at (Some m) e = cc

pub source_inside : (e : Entry) → source e ≢ Place.Delivered
source_inside (Conveyed a k dest) = start_at (motion_to a dest)
source_inside _ = λ e. cc

-- the entry puts another plate, or none
put_case : (o : Option Placing) (k : ℕ) (v x : Place) → ((p : Placing) → o ≡ Some p → p.plate ≡ k → ⊥) → x ≡ v
    → unwrap_or (option_and_then (λ (p : Placing). when (p.plate == k) p.goes) o) x ≡ v
put_case None k v x n e = e
put_case (Some p) k v x n e = go (p.plate == k) refl
  where
    go : (b : Bool) → (p.plate == k) ≡ b → unwrap_or (when b p.goes) x ≡ v
    go true t = absurd (n p refl (grind (arith, nat_tests)))
    go false t = e

-- a plate stays where no entry takes one from
pub stays : (l : BookLimits) (J : List Entry) (e : Entry) (k : ℕ) (v : Place) → Good J → allowed l J e ≡ true
    → source e ≢ v → place_of J k ≡ v → place_of (J ++ e ∷ []) k ≡ v
stays l J e k v g a n h =
    let s = safe_entry l J e g a in
    rw (view_snoc (puts k) Place.Nowhere J e)
    (put_case (placing e) k v (place_of J k) (λ p i j. n (sym (s.from p i) ∙ ap (place_of J) j ∙ h)) h)

put_there : (o : Option Placing) (k : ℕ) (v x : Place)
    → (let p : Placing = record { plate = k; goes = v } in o ≡ Some p)
    → unwrap_or (option_and_then (λ (p : Placing). when (p.plate == k) p.goes) o) x ≡ v
put_there o k v x e = let t : (k == k) ≡ true = grind (arith, nat_tests) in rw (e, t) refl

-- the plate of an entry that puts it somewhere is there
pub comes : (J : List Entry) (e : Entry) (k : ℕ) (v : Place)
    → (let p : Placing = record { plate = k; goes = v } in placing e ≡ Some p) → place_of (J ++ e ∷ []) k ≡ v
comes J e k v h = rw (view_snoc (puts k) Place.Nowhere J e) (put_there (placing e) k v (place_of J k) h)

-- no entry puts its plate nowhere
pub goes_somewhere : (e : Entry) (p : Placing) → placing e ≡ Some p → p.goes ≢ Place.Nowhere
goes_somewhere e p h n = grind arith
