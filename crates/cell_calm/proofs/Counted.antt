-- At the end of a run that is done all plates are delivered, and each was forged once
use Rattle.std.proofs.Common.{◌≡◌, ◌≢◌, ◌≤◌, ◌+◌, ◌⊎◌, inl, inr, ℕ, zero, suc, Bool, true, false, Option, Some}
use Rattle.std.proofs.Common.{None, List, [], ◌∷◌, refl, sym, ap, ◌∙◌, subst, append-nil, arith}
use Rattle.std.specs.Prelude.{◌==◌, cond, is_none, is_some, nat_lt}
use Rattle.std.specs.List.{count_by}
use Rattle.std.proofs.lemmas.Bool.Decides.{nat_tests}
use Rattle.std.proofs.lemmas.List.Sums.{sum_by-cons}
use Rattle.cell_types.specs.declared.words.Entry.{Entry}
use Rattle.cell_types.specs.declared.words.Entry.TheVariants.{Forged}
use Rattle.cell_types.specs.declared.words.Machine.{Machine}
use Rattle.cell_types.specs.declared.words.Place.{Place}
use Rattle.cell_types.specs.declared.words.Place.TheVariants as place
use Rattle.cell_types.specs.declared.words.Station.{Station}
use Rattle.cell_types.specs.After.{after}
use Rattle.cell_rules.specs.Situations.{Situation}
use Rattle.cell_rules.specs.Safety.{SafeState, is_forged_as}
use Rattle.cell_rules.specs.Views.{count_of, is_forged, place_of, plate_of, waits_of}
use Rattle.cell_rules.specs.declared.limits.BookLimits.{BookLimits}
use Rattle.cell_rules.proofs.Safe.Bridge.{good_prefix}
use Rattle.cell_rules.proofs.Safe.Facts.{axes_of}
use Rattle.cell_rules.proofs.Safe.Plates.{Counted}
use Rattle.cell_rules.proofs.Safe.Safety.{safe_when_legal}
use Rattle.cell_rules.proofs.Safe.Told.{told_when_legal}
use Rattle.cell_workers.specs.Ends.{IsDone}
use Rattle.cell_calm.proofs.Finished.{none_of}
use Rattle.cell_calm.proofs.Tame.{Tame}

-- SUMS

-- of the numbers from 1 on
abbrev sum_to : ℕ → (ℕ → ℕ) → ℕ
sum_to zero f = 0
sum_to (suc n) f = sum_to n f + f (suc n)

sum_same : (n : ℕ) (f g : ℕ → ℕ) → ((k : ℕ) → f k ≡ g k) → sum_to n f ≡ sum_to n g
sum_same zero f g h = refl
sum_same (suc n) f g h = let a = sum_same n f g h in let b = h (suc n) in rw (a, b) refl

-- one of them is one more
abbrev one_if : Bool → ℕ
one_if b = cond b 1 0

abbrev bumped : ℕ → (ℕ → ℕ) → ℕ → ℕ
bumped j f k = one_if (j == k) + f k

same_number : (j k : ℕ) (b : Bool) → (j == k) ≡ b → j ≢ k → one_if (j == k) ≡ 0
same_number j k true h d = absurd (d (grind (arith, nat_tests)))
same_number j k false h d = rw h refl

sum_past : (n j : ℕ) (f : ℕ → ℕ) → n + 1 ≤ j → sum_to n (bumped j f) ≡ sum_to n f
sum_past zero j f h = refl
sum_past (suc n) j f h =
    let a = sum_past n j f (omega (arith, h)) in
    let b = same_number j (suc n) (j == suc n) refl (λ e. let x : j ≡ suc n = e in omega (arith, h, x)) in
    omega (arith, a, b)

sum_bumped : (n j : ℕ) (f : ℕ → ℕ) → 1 ≤ j → j ≤ n → sum_to n (bumped j f) ≡ sum_to n f + 1
sum_bumped zero j f low high = absurd (omega (arith, low, high))
sum_bumped (suc n) j f low high = by (j == suc n) refl (λ less. sum_bumped n j f low less)
  where
    by : (b : Bool) → (j == suc n) ≡ b → (j ≤ n → sum_to n (bumped j f) ≡ sum_to n f + 1)
        → sum_to (suc n) (bumped j f) ≡ sum_to (suc n) f + 1
    by true h before =
        let is : j ≡ suc n = grind (arith, nat_tests) in
        let a = sum_past n j f (omega (arith, is)) in
        let b : one_if (j == suc n) ≡ 1 = rw h refl in
        omega (arith, a, b)
    by false h before =
        let less : j ≤ n = grind (arith, nat_tests) in
        let a = before less in
        let b : one_if (j == suc n) ≡ 0 = rw h refl in
        omega (arith, a, b)

sum_ones : (n : ℕ) (f : ℕ → ℕ) → ((k : ℕ) → 1 ≤ k → k ≤ n → f k ≡ 1) → sum_to n f ≡ n
sum_ones zero f h = refl
sum_ones (suc n) f h =
    let a = sum_ones n f (λ k low high. h k low (omega (arith, high))) in
    let b = h (suc n) (omega arith) (omega arith) in
    omega (arith, a, b)

sum_none : (n : ℕ) (f : ℕ → ℕ) → ((k : ℕ) → f k ≡ 0) → sum_to n f ≡ 0
sum_none zero f h = refl
sum_none (suc n) f h = let a = sum_none n f h in let b = h (suc n) in rw (a, b) refl

-- HOW OFTEN IT WAS FORGED, OVER ALL PLATES

abbrev times : List Entry → ℕ → ℕ
times J k = count_by (is_forged_as k) J

count_cons : (p : Entry → Bool) (e : Entry) (J : List Entry) → count_by p (e ∷ J) ≡ one_if (p e) + count_by p J
count_cons p e J = sum_by-cons (λ x. cond (p x) 1 0) e J

-- of no other plates than the first n
abbrev OfFirst : ℕ → List Entry → Type 0
OfFirst n J = (k : ℕ) → (k ≡ 0) ⊎ (n + 1 ≤ k) → times J k ≡ 0

first_then : (n : ℕ) (e : Entry) (J : List Entry) → OfFirst n (e ∷ J) → OfFirst n J
first_then n e J h k out = none_left (is_forged_as k e) (times J k) (sym (count_cons (is_forged_as k) e J) ∙ h k out)
  where
    none_left : (b : Bool) (c : ℕ) → one_if b + c ≡ 0 → c ≡ 0
    none_left true c g = absurd (omega (arith, g))
    none_left false c g = omega (arith, g)

same_as : (j : ℕ) → (j == j) ≡ true
same_as j = grind (arith, nat_tests)

its_own : (m : Machine) (j : ℕ) (J : List Entry) → times (Forged m j ∷ J) j ≡ 1 + times J j
its_own m j J = count_cons (is_forged_as j) (Forged m j) J ∙ ap (λ (b : Bool). one_if b + times J j) (same_as j)

within_first : (n : ℕ) (m : Machine) (j : ℕ) (J : List Entry) → OfFirst n (Forged m j ∷ J) → (1 ≤ j) × (j ≤ n)
within_first n m j J h = by (nat_lt 0 j) (nat_lt n j) refl refl
  where
    never : (j ≡ 0) ⊎ (n + 1 ≤ j) → ⊥
    never out = let a = its_own m j J in let b = h j out in omega (arith, a, b)

    by : (b c : Bool) → nat_lt 0 j ≡ b → nat_lt n j ≡ c → (1 ≤ j) × (j ≤ n)
    by false c g i = absurd (never (inl (grind (arith, nat_tests))))
    by true true g i = absurd (never (inr (grind (arith, nat_tests))))
    by true false g i = (grind (arith, nat_tests), grind (arith, nat_tests))

forged_or_not : (e : Entry)
    → ((m : Machine) × (j : ℕ) × (e ≡ Forged m j))
    ⊎ ((is_forged e ≡ false) × ((k : ℕ) → is_forged_as k e ≡ false))
forged_or_not (Forged m j) = inl (m, j, refl)
forged_or_not _ = inr (refl, λ k. refl)

all_times : (n : ℕ) (J : List Entry) → OfFirst n J → count_by is_forged J ≡ sum_to n (times J)
all_times n [] h = sym (sum_none n (times []) (λ k. refl))
all_times n (e ∷ J) h = by (forged_or_not e) (all_times n J (first_then n e J h))
  where
    plus_one : (i : ℕ) → 1 + i ≡ i + 1
    plus_one i = omega arith

    nothing_more : (i : ℕ) → 0 + i ≡ i
    nothing_more i = omega arith

    by : ((m : Machine) × (j : ℕ) × (e ≡ Forged m j))
        ⊎ ((is_forged e ≡ false) × ((k : ℕ) → is_forged_as k e ≡ false)) → count_by is_forged J ≡ sum_to n (times J)
        → count_by is_forged (e ∷ J) ≡ sum_to n (times (e ∷ J))
    by (inl (m, j, is)) before =
        let range = within_first n m j J (subst (λ (x : Entry). OfFirst n (x ∷ J)) is h) in
        let more : sum_to n (times (e ∷ J)) ≡ sum_to n (times J) + 1 =
        ap (λ (x : Entry). sum_to n (times (x ∷ J))) is
        ∙ (sum_same n (times (Forged m j ∷ J)) (bumped j (times J))
        (λ k. count_cons (is_forged_as k) (Forged m j) J) ∙ sum_bumped n j (times J) range.0 range.1) in
        let one_more : count_by is_forged (e ∷ J) ≡ count_by is_forged J + 1 =
        ap (λ (x : Entry). count_by is_forged (x ∷ J)) is
        ∙ (count_cons is_forged (Forged m j) J ∙ plus_one (count_by is_forged J)) in
        one_more ∙ (ap (λ (i : ℕ). i + 1) before ∙ sym more)
    by (inr (other, never)) before =
        let same : sum_to n (times (e ∷ J)) ≡ sum_to n (times J) =
        sum_same n (times (e ∷ J)) (times J)
        (λ k. count_cons (is_forged_as k) e J
        ∙ (ap (λ (b : Bool). one_if b + times J k) (never k) ∙ nothing_more (times J k))) in
        count_cons is_forged e J ∙ (ap (λ (b : Bool). one_if b + count_by is_forged J) other
        ∙ (nothing_more (count_by is_forged J) ∙ (before ∙ sym same)))

-- A RUN THAT IS DONE

module _ (may : Machine → Bool) (l : BookLimits) (plan : ℕ) (J : List Entry) (c : Tame may l plan J)
    (done : IsDone plan J) where
  safe : SafeState J
  safe = (safe_when_legal l J c.legal).states J [] (append-nil J)

  counted : (k : ℕ) → place_of J k ≡ place.Nowhere → times J k ≡ 0
  counted k h =
      subst (λ (x : Place). Counted (axes_of (after J)) x (times J k)) h
      ((good_prefix l J [] (rw append-nil c.legal)).good.safe.plates.counted k)

  unforged : OfFirst plan J
  unforged k (inl h) = counted k (safe.nowhere_outside k (inl h))
  unforged k (inr h) =
      let few = done.admitted in counted k (safe.nowhere_outside k (inr (omega (arith, h, few))))

  none_at : (s : Station) → is_none (plate_of J s) ≡ true
  none_at s = none_of J s done.vacant

  pub delivered : (k : ℕ) → 1 ≤ k → k ≤ plan → place_of J k ≡ place.Delivered
  delivered k low high = by (place_of J k) refl
    where
      both : (o : Option ℕ) (k : ℕ) → is_none o ≡ true → o ≡ Some k → ⊥
      both None k g h = cc h
      both (Some j) k g h = cc g

      neither : (o : Option Station) → o ≡ None → is_some o ≡ true → ⊥
      neither None g h = cc h
      neither (Some s) g h = cc g

      by : (x : Place) → place_of J k ≡ x → place_of J k ≡ place.Delivered
      by place.Nowhere h =
          let few = done.admitted in absurd (safe.somewhere_inside k low (omega (arith, high, few)) h)
      by (place.At s) h =
          let told = told_when_legal l J c.legal in
          let there = (told.plate s k).1 h in
          absurd (both (plate_of J s) k (none_at s) (ap (λ (x : Situation). x.plate s) told.cell ∙ there))
      by place.Quarantine h =
          let told = told_when_legal l J c.legal in
          absurd (neither (waits_of J k) (ap (λ (x : Situation). x.waits k) told.cell ∙ c.still.unwaiting k)
          ((told.waiting k).1 h))
      by place.Delivered h = h

  pub all_forged : (count_of J).forged ≡ plan
  all_forged =
      all_times plan J unforged
      ∙ sum_ones plan (times J) (λ k low high. safe.delivered_forged k (delivered k low high))
