-- The laws for orders as the search of states tells them
use Rattle.std.proofs.Common.{◌≡◌, ℕ, ◌+◌, ◌*◌, ◌<◌, ◌≤◌, ◌==◌, Bool, true, false, List, [], ◌∷◌, refl, sym, arith}
use Rattle.std.proofs.Common.{Option, Some, None, subst, length, zero, suc}
use Rattle.std.specs.Prelude.{slice_index_or, slice_set, if◌then◌else◌}
use Rattle.std.specs.List.{Contains}
use Rattle.std.proofs.Math.Path.{fun_ext}
use Rattle.std.proofs.lemmas.Bool.Decides.{nat_tests}
use Rattle.cell_types.specs.declared.words.Machine.{Machine}
use Rattle.cell_types.specs.declared.words.Station.{Station}
use Rattle.cell_types.specs.declared.words.Entry.{Entry}
use Rattle.cell_types.specs.declared.words.Entry.TheVariants.{Declared, Forged}
use Rattle.cell_types.specs.Same.{machine_number}
use Rattle.cell_types.specs.After.{Snapshot, opening, step}
use Rattle.cell_machines.specs.Jobs.{has_job, has_job_in}
use Rattle.cell_machines.specs.Robot.{holds_a_zone}
use Rattle.cell_rules.proofs.Safe.Returns.{ReturnsSafe}
use Rattle.cell_useful.specs.Cells.{ahead, told, may_of}
use Rattle.cell_useful.specs.Changes.{leads_after, may_after as fewer_may}
use Rattle.cell_useful.specs.Moves.{is_stuck}
use Rattle.cell_useful.specs.Told.{Seen, cell_seen, can_happen, seen_after, told_after, opening_of}
use Rattle.cell_useful.specs.Told.{IsPossible as IsPossibleAs}
use Rattle.cell_progress.specs.Orders.{cell_of, may_after, IsOnePress}
use Rattle.cell_progress.specs.Rank.{rank, most_failures, has_work, is_there, is_turned_in}
use Rattle.cell_progress.proofs.Happening.{Happens, happens}
use Rattle.cell_progress.proofs.Own.{Few, few_step}
use Rattle.cell_progress.proofs.States.{not_stuck, served_not_stuck}
use Rattle.cell_progress.proofs.Whole.{Whole, whole_start, whole_step}
use Rattle.cell_progress.proofs.Falls.{falls}
use Rattle.cell_progress.proofs.Onward.{kept, few_start, one_fails}
use Rattle.cell_progress.proofs.Shortest.{longer, opening_rank}

-- the state with the numbers that are told
abbrev pub snap : Seen → Snapshot
snap x = record x.state { forged_by = ahead x.leads }

-- nothing of the invariants reads how many plates were forged, how many entries there are, nor, as no plate is laid
-- back, which plates wait in quarantine
abbrev other : Snapshot → (Machine → ℕ) → ℕ → ℕ → (ℕ → Option Station) → Snapshot
other s f n k q = record s { forged_by = f; entries = n; forged = k; waits = q }

same_whole : (plan : ℕ) (s : Snapshot) (f : Machine → ℕ) (n k : ℕ) (q : ℕ → Option Station)
    → ((j : ℕ) → q j ≡ None) → Whole plan s → Whole plan (other s f n k q)
same_whole plan s f n k q none w =
    let r = w.reached in
    let back : ReturnsSafe s.expected q r.place r.marks = record {
      there = λ j t e. absurd (not_both (q j) t (none j) e);
      unforged = λ j t e b. absurd (not_both (q j) t (none j) e);
      due = λ j e. absurd (not_expected s.expected j r.own.expected e);
    } in
    record {
      reached = record { place = r.place; marks = r.marks; inv = assumption; carried = r.carried; own = assumption };
      more = assumption;
      counted = assumption;
    }
  where
    not_both : (o : Option Station) (t : Station) → o ≡ None → o ≡ Some t → ⊥
    not_both o t e f = cc

    not_expected : (o : Option ℕ) (j : ℕ) → o ≡ None → o ≡ Some j → ⊥
    not_expected o j e f = cc

-- so an entry changes the same, but for what nothing reads
seen_whole : (plan : ℕ) (x : Seen) (e : Entry) → ((j : ℕ) → x.state.waits j ≡ None) → Whole plan (step e (snap x))
    → Whole plan (snap (seen_after x e))
seen_whole plan x (Forged m k) n w =
    same_whole plan (step (Forged m k) (snap x)) (ahead (leads_after (Forged m k) x.leads)) (x.state.entries + 1)
    (x.state.forged + 1) x.state.waits n w
seen_whole plan x e n w =
    same_whole plan (step e (snap x)) (ahead x.leads) (x.state.entries + 1) x.state.forged x.state.waits n w

-- the rank reads as little of it
seen_rank : (plan : ℕ) (may : Machine → Bool) (x : Seen) (e : Entry)
    → rank plan may (cell_of (snap (seen_after x e))) ≡ rank plan may (cell_of (step e (snap x)))
unfolding rank has_work is_there holds_a_zone has_job_in has_job is_turned_in
seen_rank plan may x (Forged m k) = refl
seen_rank plan may x e = refl

-- the list of those that may fail changes as the test does
set_at : (xs : List Bool) (n m : ℕ)
    → slice_index_or (slice_set xs n false) m false ≡ (if n == m then false else slice_index_or xs m false)
set_at [] n m = none_more (n == m)
  where
    none_more : (b : Bool) → false ≡ (if b then false else false)
    none_more b = grind arith
set_at (x ∷ xs) zero zero = refl
set_at (x ∷ xs) zero (suc m) = let e : (0 == suc m) ≡ false = grind (arith, nat_tests) in rw e
set_at (x ∷ xs) (suc n) zero = let e : (suc n == 0) ≡ false = grind (arith, nat_tests) in rw e
set_at (x ∷ xs) (suc n) (suc m) =
    let e : (suc n == suc m) ≡ (n == m) = grind (arith, nat_tests) in rw e (set_at xs n m)

may_same : (e : Entry) (l : List Bool) → may_of (fewer_may e l) ≡ may_after e (may_of l)
may_same (Declared m why) l = fun_ext (λ x. set_at l (machine_number m) (machine_number x))
may_same _ l = refl

-- what holds of the cell that is told
record Good (plan : ℕ) (first : Machine → Bool) (x : Seen) : Type 0 where
  whole : Whole plan (snap x)
  few : Few first (may_of x.may) x.state.failed
  none : (j : ℕ) → x.state.waits j ≡ None

good_start : (plan : ℕ) (may : List Bool) → Good plan (may_of may) (opening_of may)
good_start plan may =
    record {
      whole = same_whole plan opening (ahead (0 ∷ 0 ∷ [])) 0 0 (λ k. None) (λ k. refl) (whole_start plan);
      few = few_start (may_of may);
      none = λ j. refl;
    }

module _ (plan : ℕ) (serves : Bool) (first : Machine → Bool) where
  pub reason : (x : Seen) (e : Entry) → Contains (can_happen plan serves x) e
      → Happens plan (may_of x.may) (cell_of (snap x)) e
  unfolding told
  reason x e h = happens plan serves (may_of x.may) (cell_of (snap x)) e h

  good_step : (x : Seen) (e : Entry) → Good plan first x → Contains (can_happen plan serves x) e
      → Good plan first (seen_after x e)
  good_step x e g h =
      let i = reason x e h in
      record {
        whole = seen_whole plan x e g.none (whole_step plan (may_of x.may) (snap x) e g.whole i);
        few = subst (λ (m : Machine → Bool). Few first m (seen_after x e).state.failed) (sym (may_same e x.may))
            (few_seen e (few_step plan first (may_of x.may) (snap x) e i g.few));
        none = g.none;
      }
    where
      few_seen : (e : Entry) → Few first (may_after e (may_of x.may)) (step e (snap x)).failed
          → Few first (may_after e (may_of x.may)) (step e x.state).failed
      few_seen (Forged m k) w = w
      few_seen e w = w

  good_from : (x : Seen) (es : List Entry) → Good plan first x → IsPossibleAs plan serves x es
      → Good plan first (told_after x es)
  good_from x [] g h = g
  good_from x (e ∷ es) g h = good_from (seen_after x e) es (good_step x e g h.0) h.1

  seen_falls : (x : Seen) (e : Entry) → Good plan first x → Contains (can_happen plan serves x) e
      → rank plan (may_of (seen_after x e).may) (cell_of (snap (seen_after x e)))
      < rank plan (may_of x.may) (cell_of (snap x))
  seen_falls x e g h =
      subst (λ (m : Machine → Bool). rank plan m (cell_of (snap (seen_after x e)))
      < rank plan (may_of x.may) (cell_of (snap x))) (sym (may_same e x.may))
      (rw (seen_rank plan (may_after e (may_of x.may)) x e)
      (falls plan (may_of x.may) (snap x) e g.whole (reason x e h)))

  bounded : (x : Seen) (es : List Entry) → Good plan first x → IsPossibleAs plan serves x es
      → length es + rank plan (may_of (told_after x es).may) (cell_of (snap (told_after x es)))
      ≤ rank plan (may_of x.may) (cell_of (snap x))
  bounded x [] g h = omega arith
  bounded x (e ∷ es) g h =
      let y = seen_after x e in
      longer (length es) (rank plan (may_of (told_after y es).may) (cell_of (snap (told_after y es))))
      (rank plan (may_of y.may) (cell_of (snap y))) (rank plan (may_of x.may) (cell_of (snap x)))
      (bounded y es (good_step x e g h.0) h.1) (seen_falls x e g h.0)

pub seen_never_stuck : (plan : ℕ) (may : List Bool) (es : List Entry) → plan ≤ 100000 → IsOnePress (may_of may)
    → IsPossibleAs plan false (opening_of may) es
    → is_stuck plan false (cell_seen (told_after (opening_of may) es)) ≡ false
unfolding told
seen_never_stuck plan may es p o h =
    let x = told_after (opening_of may) es in
    let g = good_from plan false (may_of may) (opening_of may) es (good_start plan may) h in
    not_stuck (snap x) plan p (kept plan (snap x) g.whole)
    (one_fails (may_of may) (may_of x.may) x.state.failed o g.few)

pub seen_served : (plan : ℕ) (may : List Bool) (es : List Entry) → plan ≤ 100000
    → IsPossibleAs plan true (opening_of may) es
    → is_stuck plan true (cell_seen (told_after (opening_of may) es)) ≡ false
unfolding told
seen_served plan may es p h =
    let x = told_after (opening_of may) es in
    let g = good_from plan true (may_of may) (opening_of may) es (good_start plan may) h in
    served_not_stuck (snap x) plan p (kept plan (snap x) g.whole)

same_opening : (plan : ℕ) (may : List Bool)
    → rank plan (may_of may) (cell_of (snap (opening_of may))) ≡ rank plan (may_of may) (cell_of opening)
unfolding rank has_work is_there holds_a_zone has_job_in has_job is_turned_in
same_opening plan may = refl

pub seen_short : (plan : ℕ) (serves : Bool) (may : List Bool) (es : List Entry)
    → IsPossibleAs plan serves (opening_of may) es → length es ≤ (76 * plan + 9) + most_failures (may_of may)
seen_short plan serves may es h =
    let x = told_after (opening_of may) es in
    let b = bounded plan serves (may_of may) (opening_of may) es (good_start plan may) h in
    sums (length es) (rank plan (may_of x.may) (cell_of (snap x))) (rank plan (may_of may) (cell_of opening))
    ((76 * plan + 9) + most_failures (may_of may)) (rw same_opening at b) (opening_rank plan (may_of may))
  where
    sums : (n a b c : ℕ) → n + a ≤ b → b ≤ c → n ≤ c
    sums n a b c h i = omega arith
