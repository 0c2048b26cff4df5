-- What is delivered at the end
use Rattle.std.proofs.Common.{◌≡◌, ℕ, ◌+◌, ◌≤◌, Bool, true, false, ◌&&◌, ◌||◌, not, List, [], ◌∷◌, refl, ◌∙◌}
use Rattle.std.proofs.Common.{arith}
use Rattle.std.proofs.Common.{inl}
use Rattle.std.specs.Prelude.{nat_lt}
use Rattle.std.proofs.lemmas.Bool.Decides.{nat_tests}
use Rattle.cell_types.specs.declared.words.Machine.{Machine}
use Rattle.cell_types.specs.declared.words.Station.{Station}
use Rattle.cell_types.specs.declared.words.Entry.{Entry}
use Rattle.cell_types.specs.declared.words.Entry.TheVariants.{Quarantined}
use Rattle.cell_types.specs.After.{Snapshot, opening, after, after_from, step}
use Rattle.cell_useful.specs.Moves.{acts_of, is_left, is_nil, is_finished}
use Rattle.cell_progress.specs.Orders.{cell_of, may_after, may_then, IsPossible, IsOnePress, EndsWhole}
use Rattle.cell_progress.specs.Rank.{weight}
use Rattle.cell_progress.proofs.Happening.{is_service, no_service}
use Rattle.cell_progress.proofs.States.{Done, Served, unserved_done, served_done, not_both}
use Rattle.cell_progress.proofs.Taken.{taken}
use Rattle.cell_progress.proofs.Counted.{plates_at}
use Rattle.cell_progress.proofs.Onward.{kept, finished_nil, one_fails, whole_after, few_after}

-- without an operator no plate is cleared
none_cleared : (s : Snapshot) (plan : ℕ) (may : Machine → Bool) (es : List Entry) → IsPossible plan false may s es
    → (after_from s es).quarantined ≡ s.quarantined
none_cleared s plan may [] h = refl
none_cleared s plan may (e ∷ es) h =
    none_cleared (step e s) plan (may_after e may) es h.1 ∙ one e (no_service plan may (cell_of s) e h.0)
  where
    one : (e : Entry) → is_service e ≡ false → (step e s).quarantined ≡ s.quarantined
    one (Quarantined k t) n = cc
    one _ n = refl

-- without an operator at most one plate is there at the end, in the press that failed
plates_last : (s : Snapshot) (plan : ℕ) → Done s plan → plates_at (taken s)
    ≡ weight 1 (taken s Station.Press1) + weight 1 (taken s Station.Press2)
plates_last s plan d = rw (d.front, d.back, d.table, d.one, d.two, d.dep_front, d.dep_back) (omega arith)

module _ (plan : ℕ) (may : Machine → Bool) (es : List Entry) (p : plan ≤ 100000) (o : IsOnePress may)
    (h : IsPossible plan false may opening es) (f : is_finished plan false (cell_of (after es)) ≡ true) where
  fails : IsOnePress (after es).failed
  fails = one_fails may (may_then es may) (after es).failed o (few_after plan false may es h)

  last : Done (after es) plan
  last =
      let s = after es in
      unserved_done s plan p (kept plan s (whole_after plan false may es h)) fails
      (finished_nil (is_left plan (cell_of s)) (is_nil (acts_of plan false (cell_of s))) f)

  -- all but the plates in failed presses are delivered
  delivered_but : plan ≡ (after es).delivered
      + (weight 1 (taken (after es) Station.Press1) + weight 1 (taken (after es) Station.Press2))
  delivered_but =
      let s = after es in
      let c = (whole_after plan false may es h).counted in
      sums s.admitted s.delivered s.quarantined (plates_at (taken s)) _ c.sum c.most last.admitted
      (none_cleared opening plan may es h) (plates_last s plan last)
    where
      sums : (a d q x y : ℕ) → a ≡ (d + q) + x → a ≤ plan → nat_lt a plan ≡ false → q ≡ 0 → x ≡ y → plan ≡ d + y
      sums a d q x y h i j k l = let m : plan ≤ a = grind (arith, nat_tests) in omega arith

-- of the plan all plates but one at most
pub delivered_law : (plan : ℕ) (may : Machine → Bool) (es : List Entry) → plan ≤ 100000 → IsOnePress may
    → IsPossible plan false may opening es → is_finished plan false (cell_of (after es)) ≡ true
    → (plan ≤ (after es).delivered + 1) × ((after es).delivered ≤ plan)
delivered_law plan may es p o h f =
    let s = after es in
    let d = last plan may es p o h f in
    let m = most (taken s Station.Press1) (taken s Station.Press2) (s.failed Machine.Press1) (s.failed Machine.Press2)
    d.press1 d.press2 (not_both s.failed (fails plan may es p o h f)) in
    let e = delivered_but plan may es p o h f in (omega arith, omega arith)
  where
    most : (a b f g : Bool) → (a && not f) ≡ false → (b && not g) ≡ false → (f ≡ true → g ≡ true → ⊥)
        → weight 1 a + weight 1 b ≤ 1
    most a b true true h i n = absurd (n refl refl)
    most a b f g h i n = grind arith

-- and all of them, if nothing may fail
pub all_delivered_law : (plan : ℕ) (may : Machine → Bool) (es : List Entry) → plan ≤ 100000
    → ((m : Machine) → may m ≡ false) → IsPossible plan false may opening es
    → is_finished plan false (cell_of (after es)) ≡ true → (after es).delivered ≡ plan
all_delivered_law plan may es p q h f =
    let o : IsOnePress may = (Machine.Press1, inl refl, λ m e. absurd (never (may m) (q m) e)) in
    let s = after es in
    let d = last plan may es p o h f in
    let w = few_after plan false may es h in
    let n : weight 1 (taken s Station.Press1) + weight 1 (taken s Station.Press2) ≡ 0 =
    none (taken s Station.Press1) (taken s Station.Press2) (s.failed Machine.Press1) (s.failed Machine.Press2)
    (may Machine.Press1) (may Machine.Press2) _ _ d.press1 d.press2 (q Machine.Press1) (q Machine.Press2)
    (w Machine.Press1) (w Machine.Press2) in
    let e = delivered_but plan may es p o h f in omega arith
  where
    never : (b : Bool) → b ≡ false → b ≡ true → ⊥
    never b e f = cc

    none : (a b f g m n x y : Bool) → (a && not f) ≡ false → (b && not g) ≡ false → m ≡ false → n ≡ false
        → ((x || f) ≡ true → m ≡ true) → ((y || g) ≡ true → n ≡ true) → weight 1 a + weight 1 b ≡ 0
    none a b f g m n x y h i j k v w = grind arith

-- with an operator who serves all are delivered or cleared
pub ends_whole : (plan : ℕ) (may : Machine → Bool) (es : List Entry) → plan ≤ 100000
    → IsPossible plan true may opening es → is_finished plan true (cell_of (after es)) ≡ true
    → EndsWhole plan (after es)
ends_whole plan may es p h f =
    let s = after es in
    let w = whole_after plan true may es h in
    let d : Served s plan = served_done s plan p (kept plan s w)
    (finished_nil (is_left plan (cell_of s)) (is_nil (acts_of plan true (cell_of s))) f) in
    let n : plates_at (taken s) ≡ 0 = plates_last s plan d.done ∙ rw (d.empty Station.Press1, d.empty Station.Press2) in
    record {
      healthy = d.healthy;
      empty = d.empty;
      counted = sums s.admitted (s.delivered + s.quarantined) (plates_at (taken s)) w.counted.sum w.counted.most
          d.done.admitted n;
    }
  where
    sums : (a d x : ℕ) → a ≡ d + x → a ≤ plan → nat_lt a plan ≡ false → x ≡ 0 → d ≡ plan
    sums a d x h i j k = let m : plan ≤ a = grind (arith, nat_tests) in omega arith
