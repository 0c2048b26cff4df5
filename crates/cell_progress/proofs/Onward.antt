-- Nothing that can be reached is stuck, and so forging goes on from there to its end
use Rattle.std.proofs.Common.{◌≡◌, ℕ, ◌<◌, ◌≤◌, Bool, true, false, ◌&&◌, ◌||◌, not, List, [], ◌∷◌, refl}
use Rattle.std.proofs.Common.{sym, ap, ◌∙◌, arith, subst, zero, suc}
use Rattle.std.specs.List.{Contains}
use Rattle.std.proofs.lemmas.List.Elements.{Contains-append_left}
use Rattle.cell_types.specs.declared.words.Machine.{Machine}
use Rattle.cell_types.specs.declared.words.Entry.{Entry}
use Rattle.cell_types.specs.declared.words.Entry.TheVariants.{Declared}
use Rattle.cell_types.specs.After.{Snapshot, opening, after, after_from, step}
use Rattle.cell_rules.specs.Situations.{Situation}
use Rattle.cell_useful.specs.Moves.{entries_of, acts_of, is_left, is_nil, is_stuck}
use Rattle.cell_useful.specs.Events.{failures_of}
use Rattle.cell_progress.specs.Orders.{cell_of, may_after, may_then, IsPossible, IsOnePress, GoesOn}
use Rattle.cell_progress.specs.Rank.{rank}
use Rattle.cell_progress.proofs.Happening.{happens, declared_may}
use Rattle.cell_progress.proofs.Own.{Few}
use Rattle.cell_progress.proofs.Machines.{Kept}
use Rattle.cell_progress.proofs.States.{not_stuck, served_not_stuck}
use Rattle.cell_progress.proofs.Whole.{Whole, whole_start, whole_step, whole_from, few_from}
use Rattle.cell_progress.proofs.Falls.{falls}

pub kept : (plan : ℕ) (s : Snapshot) → Whole plan s → Kept s
kept plan s w = assumption

-- at the opening nothing has failed
pub few_start : (may : Machine → Bool) → Few may may (λ m. false)
few_start may m h = or_none (may m) h
  where
    or_none : (b : Bool) → (b || false) ≡ true → b ≡ true
    or_none b h = grind arith

-- of those that may fail at the beginning, and of these one at most
pub one_fails : (first may failed : Machine → Bool) → IsOnePress first → Few first may failed → IsOnePress failed
one_fails first may failed o w = (o.0, o.1, λ m e. o.2 m (w m (or_right (may m) (failed m) e)))
  where
    or_right : (a b : Bool) → b ≡ true → (a || b) ≡ true
    or_right a b e = grind arith

-- where it is finished nothing can happen but a failure
pub finished_nil : (l n : Bool) → (not l && n) ≡ true → n ≡ true
finished_nil l n h = grind arith

-- nothing is stuck after entries that can happen
abbrev pub Free : ℕ → Bool → (Machine → Bool) → Snapshot → Type 0
Free plan serves may s = (es : List Entry) → IsPossible plan serves may s es
    → is_stuck plan serves (cell_of (after_from s es)) ≡ false

pub free : (plan : ℕ) (first may : Machine → Bool) (s : Snapshot) → plan ≤ 100000 → IsOnePress first → Whole plan s
    → Few first may s.failed → Free plan false may s
free plan first may s p o w f es h =
    let t = after_from s es in
    not_stuck t plan p (kept plan t (whole_from plan false may s es w h))
    (one_fails first (may_then es may) t.failed o (few_from plan false first may s es f h))

pub served_free : (plan : ℕ) (may : Machine → Bool) (s : Snapshot) → plan ≤ 100000 → Whole plan s
    → Free plan true may s
served_free plan may s p w es h =
    let t = after_from s es in served_not_stuck t plan p (kept plan t (whole_from plan true may s es w h))

-- what can happen beside failures can happen
among : (plan : ℕ) (serves : Bool) (may : Machine → Bool) (c : Situation) (e : Entry)
    → Contains (acts_of plan serves c) e → Contains (entries_of plan serves may c) e
unfolding entries_of
among plan serves may c e h = Contains-append_left (acts_of plan serves c) (failures_of may c) e h

-- and is no failure
calm : (plan : ℕ) (serves : Bool) (c : Situation) (e : Entry) → Contains (acts_of plan serves c) e
    → (may : Machine → Bool) → may_after e may ≡ may
calm plan serves c (Declared m why) h may =
    let none = λ (x : Machine). false in
    let n : false ≡ true = declared_may plan none c m why (happens plan serves none c (Declared m why)
    (among plan serves none c (Declared m why) h)) in cc
calm plan serves c _ h may = refl

first_there : (xs : List Entry) (e : Entry) (es : List Entry) → xs ≡ e ∷ es → Contains xs e
first_there xs e es h =
    subst (λ (l : List Entry). Contains l e) (sym h) (Contains-append_left (e ∷ []) es e (0, omega arith, refl))

here : (plan : ℕ) (serves : Bool) (may : Machine → Bool) (s : Snapshot) → Free plan serves may s
    → is_nil (acts_of plan serves (cell_of s)) ≡ true → GoesOn plan serves may s
here plan serves may s f h =
    record {
      rest = [];
      possible = tt;
      calm = refl;
      finished = by_nil (is_left plan (cell_of s)) (is_nil (acts_of plan serves (cell_of s))) h (f [] tt);
    }
  where
    by_nil : (l n : Bool) → n ≡ true → (l && n) ≡ false → (not l && n) ≡ true
    by_nil l n e f = grind arith

-- one more entry, and on
onward : (plan : ℕ) (serves : Bool) (may : Machine → Bool) (s : Snapshot) (e : Entry)
    → Contains (acts_of plan serves (cell_of s)) e → GoesOn plan serves (may_after e may) (step e s)
    → GoesOn plan serves may s
onward plan serves may s e h g =
    record {
      rest = e ∷ g.rest;
      possible = (among plan serves may (cell_of s) e h, g.possible);
      calm = g.calm ∙ calm plan serves (cell_of s) e h may;
      finished = g.finished;
    }

by_rank : (n plan : ℕ) (serves : Bool) (may : Machine → Bool) (s : Snapshot) → Whole plan s → Free plan serves may s
    → rank plan may (cell_of s) < n → GoesOn plan serves may s
by_rank zero plan serves may s w f r = absurd (omega arith)
by_rank (suc n) plan serves may s w f r = turn (acts_of plan serves (cell_of s)) refl (by_rank n plan serves)
  where
    below : (a b n : ℕ) → a < b → b < suc n → a < n
    below a b n h g = omega arith

    turn : (xs : List Entry) → acts_of plan serves (cell_of s) ≡ xs
        → ((m : Machine → Bool) (t : Snapshot) → Whole plan t → Free plan serves m t → rank plan m (cell_of t) < n
        → GoesOn plan serves m t)
        → GoesOn plan serves may s
    turn [] e g = here plan serves may s f (ap is_nil e)
    turn (x ∷ xs) e g =
        let c : Contains (acts_of plan serves (cell_of s)) x = first_there _ x xs e in
        let i = among plan serves may (cell_of s) x c in
        let h = happens plan serves may (cell_of s) x i in
        onward plan serves may s x c (g (may_after x may) (step x s) (whole_step plan may s x w h)
        (λ es p. f (x ∷ es) (i, p))
        (below (rank plan (may_after x may) (cell_of (step x s))) (rank plan may (cell_of s)) n
        (falls plan may s x w h) r))

pub goes : (plan : ℕ) (serves : Bool) (may : Machine → Bool) (s : Snapshot) → Whole plan s → Free plan serves may s
    → GoesOn plan serves may s
goes plan serves may s w f = by_rank (suc (rank plan may (cell_of s))) plan serves may s w f (omega arith)

module _ (plan : ℕ) (serves : Bool) (may : Machine → Bool) (es : List Entry) where
  pub whole_after : IsPossible plan serves may opening es → Whole plan (after es)
  whole_after h = whole_from plan serves may opening es (whole_start plan) h

  pub few_after : IsPossible plan serves may opening es → Few may (may_then es may) (after es).failed
  few_after h = few_from plan serves may may opening es (few_start may) h

-- the laws
pub free_after : (plan : ℕ) (may : Machine → Bool) (es : List Entry) → plan ≤ 100000 → IsOnePress may
    → IsPossible plan false may opening es → Free plan false (may_then es may) (after es)
free_after plan may es p o h =
    free plan may (may_then es may) (after es) p o (whole_after plan false may es h) (few_after plan false may es h)

pub stuck_never : (plan : ℕ) (may : Machine → Bool) (es : List Entry) → plan ≤ 100000 → IsOnePress may
    → IsPossible plan false may opening es → is_stuck plan false (cell_of (after es)) ≡ false
stuck_never plan may es p o h = free_after plan may es p o h [] tt

pub goes_on : (plan : ℕ) (may : Machine → Bool) (es : List Entry) → plan ≤ 100000 → IsOnePress may
    → IsPossible plan false may opening es → GoesOn plan false (may_then es may) (after es)
goes_on plan may es p o h =
    goes plan false (may_then es may) (after es) (whole_after plan false may es h) (free_after plan may es p o h)

pub served_stuck_never : (plan : ℕ) (may : Machine → Bool) (es : List Entry) → plan ≤ 100000
    → IsPossible plan true may opening es → is_stuck plan true (cell_of (after es)) ≡ false
served_stuck_never plan may es p h =
    served_free plan (may_then es may) (after es) p (whole_after plan true may es h) [] tt

pub served_goes_on : (plan : ℕ) (may : Machine → Bool) (es : List Entry) → plan ≤ 100000
    → IsPossible plan true may opening es → GoesOn plan true (may_then es may) (after es)
served_goes_on plan may es p h =
    let w = whole_after plan true may es h in
    goes plan true (may_then es may) (after es) w (served_free plan (may_then es may) (after es) p w)
