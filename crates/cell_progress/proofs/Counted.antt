-- Plates are neither lost nor made: each that was admitted stands at a station, was delivered or is in quarantine
use Rattle.std.proofs.Common.{◌≡◌, ℕ, ◌+◌, ◌≤◌, Bool, true, false, Some, None, is_some, sym, ap, arith, subst}
use Rattle.std.specs.Prelude.{nat_lt, if◌then◌else◌}
use Rattle.std.proofs.lemmas.Bool.Decides.{nat_tests}
use Rattle.cell_types.specs.declared.words.Belt.{Belt}
use Rattle.cell_types.specs.declared.words.Machine.{Machine}
use Rattle.cell_types.specs.declared.words.Station.{Station}
use Rattle.cell_types.specs.declared.words.Axis.{Axis}
use Rattle.cell_types.specs.declared.words.Place.{Place}
use Rattle.cell_types.specs.declared.words.Entry.{Entry}
use Rattle.cell_types.specs.declared.words.Entry.TheVariants.{Admitted, Conveyed, Gripped, Dropped, Delivered}
use Rattle.cell_types.specs.declared.words.Entry.TheVariants.{Quarantined}
use Rattle.cell_types.specs.Same.{same_station}
use Rattle.cell_types.specs.Cell.{station_of_arm}
use Rattle.cell_types.specs.After.{Snapshot, step}
use Rattle.cell_rules.proofs.Safe.Facts.{pose_same}
use Rattle.cell_rules.proofs.Safe.Plates.{ends}
use Rattle.cell_rules.proofs.Safe.Step.{Inv, green}
use Rattle.cell_progress.specs.Orders.{cell_of}
use Rattle.cell_progress.specs.Rank.{stations_sum}
use Rattle.cell_progress.proofs.Stations.{sum_left, sum_came}
use Rattle.cell_progress.proofs.Happening.{Happens}
use Rattle.cell_progress.proofs.Taken.{taken, occupied_after, left_at, come_at, source, motion_of, taken_step, conveyed}
use Rattle.cell_progress.proofs.Taken.{gripped, dropped, out_full, cleared_full}
use Rattle.cell_progress.proofs.More.{More}
use Rattle.cell_progress.proofs.Passing.{Allowed}

-- how many stations are occupied
abbrev pub plates_at : (Station → Bool) → ℕ
plates_at o = stations_sum (λ t. 1) o

-- what was admitted is there or went; and it is no more than the plan says
pub record Counted (plan : ℕ) (s : Snapshot) (o : Station → Bool) : Type 0 where
  pub sum : s.admitted ≡ (s.delivered + s.quarantined) + plates_at o
  pub most : s.admitted ≤ plan

one_out : (s : Snapshot) (t : Station) (k : ℕ) → s.plate t ≡ Some k
    → plates_at (left_at t (taken s)) + 1 ≡ plates_at (taken s)
one_out s t k e = sum_left (λ x. 1) (taken s) t (ap is_some e)

-- a plate that moves is still there
moved_sum : (s : Snapshot) (src dest : Station) (k a g : ℕ) → s.plate src ≡ Some k → s.plate dest ≡ None
    → a ≡ g + plates_at (taken s) → a ≡ g + plates_at (come_at dest (left_at src (taken s)))
moved_sum s src dest k a g e f c =
    sums a g _ _ _ (one_out s src k e)
    (sum_came (λ x. 1) (left_at src (taken s)) dest (still (same_station src dest) (taken s dest) (ap is_some f))) c
  where
    still : (b o : Bool) → o ≡ false → (if b then false else o) ≡ false
    still b o e = grind arith

    sums : (a g x y z : ℕ) → x + 1 ≡ z → y ≡ x + 1 → a ≡ g + z → a ≡ g + y
    sums a g x y z h i c = omega arith

ends_there : (s : Snapshot) (a : Axis) (k : ℕ) (dest : Station) → Allowed s (Conveyed a k dest)
    → ends a (motion_of dest) ≡ Some dest
ends_there s a k dest h = grind (arith, pose_same)

less : (a p : ℕ) → nat_lt a p ≡ true → a + 1 ≤ p
less a p h = grind (arith, nat_tests)

-- one comes in, or goes out
in_sum : (a g x y : ℕ) → a ≡ g + x → y ≡ x + 1 → a + 1 ≡ g + y
in_sum a g x y h i = omega arith

out_sum : (a g h x y : ℕ) → h ≡ g + 1 → a ≡ g + x → y + 1 ≡ x → a ≡ h + y
out_sum a g h x y i c e = omega arith

count_after : (plan : ℕ) (s : Snapshot) (place : ℕ → Place) (marks : ℕ → ℕ) (e : Entry) → Inv s place marks
    → Allowed s e → More plan s (taken s) → Counted plan s (taken s)
    → Counted plan (step e s) (occupied_after e (taken s))
count_after plan s place marks (Admitted k) v p w c =
    let lit = green (s.lamp Belt.Feed) p.1.1.1.1.0 in
    let front = sum_came (λ x. 1) (taken s) Station.FeedIn (ap is_some (v.lights.feed lit).front) in
    let most = less s.admitted plan (w.green lit) in
    record { sum = in_sum s.admitted (s.delivered + s.quarantined) _ _ c.sum front; most = most }
count_after plan s place marks (Conveyed a k dest) v p w c =
    let r = conveyed s a k dest p in
    let empty = v.plates.clear a (motion_of dest) dest r.going (ends_there s a k dest p) in
    record { sum = moved_sum s (source dest) dest k s.admitted _ r.full empty c.sum; most = c.most }
count_after plan s place marks (Gripped x k src) v p w c =
    let r = gripped s x k src p in
    record { sum = moved_sum s src (station_of_arm x) k s.admitted _ r.full r.empty c.sum; most = c.most }
count_after plan s place marks (Dropped x k dest) v p w c =
    let r = dropped s x k dest p in
    record { sum = moved_sum s (station_of_arm x) dest k s.admitted _ r.full r.empty c.sum; most = c.most }
count_after plan s place marks (Delivered k) v p w c =
    let out = one_out s Station.DepEnd k (out_full s place marks k v p) in
    record { sum = out_sum s.admitted (s.delivered + s.quarantined) _ _ _ (omega arith) c.sum out; most = c.most }
count_after plan s place marks (Quarantined k t) v p w c =
    let out = one_out s t k (cleared_full s k t p) in
    record { sum = out_sum s.admitted (s.delivered + s.quarantined) _ _ _ (omega arith) c.sum out; most = c.most }
count_after plan s place marks _ v p w c = record { sum = c.sum; most = c.most }

-- every entry that can happen keeps this
pub count_step : (plan : ℕ) (may : Machine → Bool) (s : Snapshot) (place : ℕ → Place) (marks : ℕ → ℕ) (e : Entry)
    → Inv s place marks → Happens plan may (cell_of s) e → Allowed s e → More plan s (taken s)
    → Counted plan s (taken s) → Counted plan (step e s) (taken (step e s))
count_step plan may s place marks e v h p w c =
    subst (Counted plan (step e s)) (sym (taken_step plan may s place marks e v h p))
    (count_after plan s place marks e v p w c)
