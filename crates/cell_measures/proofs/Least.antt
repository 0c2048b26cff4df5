-- The times of a journal keep to what its entries wait for, and no others that do are less
use Rattle.std.proofs.Common.{◌≡◌, ◌≤◌, ◌+◌, ℕ, Bool, true, false, Option, Some, None, List, [], ◌∷◌, arith}
use Rattle.std.proofs.Common.{ap, zero, refl, subst, suc, ◌∙◌}
use Rattle.std.proofs.lemmas.Option.{none-some, same_Some}
use Rattle.std.specs.Prelude.{fold, max, if◌then◌else◌, slice_get, slice_index}
use Rattle.cell_types.specs.declared.words.Entry.{Entry}
use Rattle.cell_measures.specs.declared.motion.Move.{Move}
use Rattle.cell_measures.specs.declared.durations.Durations.{Durations}
use Rattle.cell_measures.specs.Waits.{starts, waits_for}
use Rattle.cell_measures.specs.Times.{Ended, begins, duration, ends, ends_motion, latest, motion_of, times, times_after}
use Rattle.cell_measures.specs.Schedules.{AreInOrder, IsSchedule}
use Rattle.cell_measures.specs.Sums.{last_of}
use Rattle.cell_measures.proofs.Sums.{long}

-- a time is late enough for an entry, after those that have ended
record Fits (ds : Durations) (past : List Ended) (e : Entry) (t : ℕ) : Type 0 where
  pub begun : begins past e ≤ t
  pub over : (m : Move) → motion_of e ≡ Some m → latest (starts m.axis) past + duration ds m ≤ t

motion_fits : (ds : Durations) (past : List Ended) (o : Option Move) (begun t : ℕ) → begun ≤ t
    → ((m : Move) → o ≡ Some m → latest (starts m.axis) past + duration ds m ≤ t) → ends_motion ds past o begun ≤ t
motion_fits ds past None begun t h over = h
motion_fits ds past (Some m) begun t h over =
    let late : latest (starts m.axis) past + duration ds m ≤ t = over m refl in
    omega (arith, h, late)

-- then it is no less than when the entry ends
ends_fits : (ds : Durations) (past : List Ended) (e : Entry) (t : ℕ) → Fits ds past e t → ends ds past e ≤ t
ends_fits ds past e t f = motion_fits ds past (motion_of e) (begins past e) t f.begun f.over

-- with an entry more, its own time alone may make another late
within : (b : Bool) (at l w t : ℕ) → (b ≡ true → at + w ≤ t) → l + w ≤ t → (if b then max at l else l) + w ≤ t
within true at l w t h g = let more : at + w ≤ t = h refl in omega (arith, more, g)
within false at l w t h g = g

fits_more : (ds : Durations) (past : List Ended) (d : Ended) (e : Entry) (t : ℕ) → Fits ds past e t
    → (waits_for e d.entry ≡ true → d.at ≤ t)
    → ((m : Move) → motion_of e ≡ Some m → starts m.axis d.entry ≡ true → d.at + duration ds m ≤ t)
    → Fits ds (d ∷ past) e t
fits_more ds past d e t f wait last = record {
  begun =
      let early : begins past e + 0 ≤ t = omega (arith, f.begun) in
      let more : begins (d ∷ past) e + 0 ≤ t =
      within (waits_for e d.entry) d.at (begins past e) 0 t (λ w. let h : d.at ≤ t = wait w in omega (arith, h))
      early in
      omega (arith, more);
  over = λ m is. within (starts m.axis d.entry) d.at (latest (starts m.axis) past) (duration ds m) t (last m is)
      (f.over m is);
}

-- a later entry, seen from the entry behind the first
behind : (e : Entry) (es : List Entry) (i k : ℕ) (a b : Entry) → AreInOrder es i k a b
    → AreInOrder (e ∷ es) (suc i) (suc k) a b
behind e es i k a b o = record {
  order = omega (arith, o.order);
  first = o.first;
  second = o.second;
}

-- times that later entries keep to among each other and to the past: none ends sooner by the times of the journal
least_after : (ds : Durations) (past : List Ended) (es : List Entry) (at : ℕ → ℕ)
    → ((i k : ℕ) (d e : Entry) → AreInOrder es i k d e → waits_for e d ≡ true → at i ≤ at k)
    → ((i k : ℕ) (d e : Entry) (m : Move) → AreInOrder es i k d e → motion_of e ≡ Some m → starts m.axis d ≡ true
    → at i + duration ds m ≤ at k)
    → ((k : ℕ) (e : Entry) → slice_get es k ≡ Some e → Fits ds past e (at k))
    → (k : ℕ) → slice_index (times_after ds past es) k ≤ at k
least_after ds past [] at waits lasts fits k = omega arith
least_after ds past (e ∷ es) at waits lasts fits zero = ends_fits ds past e (at 0) (fits 0 e refl)
least_after ds past (e ∷ es) at waits lasts fits (suc k) =
    let first : ends ds past e ≤ at 0 = ends_fits ds past e (at 0) (fits 0 e refl) in
    least_after ds (record { entry = e; at = ends ds past e } ∷ past) es (λ n. at (suc n))
    (λ i j a b o w. waits (suc i) (suc j) a b (behind e es i j a b o) w)
    (λ i j a b m o is s. lasts (suc i) (suc j) a b m (behind e es i j a b o) is s)
    (λ j b is. fits_more ds past (record { entry = e; at = ends ds past e }) b (at (suc j)) (fits (suc j) b is)
    (λ w.
    let h : at 0 ≤ at (suc j) = waits 0 (suc j) e b (record { order = omega arith; first = refl; second = is }) w in
    omega (arith, first, h))
    (λ m mo s. let h : at 0 + duration ds m ≤ at (suc j) =
    lasts 0 (suc j) e b m (record { order = omega arith; first = refl; second = is }) mo s in
    omega (arith, first, h)))
    k

pub least_law : (ds : Durations) (J : List Entry) (at : List ℕ) → IsSchedule ds J at → (k : ℕ)
    → slice_index (times ds J) k ≤ slice_index at k
least_law ds J at s = least_after ds [] J (λ k. slice_index at k) s.waits s.lasts
    (λ k e is. record {
      begun = omega arith;
      over = λ m mo. let h : duration ds m ≤ slice_index at k = s.whole k e m is mo in omega (arith, h);
    })

-- the latest end does not fall as entries are added
later : (b : Bool) (t l : ℕ) → l ≤ (if b then max t l else l)
later true t l = omega arith
later false t l = omega arith

counted : (b : Bool) (t l : ℕ) → b ≡ true → t ≤ (if b then max t l else l)
counted b t l h = rw h (omega arith)

motion_begins : (ds : Durations) (past : List Ended) (o : Option Move) (begun : ℕ) → begun ≤ ends_motion ds past o begun
motion_begins ds past None begun = omega arith
motion_begins ds past (Some m) begun = omega arith

motion_lasts : (ds : Durations) (past : List Ended) (o : Option Move) (begun : ℕ) (m : Move) → o ≡ Some m
    → latest (starts m.axis) past + duration ds m ≤ ends_motion ds past o begun
motion_lasts ds past o begun m is = rw is (omega arith)

-- when an entry ends is late enough for it
fits_ends : (ds : Durations) (past : List Ended) (e : Entry) → Fits ds past e (ends ds past e)
fits_ends ds past e = record {
  begun = motion_begins ds past (motion_of e) (begins past e);
  over = λ m is. motion_lasts ds past (motion_of e) (begins past e) m is;
}

-- what is late enough after more entries is so after fewer
fits_less : (ds : Durations) (past : List Ended) (d : Ended) (e : Entry) (t : ℕ) → Fits ds (d ∷ past) e t
    → Fits ds past e t
fits_less ds past d e t f = record {
  begun =
      let more : begins past e ≤ begins (d ∷ past) e = later (waits_for e d.entry) d.at (begins past e) in
      omega (arith, more, f.begun);
  over = λ m is. let more : latest (starts m.axis) past ≤ latest (starts m.axis) (d ∷ past) =
      later (starts m.axis d.entry) d.at (latest (starts m.axis) past) in
      let h : latest (starts m.axis) (d ∷ past) + duration ds m ≤ t = f.over m is in
      omega (arith, more, h);
}

-- each end of later entries is late enough after the past
fits_after : (ds : Durations) (past : List Ended) (es : List Entry) (k : ℕ) (e : Entry) → slice_get es k ≡ Some e
    → Fits ds past e (slice_index (times_after ds past es) k)
fits_after ds past [] k e is = absurd (none-some e is)
fits_after ds past (d ∷ es) zero e is = subst (λ (x : Entry). Fits ds past x (ends ds past d)) (same_Some d e is)
    (fits_ends ds past d)
fits_after ds past (d ∷ es) (suc k) e is =
    let x : Ended = record { entry = d; at = ends ds past d } in
    fits_less ds past x e (slice_index (times_after ds (x ∷ past) es) k) (fits_after ds (x ∷ past) es k e is)

-- so it is as much later than an earlier entry under a test as all late times for it are
kept : (ds : Durations) (past : List Ended) (es : List Entry) (i k : ℕ) (d e : Entry) (p : Entry → Bool) (w : ℕ)
    → ((P : List Ended) (t : ℕ) → Fits ds P e t → latest p P + w ≤ t) → AreInOrder es i k d e → p d ≡ true
    → slice_index (times_after ds past es) i + w ≤ slice_index (times_after ds past es) k
kept ds past [] i k d e p w late o is = absurd (none-some d o.first)
kept ds past (x ∷ es) i zero d e p w late o is = absurd (omega (arith, o.order))
kept ds past (x ∷ es) zero (suc k) d e p w late o is =
    let first : Ended = record { entry = x; at = ends ds past x } in
    let test : p x ≡ true = ap (λ (y : Entry). p y) (same_Some x d o.first) ∙ is in
    let counts : ends ds past x ≤ latest p (first ∷ past) = counted (p x) (ends ds past x) (latest p past) test in
    let after : latest p (first ∷ past) + w ≤ slice_index (times_after ds (first ∷ past) es) k =
    late (first ∷ past) _ (fits_after ds (first ∷ past) es k e o.second) in
    let bound : ends ds past x + w ≤ slice_index (times_after ds (first ∷ past) es) k = omega (arith, counts, after) in
    bound
kept ds past (x ∷ es) (suc i) (suc k) d e p w late o is =
    kept ds (record { entry = x; at = ends ds past x } ∷ past) es i k d e p w late
    (record { order = omega (arith, o.order); first = o.first; second = o.second }) is

pub keep_law : (ds : Durations) (J : List Entry) → IsSchedule ds J (times ds J)
keep_law ds J = record {
  long = long ds J (times ds J) refl;
  waits = λ i k d e o is.
      let h : slice_index (times ds J) i + 0 ≤ slice_index (times ds J) k =
      kept ds [] J i k d e (waits_for e) 0 (λ P t f. let b : latest (waits_for e) P ≤ t = f.begun in omega (arith, b))
      o is in
      omega (arith, h);
  lasts = λ i k d e m o mo is. kept ds [] J i k d e (starts m.axis) (duration ds m) (λ P t f. f.over m mo) o is;
  whole = λ k e m is mo.
      let h : 0 + duration ds m ≤ slice_index (times ds J) k = (fits_after ds [] J k e is).over m mo in
      omega (arith, h);
}

-- the last of some times is no later than that of others, of which none is less
last_grows : (n : ℕ) (xs : List ℕ) → n ≤ fold max n xs
last_grows n [] = omega arith
last_grows n (x ∷ xs) = let more : max n x ≤ fold max (max n x) xs = last_grows (max n x) xs in omega (arith, more)

last_least : (xs ys : List ℕ) (n m : ℕ) → n ≤ m → ((k : ℕ) → slice_index xs k ≤ slice_index ys k)
    → fold max n xs ≤ fold max m ys
last_least [] ys n m h each = let more : m ≤ fold max m ys = last_grows m ys in omega (arith, h, more)
last_least (x ∷ xs) [] n m h each =
    let none : x ≤ 0 = each 0 in
    last_least xs [] (max n x) m (omega (arith, none, h)) (λ k. each (suc k))
last_least (x ∷ xs) (y ∷ ys) n m h each =
    let first : x ≤ y = each 0 in
    last_least xs ys (max n x) (max m y) (omega (arith, first, h)) (λ k. each (suc k))

pub last_law : (ds : Durations) (J : List Entry) (at : List ℕ) → IsSchedule ds J at → last_of (times ds J) ≤ last_of at
last_law ds J at s = last_least (times ds J) at 0 0 (omega arith) (least_law ds J at s)
