-- The times of a journal in which two neighbours are exchanged that depend on nothing of each other
use Rattle.std.proofs.Common.{◌≡◌, ◌+◌, ◌++◌, ℕ, Bool, true, false, Option, Some, None, List, [], ◌∷◌, refl, ◌∙◌, ap}
use Rattle.std.proofs.Common.{arith, length}
use Rattle.std.specs.Prelude.{◌||◌, max, if◌then◌else◌}
use Rattle.cell_types.specs.declared.words.Entry.{Entry}
use Rattle.cell_measures.specs.declared.durations.Durations.{Durations}
use Rattle.cell_measures.specs.declared.motion.Move.{Move}
use Rattle.cell_measures.specs.Waits.{starts, waits_for}
use Rattle.cell_measures.specs.Times.{Ended, begins, duration, ends, ends_motion, latest, motion_of, times_after}
use Rattle.cell_measures.specs.Exchange.{depends, is_start_of, IsExchange}

or_first : (a b : Bool) → (a || b) ≡ false → a ≡ false
or_first true b h = h
or_first false b h = refl

or_second : (a b : Bool) → (a || b) ≡ false → b ≡ false
or_second true true h = h
or_second true false h = refl
or_second false b h = h

-- an entry that doesn't pass a test changes nothing
skip : (p : Entry → Bool) (d : Ended) (past : List Ended) → p d.entry ≡ false → latest p (d ∷ past) ≡ latest p past
skip p d past e = ap (λ (b : Bool). if b then max d.at (latest p past) else latest p past) e

-- the end of a motion looks only at when its own axis set out
motion_skip : (ds : Durations) (past : List Ended) (d : Ended) (o : Option Move) (begun : ℕ)
    → is_start_of o d.entry ≡ false → ends_motion ds (d ∷ past) o begun ≡ ends_motion ds past o begun
motion_skip ds past d None begun e = refl
motion_skip ds past d (Some m) begun e = ap (λ (n : ℕ). max begun (n + duration ds m)) (skip (starts m.axis) d past e)

-- when an entry ends is read from those on which it depends, and from no others
ends_skip : (ds : Durations) (past : List Ended) (d : Ended) (e : Entry) → depends e d.entry ≡ false
    → ends ds (d ∷ past) e ≡ ends ds past e
ends_skip ds past d e h =
    ap (λ (n : ℕ). ends_motion ds (d ∷ past) (motion_of e) n)
    (skip (waits_for e) d past (or_first (waits_for e d.entry) (is_start_of (motion_of e) d.entry) h))
    ∙ motion_skip ds past d (motion_of e) (begins past e)
    (or_second (waits_for e d.entry) (is_start_of (motion_of e) d.entry) h)

-- two pasts are alike where entries that pass a test ended last at the same time, whatever the test
swap_step : (b c : Bool) (x y l : ℕ)
    → (if b then max x (if c then max y l else l) else (if c then max y l else l))
    ≡ (if c then max y (if b then max x l else l) else (if b then max x l else l))
swap_step true true x y l = omega arith
swap_step true false x y l = refl
swap_step false true x y l = refl
swap_step false false x y l = refl

-- the latest of some ends is the same in whatever order they came
alike_swap : (x y : Ended) (P : List Ended) → (p : Entry → Bool) → latest p (x ∷ y ∷ P) ≡ latest p (y ∷ x ∷ P)
alike_swap x y P p = swap_step (p x.entry) (p y.entry) x.at y.at (latest p P)

alike_more : (d : Ended) (P Q : List Ended) → ((p : Entry → Bool) → latest p P ≡ latest p Q) → (p : Entry → Bool)
    → latest p (d ∷ P) ≡ latest p (d ∷ Q)
alike_more d P Q h p = ap (λ (n : ℕ). if p d.entry then max d.at n else n) (h p)

motion_alike : (ds : Durations) (P Q : List Ended) (o : Option Move) (begun : ℕ) → ((p : Entry → Bool)
    → latest p P ≡ latest p Q) → ends_motion ds P o begun ≡ ends_motion ds Q o begun
motion_alike ds P Q None begun h = refl
motion_alike ds P Q (Some m) begun h = ap (λ (n : ℕ). max begun (n + duration ds m)) (h (starts m.axis))

-- an entry looks at the past by nothing but the latest ends under some test
ends_alike : (ds : Durations) (P Q : List Ended) (e : Entry) → ((p : Entry → Bool) → latest p P ≡ latest p Q)
    → ends ds P e ≡ ends ds Q e
ends_alike ds P Q e h = ap (λ (n : ℕ). ends_motion ds P (motion_of e) n) (h (waits_for e))
    ∙ motion_alike ds P Q (motion_of e) (begins Q e) h

-- pasts that are alike stay so as the same entries are added, so all later times agree
times_alike : (ds : Durations) (P Q : List Ended) (es : List Entry) → ((p : Entry → Bool) → latest p P ≡ latest p Q)
    → times_after ds P es ≡ times_after ds Q es
times_alike ds P Q [] h = refl
times_alike ds P Q (e ∷ es) h =
    ap (λ (t : ℕ). t ∷ times_after ds (record { entry = e; at = t } ∷ P) es) (ends_alike ds P Q e h)
    ∙ ap (λ (l : List ℕ). ends ds Q e ∷ l)
    (times_alike ds (record { entry = e; at = ends ds Q e } ∷ P) (record { entry = e; at = ends ds Q e } ∷ Q) es
    (alike_more (record { entry = e; at = ends ds Q e }) P Q h))

-- the times of two entries at the head of a list, the second of which doesn't depend on the first
two_times : (ds : Durations) (P : List Ended) (a b : Entry) (es : List Entry) → depends b a ≡ false
    → times_after ds P (a ∷ b ∷ es) ≡ ends ds P a ∷ ends ds P b
    ∷ times_after ds (record { entry = b; at = ends ds P b } ∷ record { entry = a; at = ends ds P a } ∷ P) es
two_times ds P a b es h =
    ap (λ (t : ℕ). ends ds P a ∷ t ∷ times_after ds
    (record { entry = b; at = t } ∷ record { entry = a; at = ends ds P a } ∷ P) es)
    (ends_skip ds P (record { entry = a; at = ends ds P a }) b h)

-- neighbours that depend on nothing of each other end at the same times in either order, and so do all behind
pub exchanged : (ds : Durations) (P : List Ended) (J K : List Entry) (a b : Entry) → depends a b ≡ false
    → depends b a ≡ false
    → IsExchange (length J) (times_after ds P (J ++ a ∷ b ∷ K)) (times_after ds P (J ++ b ∷ a ∷ K))
exchanged ds P [] K a b ab ba =
    let x : Ended = record { entry = a; at = ends ds P a } in
    let y : Ended = record { entry = b; at = ends ds P b } in
    record {
      before = [];
      one = ends ds P a;
      other = ends ds P b;
      behind = times_after ds (y ∷ x ∷ P) K;
      at = refl;
      first = two_times ds P a b K ba;
      second =
          two_times ds P b a K ab
          ∙ ap (λ (l : List ℕ). ends ds P b ∷ ends ds P a ∷ l)
          (times_alike ds (x ∷ y ∷ P) (y ∷ x ∷ P) K (alike_swap x y P));
    }
exchanged ds P (e ∷ J) K a b ab ba =
    let t : ℕ = ends ds P e in
    let rest : IsExchange (length J) (times_after ds (record { entry = e; at = t } ∷ P) (J ++ a ∷ b ∷ K))
    (times_after ds (record { entry = e; at = t } ∷ P) (J ++ b ∷ a ∷ K)) =
    exchanged ds (record { entry = e; at = t } ∷ P) J K a b ab ba in
    record {
      before = t ∷ rest.before;
      one = rest.one;
      other = rest.other;
      behind = rest.behind;
      at = omega (arith, rest.at);
      first = ap (λ (l : List ℕ). t ∷ l) rest.first;
      second = ap (λ (l : List ℕ). t ∷ l) rest.second;
    }
