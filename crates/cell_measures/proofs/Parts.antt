-- A part of a journal's ends, and the clock after it
use Rattle.std.proofs.Common.{◌≡◌, ◌≤◌, ◌<◌, ◌+◌, ◌*◌, ℕ, Bool, true, false, Some, List, [], ◌∷◌, ◌++◌, sym, ◌∙◌, ap}
use Rattle.std.proofs.Common.{arith, drop, drop-cons, length, add-one, append_assoc}
use Rattle.std.specs.Prelude.{◌^◌, max, if◌then◌else◌, slice_index, slice_get}
use Rattle.std.proofs.Math.ListN.{drop_of_length-le}
use Rattle.std.proofs.lemmas.List.{append-nil}
use Rattle.std.proofs.lemmas.Option.{slice_get_within, get_or_from_slice_get}
use Rattle.cell_types.specs.declared.words.Axis.{Axis}
use Rattle.cell_types.specs.declared.words.Entry.{Entry}
use Rattle.cell_types.specs.Same.{axis_number}
use Rattle.cell_measures.specs.declared.clock.Clock.{Clock}
use Rattle.cell_measures.specs.declared.durations.Durations.{Durations}
use Rattle.cell_measures.specs.Waits.{starts}
use Rattle.cell_measures.specs.Times.{Ended, ends, latest, times, times_after}
use Rattle.cell_measures.specs.Clocks.{Keeps}

-- the ends of the first i entries were found, and the clock keeps these
pub record IsPart (ds : Durations) (J : List Entry) (c : Clock) (done : List ℕ) (i : ℕ) : Type 0 where
  pub past : List Ended
  pub keeps : Keeps c past
  pub early : (p : Entry → Bool) → latest p past ≤ 65535 * i
  pub left : done ++ times_after ds past (drop i J) ≡ times ds J

pub part_first : (ds : Durations) (J : List Entry) (c : Clock) (done : List ℕ) → Keeps c [] → done ≡ []
    → IsPart ds J c done 0
part_first ds J c done k e = record {
  past = [];
  keeps = k;
  early = λ p. omega arith;
  left = ap (λ (l : List ℕ). l ++ times_after ds [] J) e;
}

-- with each entry the latest end grows by the longest motion at most
later_early : (b : Bool) (t l n : ℕ) → t ≤ n + 65535 → l ≤ n → (if b then max t l else l) ≤ n + 65535
later_early true t l n h g = omega (arith, h, g)
later_early false t l n h g = omega (arith, h, g)

-- the bound on the ends goes along with them, as it shows that the next end still has room in its type
pub part_more : (ds : Durations) (J : List Entry) (c next : Clock) (done more : List ℕ) (i : ℕ) (e : Entry) (t : ℕ)
    → IsPart ds J c done i → slice_get J i ≡ Some e → ((past : List Ended) → Keeps c past → t ≡ ends ds past e)
    → ((past : List Ended) (n : ℕ) → Keeps c past → ((p : Entry → Bool) → latest p past ≤ n) → t ≤ n + 65535)
    → ((past : List Ended) → Keeps c past → Keeps next (record { entry = e; at = t } ∷ past)) → more ≡ done ++ t ∷ []
    → IsPart ds J next more (i + 1)
part_more ds J c next done more i e t part at due early keeps is =
    let past : List Ended = part.past in
    let rest : List Entry = drop (i + 1) J in
    let cut : drop i J ≡ e ∷ rest = rw add-one (drop-cons J i e (slice_get_within J i e at))
    ∙ ap (λ (x : Entry). x ∷ rest) (get_or_from_slice_get J i e e at) in
    let was : done ++ times_after ds past (e ∷ rest) ≡ times ds J =
    ap (λ (l : List Entry). done ++ times_after ds past l) (sym cut) ∙ part.left in
    let same : done ++ t ∷ times_after ds (record { entry = e; at = t } ∷ past) rest ≡ done ++ times_after ds past
    (e ∷ rest) =
    ap (λ (n : ℕ). done ++ n ∷ times_after ds (record { entry = e; at = n } ∷ past) rest) (due past part.keeps) in
    let scale : 65535 * (i + 1) ≡ 65535 * i + 65535 = omega arith in
    record {
      past = record { entry = e; at = t } ∷ past;
      keeps = keeps past part.keeps;
      early = λ p. rw scale (later_early (p e) t (latest p past) (65535 * i)
          (early past (65535 * i) part.keeps part.early) (part.early p));
      left =
          ap (λ (l : List ℕ). l ++ times_after ds (record { entry = e; at = t } ∷ past) rest) is
          ∙ append_assoc done (t ∷ []) (times_after ds (record { entry = e; at = t } ∷ past) rest)
          ∙ same ∙ was;
    }

pub part_last : (ds : Durations) (J : List Entry) (c : Clock) (done : List ℕ) (i : ℕ) → IsPart ds J c done i
    → length J ≤ i → done ≡ times ds J
part_last ds J c done i part h =
    sym (append-nil done)
    ∙ ap (λ (l : List Entry). done ++ times_after ds part.past l) (sym (drop_of_length-le J h))
    ∙ part.left

-- journals are so short, and motions too, that no end comes near the greatest number
pub part_small : (ds : Durations) (J : List Entry) (c : Clock) (done : List ℕ) (i : ℕ) → IsPart ds J c done i
    → i < 2 ^ 32 → (a : Axis) → slice_index c.axes (axis_number a) < 2 ^ 63
part_small ds J c done i part h a =
    let e : slice_index c.axes (axis_number a) ≡ latest (starts a) part.past = part.keeps.axes a in
    let b : latest (starts a) part.past ≤ 65535 * i = part.early (starts a) in
    let b' : slice_index c.axes (axis_number a) ≤ 65535 * i = rw e b in
    omega (arith, b', h)
