-- What is counted of a journal's first entries
use Rattle.std.proofs.Common.{◌≡◌, ◌≤◌, ◌<◌, ◌+◌, ℕ, Bool, Some, List, [], ◌∷◌, ◌++◌, refl, sym, ◌∙◌, ap, arith, cond}
use Rattle.std.proofs.Common.{get_or, length, take}
use Rattle.std.specs.Prelude.{All, count_by, fold, max, slice_get}
use Rattle.std.proofs.lemmas.List.{take_all}
use Rattle.std.proofs.lemmas.List.Sums.{fold_more, sum_by_more}
use Rattle.std.proofs.lemmas.Option.{get_or_from_slice_get}
use Rattle.cell_types.specs.declared.words.Entry.{Entry}
use Rattle.cell_measures.specs.declared.tally.Tally.{Tally}
use Rattle.cell_measures.specs.declared.durations.Durations.{Durations}
use Rattle.cell_measures.specs.Times.{Ended, ends, times, times_after}
use Rattle.cell_measures.specs.Exchange.{IsExchange}
use Rattle.cell_measures.specs.Sums.{Counts, IsCounted, is_declaration, is_delivery, last_of}

-- there is an end for each entry
long_after : (ds : Durations) (past : List Ended) (es : List Entry) → length (times_after ds past es) ≡ length es
long_after ds past [] = refl
long_after ds past (e ∷ es) = let rest : length (times_after ds (record { entry = e; at = ends ds past e } ∷ past) es)
    ≡ length es = long_after ds (record { entry = e; at = ends ds past e } ∷ past) es in omega (arith, rest)

pub long : (ds : Durations) (J : List Entry) (xs : List ℕ) → xs ≡ times ds J → length xs ≡ length J
long ds J xs e = ap (λ (l : List ℕ). length l) e ∙ long_after ds [] J

-- 1 of an entry that passes a test
abbrev one_of : (Entry → Bool) → Entry → ℕ
one_of p e = cond (p e) 1 0

more_count : (p : Entry → Bool) (es : List Entry) (i : ℕ) (e : Entry) (n m : ℕ) → i < length es
    → slice_get es i ≡ Some e
    → n ≡ count_by p (take i es) → m ≡ n + count_by p (e ∷ []) → m ≡ count_by p (take (i + 1) es)
more_count p es i e n m l at was is =
    let step : count_by p (take (i + 1) es) ≡ count_by p (take i es) + one_of p (get_or es i e) =
    sum_by_more (one_of p) es i e l in
    let here : one_of p (get_or es i e) ≡ one_of p e =
    ap (λ (x : Entry). one_of p x) (get_or_from_slice_get es i e e at) in
    let one : count_by p (e ∷ []) ≡ one_of p e = omega arith in
    omega (arith, step, here, one, was, is)

-- entries and their ends are gone through side by side, as there is an end for each entry
pub counts_more : (t next : Tally) (J : List Entry) (ends : List ℕ) (i : ℕ) (e : Entry) (end : ℕ)
    → Counts t (take i J) (take i ends) → i < length J → i < length ends → slice_get J i ≡ Some e
    → end ≡ get_or ends i end
    → next.time ≡ max t.time end
    → length next.deliveries.items ≡ length t.deliveries.items + count_by is_delivery (e ∷ [])
    → length next.declarations.items ≡ length t.declarations.items + count_by is_declaration (e ∷ [])
    → All (IsCounted next.time) next.courses → Counts next (take (i + 1) J) (take (i + 1) ends)
counts_more t next J ends i e end was l k at this time delivered declared courses = record {
  time =
      time ∙ ap (λ (n : ℕ). max n end) was.time ∙ ap (λ (n : ℕ). max (last_of (take i ends)) n) this
      ∙ sym (fold_more max 0 ends i end k);
  delivered = more_count is_delivery J i e _ _ l at was.delivered delivered;
  declared = more_count is_declaration J i e _ _ l at was.declared declared;
  courses = courses;
}

pub counts_whole : (t : Tally) (J : List Entry) (ends : List ℕ) (i : ℕ) → Counts t (take i J) (take i ends)
    → length J ≤ i → length ends ≤ i → Counts t J ends
counts_whole t J ends i c h k = rw (take_all i J h, take_all i ends k) at c

-- the last of some times stays where two neighbours are exchanged
last_stays : (n : ℕ) (before behind : List ℕ) (x y : ℕ)
    → fold max n (before ++ x ∷ y ∷ behind) ≡ fold max n (before ++ y ∷ x ∷ behind)
last_stays n [] behind x y = let same : max (max n x) y ≡ max (max n y) x =
    omega arith in ap (λ (m : ℕ). fold max m behind) same
last_stays n (t ∷ before) behind x y = last_stays (max n t) before behind x y

-- so when a journal ends doesn't depend on the order of such neighbours
pub exchanged_last : (place : ℕ) (xs ys : List ℕ) → IsExchange place xs ys → last_of xs ≡ last_of ys
exchanged_last place xs ys e = ap (λ (l : List ℕ). last_of l) e.first ∙ last_stays 0 e.before e.behind e.one e.other
    ∙ sym (ap (λ (l : List ℕ). last_of l) e.second)
