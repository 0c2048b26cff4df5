-- Steps of a walk through a list
use Rattle.std.proofs.Common.{◌≡◌, ℕ, ◌+◌, Bool, true, false, List, [], ◌∷◌, ◌++◌, Option, Some, None, drop, take, refl}
use Rattle.std.proofs.Common.{sym, ap, subst, ◌∙◌}
use Rattle.std.specs.Prelude.{slice_get}
use Rattle.std.specs.List.{count_by}
use Rattle.std.specs.Option.{option_or}
use Rattle.std.proofs.lemmas.List.{drop_more, take_more}
use Rattle.std.proofs.lemmas.List.Sums.{count_by_more_yes, count_by_more_no}
use Rattle.std.proofs.lemmas.Option.{slice_get_within, get_or_from_slice_get}
use Rattle.cell_types.specs.declared.words.Entry.{Entry}
use Rattle.cell_explain.specs.Numbered.{last_numbered}

-- the element at i comes first in what is left from i on
pub drop-at : {X : Type 0} (xs : List X) (i : ℕ) (x : X) → slice_get xs i ≡ Some x → drop i xs ≡ x ∷ drop (i + 1) xs
drop-at xs i x at = subst (λ y. drop i xs ≡ y ∷ drop (i + 1) xs) (get_or_from_slice_get xs i x x at)
    (drop_more xs i x (slice_get_within xs i x at))

-- the elements up to i and the one at i are those up to the next place
pub take-at : {X : Type 0} (xs : List X) (i : ℕ) (x : X) → slice_get xs i ≡ Some x
    → take (i + 1) xs ≡ take i xs ++ x ∷ []
take-at xs i x at = take_more xs i x (slice_get_within xs i x at)
    ∙ ap (λ y. take i xs ++ y ∷ []) (get_or_from_slice_get xs i x x at)

-- one more element is counted
pub count-yes : {X : Type 0} (p : X → Bool) (xs : List X) (i n : ℕ) (x : X) → slice_get xs i ≡ Some x → p x ≡ true
    → n ≡ count_by p (take i xs) → n + 1 ≡ count_by p (take (i + 1) xs)
count-yes p xs i n x at passes so_far = ap (λ k. k + 1) so_far
    ∙ sym (count_by_more_yes p xs i x (slice_get_within xs i x at) (ap p (get_or_from_slice_get xs i x x at) ∙ passes))

-- one more element isn't counted
pub count-no : {X : Type 0} (p : X → Bool) (xs : List X) (i n : ℕ) (x : X) → slice_get xs i ≡ Some x → p x ≡ false
    → n ≡ count_by p (take i xs) → n ≡ count_by p (take (i + 1) xs)
count-no p xs i n x at fails so_far = so_far
    ∙ sym (count_by_more_no p xs i x (slice_get_within xs i x at) (ap p (get_or_from_slice_get xs i x x at) ∙ fails))

option_or_assoc : {A : Type 0} (a b c : Option A) → option_or (option_or a b) c ≡ option_or a (option_or b c)
option_or_assoc None b c = refl
option_or_assoc (Some x) b c = refl

-- what one more entry says is what the last says so far, unless one of those left says anything
pub last-more : {A : Type 0} (f : ℕ → Entry → Option A) (J : List Entry) (i : ℕ) (e : Entry) (found whole : Option A)
    → slice_get J i ≡ Some e
    → option_or (last_numbered f (i + 1) (drop i J)) found ≡ whole
    → option_or (last_numbered f (i + 1 + 1) (drop (i + 1) J)) (option_or (f (i + 1) e) found) ≡ whole
last-more f J i e found whole at so_far =
    sym (option_or_assoc (last_numbered f (i + 1 + 1) (drop (i + 1) J)) (f (i + 1) e) found)
    ∙ (sym (ap (λ es. option_or (last_numbered f (i + 1) es) found) (drop-at J i e at)) ∙ so_far)
