-- Counting the entries of a journal, one after another
use Rattle.std.proofs.Common.{◌≡◌, ℕ, ◌+◌, Bool, true, false, List, Some, take, sym, ap, ◌∙◌}
use Rattle.std.specs.Prelude.{◌||◌, get_or, slice_get}
use Rattle.std.specs.List.{count_by, list_any}
use Rattle.std.proofs.lemmas.List.Folds.{list_any_at, list_any_more}
use Rattle.std.proofs.lemmas.List.Sums.{count_by_more_yes, count_by_more_no}
use Rattle.std.proofs.lemmas.Option.{slice_get_within, get_or_from_slice_get}
use Rattle.cell_types.specs.declared.words.Entry.{Entry}

-- one more entry is counted
pub count-yes : (p : Entry → Bool) (J : List Entry) (i n : ℕ) (e : Entry) → slice_get J i ≡ Some e → p e ≡ true
    → n ≡ count_by p (take i J) → n + 1 ≡ count_by p (take (i + 1) J)
count-yes p J i n e at passes so_far = ap (λ k. k + 1) so_far
    ∙ sym (count_by_more_yes p J i e (slice_get_within J i e at) (ap p (get_or_from_slice_get J i e e at) ∙ passes))

-- one more entry isn't counted
pub count-no : (p : Entry → Bool) (J : List Entry) (i n : ℕ) (e : Entry) → slice_get J i ≡ Some e → p e ≡ false
    → n ≡ count_by p (take i J) → n ≡ count_by p (take (i + 1) J)
count-no p J i n e at fails so_far = so_far
    ∙ sym (count_by_more_no p J i e (slice_get_within J i e at) (ap p (get_or_from_slice_get J i e e at) ∙ fails))

-- an entry passes
pub any-yes : (p : Entry → Bool) (J : List Entry) (i : ℕ) (e : Entry) → slice_get J i ≡ Some e → p e ≡ true
    → list_any p J ≡ true
any-yes p J i e at passes =
    list_any_at p J i e (slice_get_within J i e at) (ap p (get_or_from_slice_get J i e e at) ∙ passes)

-- one more entry doesn't pass
pub any-no : (p : Entry → Bool) (J : List Entry) (i : ℕ) (e : Entry) → slice_get J i ≡ Some e → p e ≡ false
    → list_any p (take i J) ≡ false → list_any p (take (i + 1) J) ≡ false
any-no p J i e at fails so_far =
    list_any_more p J i e (slice_get_within J i e at) ∙ ap (λ b. b || p (get_or J i e)) so_far
    ∙ ap p (get_or_from_slice_get J i e e at) ∙ fails
