-- A list that has a value for each of some words, in their order
use Rattle.std.proofs.Common.{◌≡◌, ◌+◌, ℕ, suc, List, [], ◌∷◌, length, map, drop, get_or, sym, ap, ◌∙◌, arith}
use Rattle.std.proofs.Math.Seq.{drop-cons}
use Rattle.std.proofs.Math.ListN.{drop_of_length-le}

-- the words have the numbers from i on
abbrev pub InOrder : {A : Type 0} → (A → ℕ) → ℕ → List A → Type 0
InOrder number i [] = Unit {0}
InOrder number i (a ∷ rest) = (number a ≡ i) × (InOrder number (suc i) rest)

-- the words' numbers are their places, so the list and the words can be gone through side by side
listed_from : {A X : Type 0} (number : A → ℕ) (value : A → X) (xs : List X) (d : X) (i : ℕ) (words : List A)
    → InOrder number i words
    → ((a : A) → get_or xs (number a) d ≡ value a) → length xs ≡ i + length words → drop i xs ≡ map value words
listed_from number value xs d i [] order same len = drop_of_length-le xs (omega arith)
listed_from number value xs d i (a ∷ rest) order same len =
    let here : get_or xs i d ≡ value a = ap (λ k. get_or xs k d) (sym order.0) ∙ same a in
    let later : drop (suc i) xs ≡ map value rest = listed_from number value xs d (suc i) rest order.1 same (omega arith)
    in
    drop-cons xs i d (omega arith) ∙ cc

pub listed : {A X : Type 0} (number : A → ℕ) (value : A → X) (xs : List X) (d : X) (words : List A)
    → InOrder number 0 words
    → ((a : A) → get_or xs (number a) d ≡ value a) → length xs ≡ length words → xs ≡ map value words
listed number value xs d words order same len = listed_from number value xs d 0 words order same (omega arith)
