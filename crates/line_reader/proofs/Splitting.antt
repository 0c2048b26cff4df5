-- The parts of a text, byte by byte
use Rattle.std.proofs.Common.{◌≡◌, ◌≢◌, ◌∙◌, ◌<◌, ◌+◌, ◌==◌, ℕ, List, [], ◌∷◌, ◌++◌, length, take, drop, get_or, true}
use Rattle.std.proofs.Common.{false, if◌then◌else◌, ap, sym, refl, arith, rules, tests, drop-cons, add-one, eq-eqb, suc}
use Rattle.std.proofs.lemmas.List.{take_more}
use Rattle.line_reader.specs.Split.{parts_after}

-- another byte than the sign goes on with the first part
pub parts-byte : (sign : ℕ) (part : List ℕ) (b : ℕ) (rest : List ℕ) → b ≢ sign
    → parts_after sign part (b ∷ rest) ≡ parts_after sign (part ++ b ∷ []) rest
unfolding parts_after
parts-byte sign part b rest other = let e : (b == sign) ≡ false = search (rules, tests) in rw e refl

-- the sign ends it
pub parts-sign : (sign : ℕ) (part : List ℕ) (b : ℕ) (rest : List ℕ) → b ≡ sign
    → parts_after sign part (b ∷ rest) ≡ part ∷ parts_after sign [] rest
unfolding parts_after
parts-sign sign part b rest is = let e : (b == sign) ≡ true = eq-eqb b sign is in rw e refl

-- the byte goes over from the rest to the first part, and the parts stay the same
pub parts-at : (sign : ℕ) (text : List ℕ) (i : ℕ) → i < length text → get_or text i 0 ≢ sign
    → parts_after sign (take i text) (drop i text) ≡ parts_after sign (take (i + 1) text) (drop (i + 1) text)
parts-at sign text i within other =
    ap (λ xs. parts_after sign (take i text) xs) (drop-cons text i 0 within)
    ∙ parts-byte sign (take i text) (get_or text i 0) (drop (suc i) text) other
    ∙ ap (λ xs. parts_after sign xs (drop (suc i) text)) (sym (take_more text i 0 within))
    ∙ ap (λ n. parts_after sign (take (i + 1) text) (drop n text)) (sym (add-one i))

pub parts-cut : (sign : ℕ) (text : List ℕ) (i : ℕ) → i < length text → get_or text i 0 ≡ sign
    → parts_after sign (take i text) (drop i text) ≡ take i text ∷ parts_after sign [] (drop (i + 1) text)
parts-cut sign text i within is =
    ap (λ xs. parts_after sign (take i text) xs) (drop-cons text i 0 within)
    ∙ parts-sign sign (take i text) (get_or text i 0) (drop (suc i) text) is
    ∙ ap (λ n. take i text ∷ parts_after sign [] (drop n text)) (sym (add-one i))

-- there is a first part
pub parts-some : (sign : ℕ) (part text : List ℕ) → 0 < length (parts_after sign part text)
unfolding parts_after
parts-some sign part [] = omega arith
parts-some sign part (b ∷ rest) = elim (b == sign) as
    (λ v. 0 < length (if v then part ∷ parts_after sign [] rest else parts_after sign (part ++ b ∷ []) rest))
    [ true ↦ omega arith | false ↦ parts-some sign (part ++ b ∷ []) rest ]
