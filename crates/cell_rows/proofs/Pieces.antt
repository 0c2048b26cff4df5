-- Pieces of a text
use Rattle.std.proofs.Common.{◌≡◌, ◌≤◌, ◌<◌, ◌+◌, ◌-◌, ◌∙◌, ℕ, suc, List, ◌∷◌, ◌++◌, length, take, drop, get_or, ap}
use Rattle.std.proofs.Common.{refl, arith}
use Rattle.std.specs.Prelude.{slice_range}
use Rattle.std.proofs.lemmas.List.Folds.{drop_split}
use Rattle.std.proofs.lemmas.List.Edits.{length-between}
use Rattle.std.proofs.Math.Seq.{take-append-add, drop-cons}

-- a piece is two pieces, one after the other
pub seam : (xs : List ℕ) (a b c : ℕ) → a ≤ b → b ≤ c → b ≤ length xs
    → slice_range xs a c ≡ slice_range xs a b ++ slice_range xs b c
seam xs a b c low high end =
    let split : drop a xs ≡ slice_range xs a b ++ drop b xs = drop_split xs a b low in
    let len : length (slice_range xs a b) ≡ b - a = length-between xs a b end in
    let count : c - a ≡ length (slice_range xs a b) + (c - b) = rw len (omega arith) in
    ap (λ (n : ℕ). take n (drop a xs)) count ∙ ap (λ (l : List ℕ). take (length (slice_range xs a b) + (c - b)) l) split
    ∙ take-append-add (slice_range xs a b) (drop b xs) (c - b)

-- a piece begins with its first byte
pub first_of_piece : (xs : List ℕ) (b c : ℕ) (d : ℕ) → b < c → c ≤ length xs
    → slice_range xs b c ≡ get_or xs b d ∷ slice_range xs (b + 1) c
first_of_piece xs b c d some end =
    let next : b + 1 ≡ suc b = omega arith in
    let count : c - b ≡ suc (c - suc b) = omega arith in
    rw (next, count, drop-cons xs b d (omega arith)) refl
