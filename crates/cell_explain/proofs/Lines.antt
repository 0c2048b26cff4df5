-- The lines that end in a text, counted byte by byte
use Rattle.std.proofs.Common.{◌≡◌, ◌==◌, ◌<◌, ◌+◌, ℕ, Bool, false, true, List, [], ◌∷◌, ◌++◌, ◌≤◌, length, take, refl}
use Rattle.std.proofs.Common.{ap, sym}
use Rattle.std.proofs.Common.{arith, ◌∙◌}
use Rattle.std.specs.Prelude.{if◌then◌else◌, slice_index_or}
use Rattle.std.proofs.lemmas.List.{take_more}
use Rattle.cell_explain.specs.Places.{ends_line, lines_ended}

-- whether bytes, of which the first may come right after a return, end in one
abbrev pub ends_in_return : Bool → List ℕ → Bool
ends_in_return after_return [] = after_return
ends_in_return after_return (byte ∷ rest) = ends_in_return (byte == 13) rest

-- the line that one more byte ends is counted last
pub lines_snoc : (r : Bool) (xs : List ℕ) (byte : ℕ) → lines_ended r (xs ++ byte ∷ [])
    ≡ lines_ended r xs + (if ends_line (ends_in_return r xs) byte then 1 else 0)
lines_snoc r [] byte = omega arith
lines_snoc r (x ∷ xs) byte =
    let rest : lines_ended (x == 13) (xs ++ byte ∷ [])
    ≡ lines_ended (x == 13) xs + (if ends_line (ends_in_return (x == 13) xs) byte then 1 else 0) =
    lines_snoc (x == 13) xs byte in
    omega (arith, rest)

pub return_snoc : (r : Bool) (xs : List ℕ) (byte : ℕ) → ends_in_return r (xs ++ byte ∷ []) ≡ (byte == 13)
return_snoc r [] byte = refl
return_snoc r (x ∷ xs) byte = return_snoc (x == 13) xs byte

-- one more byte of a text
lines_more : (text : List ℕ) (at : ℕ) → at < length text → lines_ended false (take (at + 1) text)
    ≡ lines_ended false (take at text)
    + (if ends_line (ends_in_return false (take at text)) (slice_index_or text at 0) then 1 else 0)
lines_more text at h =
    ap (lines_ended false) (take_more text at 0 h) ∙ lines_snoc false (take at text) (slice_index_or text at 0)

pub return_more : (text : List ℕ) (at : ℕ) → at < length text
    → ends_in_return false (take (at + 1) text) ≡ (slice_index_or text at 0 == 13)
return_more text at h =
    ap (ends_in_return false) (take_more text at 0 h) ∙ return_snoc false (take at text) (slice_index_or text at 0)

-- a walk that passes one more byte counts its line
pub lines_step : (text : List ℕ) (at ended new : ℕ) (r : Bool) → at < length text
    → ended ≡ lines_ended false (take at text) → r ≡ ends_in_return false (take at text)
    → new ≡ ended + (if ends_line r (slice_index_or text at 0) then 1 else 0)
    → new ≡ lines_ended false (take (at + 1) text)
lines_step text at ended new r h i j k = k ∙ rw (i, j) (sym (lines_more text at h))

one-more : (b : Bool) (ended at new : ℕ) → ended ≤ at → new ≡ ended + (if b then 1 else 0) → new ≤ at + 1
one-more true ended at new h k = omega arith
one-more false ended at new h k = omega arith

-- no more lines ended than bytes were passed
pub few-more : (text : List ℕ) (r : Bool) (ended at new : ℕ) → ended ≤ at
    → new ≡ ended + (if ends_line r (slice_index_or text at 0) then 1 else 0) → new ≤ at + 1
few-more text r ended at new h k = one-more (ends_line r (slice_index_or text at 0)) ended at new h k
