-- Marks of the bytes that end fields
use Rattle.std.proofs.Common.{◌≡◌, ◌≢◌, ◌≤◌, ◌<◌, ◌+◌, ◌-◌, ◌*◌, ◌/◌, ◌%◌, ◌^◌, ◌∙◌, ◌||◌, ℕ, zero, suc}
use Rattle.std.proofs.Common.{Bool, true, false, not, List, [], ◌∷◌, length, take, drop, get_or, map, cond, Fits, w8}
use Rattle.std.proofs.Common.{refl, sym, ap, ap₂, subst, arith}
use Rattle.std.specs.Prelude.{slice_range}
use Rattle.std.specs.List.{prefix_len, list_any}
use Rattle.std.specs.Simd.Lanes.{Each1, chunk, mask_l}
use Rattle.std.proofs.lemmas.Bool.{agree_below, agree_below_at}
use Rattle.std.proofs.lemmas.List.{drop-drop, drop-map, drop-take, length-map}
use Rattle.std.proofs.lemmas.List.Edits.{length-between}
use Rattle.std.proofs.lemmas.Nat.{shr-shr}
use Rattle.std.proofs.lemmas.Simd.{chunk-fits, length-chunk, map-map, mask_l-mod, trailing_mask_l}
use lib.Count.{count_trailing_zeros}
use lib.Lanes.{top}
use Rattle.csv.specs.Writing.{default_writer, needs_byte, needs_quotes}
use Rattle.cell_rows.specs.Plain.{ends_marked}

-- tests that agree on bytes give the same list
same_tests : (p q : ℕ → Bool) (xs : List ℕ) → agree_below p q 256 ≡ true → Each1 (Fits w8) xs → map p xs ≡ map q xs
same_tests p q [] agree fits = refl
same_tests p q (x ∷ xs) agree fits =
    ap₂ (λ (b : Bool) (bs : List Bool). b ∷ bs) (agree_below_at p q 256 x agree fits.0.fits)
    (same_tests p q xs agree fits.1)

-- the marks of a load, whose lanes were computed from its bytes
pub marks_of_load : (text : List ℕ) (from : ℕ) (z : List ℕ) (f : ℕ → ℕ) → from + 32 ≤ length text
    → ((k : ℕ) → Fits w8 (get_or text k 0)) → agree_below (λ x. top 7 (f x)) (needs_byte default_writer) 256 ≡ true
    → z ≡ map f (chunk from 32 text) → mask_l (map (top 7) z) % 2 ^ 64 ≡ ends_marked text from (from + 32)
marks_of_load text from z f room fits agree is =
    let v = chunk from 32 text in
    let p = needs_byte default_writer in
    let lanes : map (top 7) z ≡ map p v = ap (map (top 7)) is ∙ map-map (top 7) f v
    ∙ same_tests (λ x. top 7 (f x)) p v agree (chunk-fits w8 from 32 text fits) in
    let count : 32 ≡ from + 32 - from = omega arith in
    ap (λ (ms : List Bool). mask_l ms % 2 ^ 64) lanes
    ∙ mask_l-mod (map p v) 64 (omega (arith, length-map v p, length-chunk from 32 text room))
    ∙ ap (λ (n : ℕ). mask_l (map p (take n (drop from text)))) count

-- before the first byte that passes there is none
none_before : (p : ℕ → Bool) (xs : List ℕ) → list_any p (take (prefix_len (λ x. not (p x)) xs) xs) ≡ false
none_before p [] = refl
none_before p (x ∷ xs) = by (p x) refl (none_before p xs)
  where
    n : ℕ
    n = prefix_len (λ y. not (p y)) xs

    by : (b : Bool) → p x ≡ b → list_any p (take n xs) ≡ false
        → list_any p (take (cond (not b) (1 + n) 0) (x ∷ xs)) ≡ false
    by true e rest = refl
    by false e rest =
        let next : suc n ≡ 1 + n = omega arith in
        subst (λ (k : ℕ). list_any p (take k (x ∷ xs)) ≡ false) next
        (ap (λ (c : Bool). c || list_any p (take n xs)) e ∙ rest)

-- where there is a mark, a byte passes
some_passes : (p : ℕ → Bool) (xs : List ℕ) → mask_l (map p xs) ≢ 0 → prefix_len (λ x. not (p x)) xs < length xs
some_passes p [] some = absurd (some refl)
some_passes p (x ∷ xs) some = by (p x) some (some_passes p xs)
  where
    n : ℕ
    n = prefix_len (λ y. not (p y)) xs

    by : (b : Bool) → cond b 1 0 + 2 * mask_l (map p xs) ≢ 0 → (mask_l (map p xs) ≢ 0 → n < length xs)
        → cond (not b) (1 + n) 0 < suc (length xs)
    by true h rest = omega arith
    by false h rest = omega (arith, rest (λ e. h (omega (arith, e))))

-- half of the marks are those behind the first byte
halved : (m : Bool) (ms : List Bool) → mask_l (m ∷ ms) / 2 ^ 1 ≡ mask_l ms
halved true ms = omega arith
halved false ms = omega arith

-- the marks behind so many bytes
marks_behind : (k : ℕ) (ms : List Bool) → mask_l ms / 2 ^ k ≡ mask_l (drop k ms)
marks_behind zero ms = omega arith
marks_behind (suc k) [] = omega arith
marks_behind (suc k) (m ∷ ms) =
    sym (shr-shr (mask_l (m ∷ ms)) 1 k ∙ ap (λ (n : ℕ). mask_l (m ∷ ms) / 2 ^ n) (omega arith))
    ∙ ap (λ (x : ℕ). x / 2 ^ k) (halved m ms) ∙ marks_behind k ms

-- a field of plain bytes ends at the lowest mark, and the higher ones are those behind its end
pub found : (text : List ℕ) (from edge marks : ℕ) → from ≤ edge → edge ≤ from + 32 → edge ≤ length text
    → marks ≡ ends_marked text from edge → marks ≢ 0 → (from + count_trailing_zeros 64 marks < edge)
    × (needs_quotes default_writer (take (count_trailing_zeros 64 marks) (slice_range text from edge)) ≡ false)
    × (marks / 2 ^ count_trailing_zeros 64 marks / 2 ≡ ends_marked text (from + count_trailing_zeros 64 marks + 1) edge)
found text from edge marks low few end is some =
    let p = needs_byte default_writer in
    let xs = slice_range text from edge in
    let n = count_trailing_zeros 64 marks in
    let size = length-between text from edge end in
    let marked : mask_l (map p xs) ≢ 0 = λ e. some (is ∙ e) in
    let first : n ≡ prefix_len (λ x. not (p x)) xs = ap (count_trailing_zeros 64) is
    ∙ trailing_mask_l p 64 xs (omega (arith, size)) (omega (arith, marked)) in
    let within : from + n < edge = omega (arith, first, size, some_passes p xs marked) in
    let behind : drop (n + 1) xs ≡ slice_range text (from + n + 1) edge =
    ap (λ (k : ℕ). drop (n + 1) (take k (drop from text))) (omega (arith, within))
    ∙ drop-take (n + 1) (edge - (from + n + 1)) (drop from text)
    ∙ ap (take (edge - (from + n + 1))) (drop-drop (n + 1) from text
    ∙ ap (λ (k : ℕ). drop k text) (omega arith)) in (
      within,
      subst (λ (k : ℕ). list_any p (take k xs) ≡ false) (sym first) (none_before p xs),
      shr-shr marks n 1 ∙ ap (λ (x : ℕ). x / 2 ^ (n + 1)) is ∙ marks_behind (n + 1) (map p xs)
          ∙ ap mask_l (drop-map p (n + 1) xs ∙ ap (map p) behind),
    )
