-- The bytes of a line that are held, and what a line with them is
use Rattle.std.proofs.Common.{◌≡◌, ◌∙◌, ◌≤◌, ◌<◌, ◌+◌, ◌-◌, ◌==◌, ℕ, List, [], ◌∷◌, ◌++◌, length, take, get_or, Bool}
use Rattle.std.proofs.Common.{true, false, if◌then◌else◌, ap, sym, refl, arith}
use Rattle.std.specs.List.{list_all}
use Rattle.std.proofs.lemmas.Bool.{lt-ltb, le-ltb}
use Rattle.std.proofs.lemmas.List.{length-take, length-append, take_all, take-append-le}
use Rattle.std.proofs.lemmas.List.Folds.{list_all-append}
use Rattle.line_reader.specs.Lines.{HoldsLine, is_within, without_return}

within-more : (line : List ℕ) (b : ℕ) → list_all is_within line ≡ true → is_within b ≡ true
    → list_all is_within (line ++ b ∷ []) ≡ true
within-more line b h w = list_all-append is_within line (b ∷ []) ∙ rw (h, w) refl

-- there is room left, so all bytes so far are held, and this one too
pub kept-more : (items after : List ℕ) (long : Bool) (line : List ℕ) (b : ℕ) → HoldsLine items long line
    → is_within b ≡ true → length items < 128 → after ≡ items ++ b ∷ [] → HoldsLine after long (line ++ b ∷ [])
kept-more items after long line b h w short grown =
    let few : length line < 128 = omega (arith, length-take 128 line, ap length h.first, short) in
    let len = length-append line (b ∷ []) in
    record {
      first = grown ∙ ap (λ xs. xs ++ b ∷ []) (h.first ∙ take_all 128 line (omega arith))
          ∙ sym (take_all 128 (line ++ b ∷ []) (omega (arith, len)));
      long = h.long ∙ le-ltb 128 (length line) (omega arith)
          ∙ sym (le-ltb 128 (length (line ++ b ∷ [])) (omega (arith, len)));
      within = within-more line b h.within w;
    }

-- no room is left, so the line is long, and its first bytes stay those that are held
pub kept-full : (items : List ℕ) (long : Bool) (line : List ℕ) (b : ℕ) → HoldsLine items long line → is_within b ≡ true
    → length items ≡ 128 → HoldsLine items true (line ++ b ∷ [])
kept-full items long line b h w full =
    let many : 128 ≤ length line = omega (arith, length-take 128 line, ap length h.first, full) in
    let len = length-append line (b ∷ []) in
    record {
      first = h.first ∙ sym (take-append-le 128 line (b ∷ []) many);
      long = sym (lt-ltb 128 (length (line ++ b ∷ [])) (omega (arith, len, many)));
      within = within-more line b h.within w;
    }

-- a line loses at most one byte
pub return-length : (line : List ℕ) → length line ≤ length (without_return line) + 1
return-length line =
    elim (get_or line (length line - 1) 0 == 13) as
    (λ v. length line ≤ length (if v then take (length line - 1) line else line) + 1) [
      | true ↦ omega (arith, length-take (length line - 1) line)
      | false ↦ omega arith
    ]
