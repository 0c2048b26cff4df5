-- The first line of a text, as far as it was gone through
use Rattle.std.proofs.Common.{◌≡◌, ◌≢◌, ℕ, ◌+◌, ◌<◌, ◌≤◌, List, [], ◌∷◌, ◌++◌, length, get_or, take, drop, refl, sym}
use Rattle.std.proofs.Common.{ap, ◌∙◌, append_assoc, append-nil}
use Rattle.std.proofs.lemmas.Bool.{ne_eqb}
use Rattle.std.proofs.lemmas.List.{drop_all, drop_more, take_more, take_all}
use Rattle.cell_sweep.specs.Rows.{first_line}

first-end : (b : ℕ) (bs : List ℕ) → b ≡ 10 → first_line (b ∷ bs) ≡ []
first-end b bs e = rw e refl

first-cons : (b : ℕ) (bs : List ℕ) → b ≢ 10 → first_line (b ∷ bs) ≡ b ∷ first_line bs
first-cons b bs ne = rw (ne_eqb b 10 ne) refl

-- where a line feed stands behind the part that was gone through, that part is the first line
pub line-ends : (text : List ℕ) (i : ℕ) → i < length text → get_or text i 0 ≡ 10
    → first_line text ≡ take i text ++ first_line (drop i text) → take i text ≡ first_line text
line-ends text i inside feed so_far =
    sym (so_far ∙ ap (λ ys. take i text ++ ys) (ap first_line (drop_more text i 0 inside)
    ∙ first-end (get_or text i 0) (drop (i + 1) text) feed) ∙ append-nil (take i text))

-- any other byte is gone through
pub line-more : (text : List ℕ) (i : ℕ) → i < length text → get_or text i 0 ≢ 10
    → first_line text ≡ take i text ++ first_line (drop i text)
    → first_line text ≡ take (i + 1) text ++ first_line (drop (i + 1) text)
line-more text i inside other so_far =
    let rest = ap first_line (drop_more text i 0 inside) ∙ first-cons (get_or text i 0) (drop (i + 1) text) other in
    so_far ∙ ap (λ ys. take i text ++ ys) rest
    ∙ sym (append_assoc (take i text) (get_or text i 0 ∷ []) (first_line (drop (i + 1) text)))
    ∙ ap (λ ys. ys ++ first_line (drop (i + 1) text)) (sym (take_more text i 0 inside))

-- where no line feed stands in a text, it is its first line
pub line-whole : (text : List ℕ) (i : ℕ) → length text ≤ i → first_line text ≡ take i text ++ first_line (drop i text)
    → text ≡ first_line text
line-whole text i past so_far =
    sym (so_far ∙ ap (λ ys. take i text ++ ys) (ap first_line (drop_all i text past)) ∙ append-nil (take i text)
    ∙ take_all i text past)
