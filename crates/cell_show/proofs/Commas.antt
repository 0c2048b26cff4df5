-- A cell more after cells with commas between them
use Rattle.std.proofs.Common.{◌≡◌, ◌+◌, ◌<◌, ◌++◌, ℕ, zero, suc, List, [], ◌∷◌, length, map, take, get_or, refl, sym}
use Rattle.std.proofs.Common.{ap, ◌∙◌, arith, append_assoc, add-one}
use Rattle.std.specs.Prelude.{◌==◌, codes, if◌then◌else◌}
use Rattle.cell_show.specs.Rows.{with_commas}

-- what stands before the cell at a place
abbrev pub comma_at : ℕ → List ℕ
comma_at zero = []
comma_at (suc i) = 44 ∷ []

-- a cell brings along the comma before it, and only the first has none
joined : {X : Type 0} (text : X → List ℕ) (xs : List X) (i : ℕ) (d : X) → i < length xs
    → with_commas (map text (take (suc i) xs)) ≡ with_commas (map text (take i xs))
    ++ (comma_at i ++ text (get_or xs i d))
joined text [] i d h = absurd (omega arith)
joined text (x ∷ xs) zero d h = refl
joined text (x ∷ []) (suc i) d h = absurd (omega arith)
joined text (x ∷ y ∷ ys) (suc zero) d h = refl
joined text (x ∷ y ∷ ys) (suc (suc i)) d h =
    ap (λ t. text x ++ (44 ∷ t)) (joined text (y ∷ ys) (suc i) d (omega arith))
    ∙ sym (append_assoc (text x) (44 ∷ with_commas (map text (take (suc i) (y ∷ ys))))
    (44 ∷ text (get_or (y ∷ ys) (suc i) d)))

comma_is : (i : ℕ) → (if i == 0 then [] else 44 ∷ []) ≡ comma_at i
comma_is zero = refl
comma_is (suc i) = grind arith

-- x is the cell's value at the place i
pub one_more : {X : Type 0} (text : X → List ℕ) (xs : List X) (i : ℕ) (d x : X) (comma : List ℕ) → i < length xs
    → x ≡ get_or xs i d → comma ≡ (if i == 0 then [] else 44 ∷ [])
    → with_commas (map text (take i xs)) ++ (comma ++ text x) ≡ with_commas (map text (take (i + 1) xs))
one_more text xs i d x comma h is e =
    rw add-one (ap (λ y. with_commas (map text (take i xs)) ++ (comma ++ text y)) is
    ∙ ap (λ c. with_commas (map text (take i xs)) ++ (c ++ text (get_or xs i d))) (e ∙ comma_is i)
    ∙ sym (joined text xs i d h))

-- a row in the two pieces in which it is written
pub row_pieces : (places machines counts entry : List ℕ)
    → (91 ∷ (places ++ (44 ∷ (machines ++ 44 ∷ [])))) ++ (counts ++ (44 ∷ (entry ++ 93 ∷ [])))
    ≡ codes "[" ++ ((places ++ (codes "," ++ (machines ++ (codes "," ++ (counts ++ (codes "," ++ entry))))))
    ++ codes "]")
row_pieces places machines counts entry = simp append_assoc
