-- The parts of a line that names a path.
use Rattle.std.proofs.Common.{◌≡◌, ℕ, List, [], ◌∷◌, ◌++◌, Option, refl, sym, subst, append_assoc}
use Rattle.std.specs.Io.KnownBytes.{Appends}
use Rattle.std.proofs.KnownBytes.{Appends-trans}
use Rattle.cell_output.specs.Watched.{WritesPart}
use Rattle.cell_output.proofs.Pieces.{part-after}
use Rattle.cell_settings.specs.Checked.{escaped, path_line}

-- the name is written, and a part of the path
pub path-part : (a b c : Option (List ℕ)) (name word path : List ℕ) → word ≡ name
    → Appends a b word → WritesPart b c (escaped path) → WritesPart a c (path_line name path)
path-part a b c name word path is x y =
    subst (λ n. WritesPart a c (path_line n path)) is
    (part-after a b c word (escaped path) (10 ∷ []) (path_line word path) refl x y)

-- the name and the path are written, and a part of the line's end
pub end-part : (a b c d : Option (List ℕ)) (name word path : List ℕ) → word ≡ name
    → Appends a b word → Appends b c (escaped path) → WritesPart c d (10 ∷ []) → WritesPart a d (path_line name path)
end-part a b c d name word path is x y z =
    subst (λ n. WritesPart a d (path_line n path)) is
    (part-after a c d (word ++ escaped path) (10 ∷ []) [] (path_line word path)
    (sym (append_assoc word (escaped path) (10 ∷ []))) (Appends-trans a b c word (escaped path) x y) z)
