-- A first line and those of totals, in the pieces in which they are written.
use Rattle.std.proofs.Common.{◌≡◌, List, ℕ, [], ◌∷◌, ◌++◌, append_assoc}
use Rattle.std.specs.Prelude.{codes, decimal}
use Rattle.cell_types.specs.declared.words.Totals.{Totals}
use Rattle.cell_runs.specs.Runs.{counts_after}

-- the pieces, where the word is the first line and the digits are those of the totals
pub pieces-counts : (first : List ℕ) (t : Totals) (word a b c d : List ℕ)
    → word ≡ first → a ≡ decimal t.admitted → b ≡ decimal t.forged → c ≡ decimal t.quarantined → d ≡ decimal t.delivered
    → word ++ (codes "\nadmitted " ++ (a ++ (codes "\nforged "
    ++ (b ++ (codes "\nquarantined " ++ (c ++ (codes "\ndelivered " ++ (d ++ 10 ∷ []))))))))
    ≡ counts_after first t
pieces-counts first t word a b c d g h i j k = rw (g, h, i, j, k) (simp append_assoc)
