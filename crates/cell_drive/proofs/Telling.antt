-- What is told of an end, in the pieces in which it is written
use Rattle.std.proofs.Common.{◌≡◌, ◌∙◌, List, ℕ, [], ◌∷◌, ◌++◌, append_assoc}
use Rattle.std.specs.Prelude.{codes, decimal}
use Rattle.cell_types.specs.declared.words.Totals.{Totals}
use Rattle.cell_runs.specs.Runs.{counts_after}
use Rattle.cell_drive.specs.Commanded.{run_counts}

-- the pieces, where the word is the end's
pub end-pieces : (text word w : List ℕ) (t : Totals)
    → text ≡ codes "end," ++ (word ++ (codes ",,\nadmitted " ++ (decimal t.admitted ++ (codes "\nforged "
    ++ (decimal t.forged ++ (codes "\nquarantined " ++ (decimal t.quarantined ++ (codes "\ndelivered "
    ++ (decimal t.delivered ++ 10 ∷ [])))))))))
    → word ≡ w → text ≡ counts_after (codes "end," ++ (w ++ codes ",,")) t
end-pieces text word w t is same = is ∙ rw same (simp append_assoc)

-- the pieces of the counts of a run by commands
pub count-pieces : (text : List ℕ) (r c k : ℕ)
    → text ≡ codes "rounds " ++ (decimal r ++ (codes "\ncommands " ++ (decimal c ++ (codes "\ncollisions "
    ++ (decimal k ++ 10 ∷ [])))))
    → text ≡ run_counts r c k
count-pieces text r c k is = is ∙ simp append_assoc
