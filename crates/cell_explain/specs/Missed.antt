-- What is told of the faults whose motions were never reached
use Rattle.std.specs.Prelude.{ℕ, Bool, false, nat_lt, List, [], ◌∷◌, ◌++◌, codes, decimal, if◌then◌else◌}
use Rattle.std.specs.List.{count_by, flat_map}
use Rattle.cell_types.specs.declared.words.Axis.{Axis}
use Rattle.cell_types.specs.declared.words.Entry.{Entry}
use Rattle.cell_types.specs.declared.words.Entry.TheVariants.{Started}
use Rattle.cell_types.specs.Same.{same_axis}
use Rattle.cell_sim.specs.declared.fault.PlannedFault.{PlannedFault}
use Rattle.cell_sentences.specs.Names.{axis_name}
use Rattle.cell_explain.specs.Words.{times}

-- whether axis a sets out with an entry
abbrev pub sets_out : Axis → Entry → Bool
sets_out a (Started b to) = same_axis b a
sets_out a _ = false

-- how often axis a set out
abbrev pub motions_of : List Entry → Axis → ℕ
motions_of J a = count_by (sets_out a) J

-- the line of a fault whose axis set out only so often
abbrev pub missed_line : PlannedFault → ℕ → List ℕ
missed_line f n = codes "the fault in motion "
    ++ (decimal f.motion ++ (codes " of " ++ (axis_name f.axis
    ++ (codes " was never reached: it set out " ++ (decimal n ++ (times n ++ 10 ∷ []))))))

-- what is told of a fault whose axis set out so often: its line, where that is less often than to its motion
abbrev pub told_fault : PlannedFault → ℕ → List ℕ
told_fault f n = if nat_lt n f.motion then missed_line f n else []

-- what is told of the faults, in the order of the script
abbrev pub missed_of : List Entry → List PlannedFault → List ℕ
missed_of J faults = flat_map (λ (f : PlannedFault). told_fault f (motions_of J f.axis)) faults
