-- The line that says a fault
use Rattle.std.specs.Prelude.{◌≤◌, ℕ, List, [], ◌∷◌, Option, Some, None, IfSome, codes, decimal}
use Rattle.cell_rows.specs.Lines.{line}
use Rattle.cell_rows.specs.Texts.{Row}
use Rattle.cell_types.specs.Texts.{axis_word}
use Rattle.cell_sim.specs.declared.fault.Fault.{Fault}
use Rattle.cell_sim.specs.declared.fault.Fault.TheVariants as fault
use Rattle.cell_sim.specs.declared.fault.PlannedFault.{PlannedFault}

-- the word of a kind of faults
abbrev pub word_of : Fault → List ℕ
word_of fault.NoMotion = codes "no_motion"
word_of fault.KeepsOld = codes "keeps_old"
word_of fault.Both = codes "both"
word_of (fault.Slow n) = codes "slow"
word_of fault.LosePlate = codes "lose_plate"
word_of (fault.Silent n) = codes "silent"
word_of fault.RefuseCommand = codes "refuse_command"

-- how many readings a kind has that takes a number of them
abbrev pub readings_of : Fault → Option ℕ
readings_of (fault.Slow n) = Some n
readings_of (fault.Silent n) = Some n
readings_of _ = None

-- a number, or nothing where there is none
abbrev pub number_or_nothing : Option ℕ → List ℕ
number_or_nothing (Some n) = decimal n
number_or_nothing None = []

-- the record of a fault
abbrev pub record_of : PlannedFault → Row
record_of f = axis_word f.axis ∷ decimal f.motion ∷ word_of f.fault ∷ number_or_nothing (readings_of f.fault) ∷ []

-- the script of faults with one fault: one record
abbrev pub script_of : PlannedFault → List ℕ
script_of f = line (record_of f)

-- a record can say a fault: its motion and its readings, if it takes any, are in the ranges of a script
abbrev pub IsSaid : PlannedFault → Type 0
IsSaid f = (1 ≤ f.motion) × (f.motion ≤ 1000000) × IfSome (readings_of f.fault) (λ n. (1 ≤ n) × (n ≤ 1000))
