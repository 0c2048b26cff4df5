-- What is true of the faults of a run that is drawn
use Rattle.std.specs.Prelude.{◌≡◌, ℕ, List, [], ◌∷◌, ◌++◌, length, min, ⊤}
use Rattle.std.specs.List.{Contains}
use Rattle.cell_sim.specs.declared.fault.Fault.{Fault}
use Rattle.cell_sim.specs.declared.fault.PlannedFault.{PlannedFault}
use Rattle.cell_sweep.specs.Cases.{planned}
use Rattle.cell_sweep.specs.declared.places.Motion.{Motion}

-- a fault in this motion, of one of the kinds
abbrev pub IsOneOf : List Fault → Motion → PlannedFault → Type 0
IsOneOf kinds m f = (kind : Fault) × Contains kinds kind × (f ≡ planned m kind)

-- each of these faults is of one of the kinds, and in a motion behind that of the fault before
abbrev pub AreIn : List Fault → List PlannedFault → List Motion → Type 0
AreIn kinds [] motions = ⊤
AreIn kinds (f ∷ faults) motions =
    (before : List Motion) × (m : Motion) × (after : List Motion) × (motions ≡ before ++ m ∷ after)
    × IsOneOf kinds m f × AreIn kinds faults after

-- how many faults are drawn: so many, or one in each motion where there are fewer, and none without kinds
abbrev pub drawn_count : List Fault → List Motion → ℕ → ℕ
drawn_count [] motions n = 0
drawn_count (kind ∷ kinds) motions n = min n (length motions)

-- these faults are drawn: so many, in different motions
abbrev pub AreDrawn : List Fault → List Motion → ℕ → List PlannedFault → Type 0
AreDrawn kinds motions n faults = (length faults ≡ drawn_count kinds motions n) × AreIn kinds faults motions
