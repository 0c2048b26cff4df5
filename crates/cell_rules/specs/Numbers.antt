-- The one order of the refusals: each has a number, and the tests of an entry stand in the order of their refusals
use Rattle.std.specs.Prelude.{ℕ, Bool, ◌&&◌, nat_le, List, [], ◌∷◌}
use Rattle.cell_rules.specs.declared.refusal.Refusal.{Refusal}
use Rattle.cell_rules.specs.declared.refusal.Refusal.TheVariants.{JournalFull, PlateLimit, MachineFailed}
use Rattle.cell_rules.specs.declared.refusal.Refusal.TheVariants.{MachineHealthy, OwnerFailed, WrongPose, ZoneTaken}
use Rattle.cell_rules.specs.declared.refusal.Refusal.TheVariants.{NotHolder, NotNeighbour, StationEmpty, StationFull}
use Rattle.cell_rules.specs.declared.refusal.Refusal.TheVariants.{WrongPlate, LampRed, LampAlready, NoPress}
use Rattle.cell_rules.specs.declared.refusal.Refusal.TheVariants.{AlreadyAsked, PlateStillThere, PlateExpected}
use Rattle.cell_rules.specs.declared.refusal.Refusal.TheVariants.{NotReturnable, OutOfMemory}

abbrev pub refusal_number : Refusal → ℕ
refusal_number JournalFull = 1
refusal_number PlateLimit = 2
refusal_number (MachineFailed m) = 3
refusal_number (MachineHealthy m) = 4
refusal_number (OwnerFailed m) = 5
refusal_number (WrongPose a) = 6
refusal_number (ZoneTaken z) = 7
refusal_number (NotHolder z) = 8
refusal_number NotNeighbour = 9
refusal_number (StationEmpty s) = 10
refusal_number (StationFull s) = 11
refusal_number WrongPlate = 12
refusal_number (LampRed b) = 13
refusal_number (LampAlready b) = 14
refusal_number NoPress = 15
refusal_number (AlreadyAsked m) = 16
refusal_number (PlateStillThere s) = 17
refusal_number PlateExpected = 19
refusal_number NotReturnable = 20
refusal_number OutOfMemory = 21

-- the tests' refusals have numbers from n to 20, none below the one before it; want of memory comes after them all
abbrev pub ascends_from : ℕ → List (Bool × Refusal) → Bool
ascends_from n [] = nat_le n 20
ascends_from n (t ∷ ts) = nat_le n (refusal_number t.1) && ascends_from (refusal_number t.1) ts
