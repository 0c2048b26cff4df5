-- What is printed of a refusal: its name, and the word of the machine, axis, zone, station or light that it names
use Rattle.std.specs.Prelude.{ℕ, ◌∷◌, ◌++◌, List, Option, Some, None, codes}
use Rattle.cell_types.specs.Texts.{machine_word, axis_word, zone_word, station_word, belt_word}
use Rattle.cell_rules.specs.declared.refusal.Refusal.{Refusal}
use Rattle.cell_rules.specs.declared.refusal.Refusal.TheVariants.{JournalFull, PlateLimit, MachineFailed}
use Rattle.cell_rules.specs.declared.refusal.Refusal.TheVariants.{MachineHealthy, OwnerFailed, WrongPose, ZoneTaken}
use Rattle.cell_rules.specs.declared.refusal.Refusal.TheVariants.{NotHolder, NotNeighbour, StationEmpty, StationFull}
use Rattle.cell_rules.specs.declared.refusal.Refusal.TheVariants.{WrongPlate, LampRed, LampAlready, NoPress}
use Rattle.cell_rules.specs.declared.refusal.Refusal.TheVariants.{AlreadyAsked, PlateStillThere, PlateExpected}
use Rattle.cell_rules.specs.declared.refusal.Refusal.TheVariants.{NotReturnable, OutOfMemory}

abbrev pub refusal_name : Refusal → List ℕ
refusal_name JournalFull = codes "JournalFull"
refusal_name PlateLimit = codes "PlateLimit"
refusal_name (MachineFailed m) = codes "MachineFailed"
refusal_name (MachineHealthy m) = codes "MachineHealthy"
refusal_name (OwnerFailed m) = codes "OwnerFailed"
refusal_name (WrongPose a) = codes "WrongPose"
refusal_name (ZoneTaken z) = codes "ZoneTaken"
refusal_name (NotHolder z) = codes "NotHolder"
refusal_name NotNeighbour = codes "NotNeighbour"
refusal_name (StationEmpty s) = codes "StationEmpty"
refusal_name (StationFull s) = codes "StationFull"
refusal_name WrongPlate = codes "WrongPlate"
refusal_name (LampRed b) = codes "LampRed"
refusal_name (LampAlready b) = codes "LampAlready"
refusal_name NoPress = codes "NoPress"
refusal_name (AlreadyAsked m) = codes "AlreadyAsked"
refusal_name (PlateStillThere s) = codes "PlateStillThere"
refusal_name PlateExpected = codes "PlateExpected"
refusal_name NotReturnable = codes "NotReturnable"
refusal_name OutOfMemory = codes "OutOfMemory"

abbrev pub refusal_word : Refusal → Option (List ℕ)
refusal_word (MachineFailed m) = Some (machine_word m)
refusal_word (MachineHealthy m) = Some (machine_word m)
refusal_word (OwnerFailed m) = Some (machine_word m)
refusal_word (WrongPose a) = Some (axis_word a)
refusal_word (ZoneTaken z) = Some (zone_word z)
refusal_word (NotHolder z) = Some (zone_word z)
refusal_word (StationEmpty s) = Some (station_word s)
refusal_word (StationFull s) = Some (station_word s)
refusal_word (LampRed b) = Some (belt_word b)
refusal_word (LampAlready b) = Some (belt_word b)
refusal_word (AlreadyAsked m) = Some (machine_word m)
refusal_word (PlateStillThere s) = Some (station_word s)
refusal_word _ = None

-- a name, and its word after a blank, if it has one
abbrev pub with_word : List ℕ → Option (List ℕ) → List ℕ
with_word name (Some word) = name ++ 32 ∷ word
with_word name None = name

-- a refusal as it is printed
abbrev pub refusal_text : Refusal → List ℕ
refusal_text why = with_word (refusal_name why) (refusal_word why)
