-- An entry and a refusal as sentences
use Rattle.std.specs.Prelude.{ℕ, List, ◌++◌, codes, decimal}
use Rattle.cell_types.specs.declared.words.Actor.{Actor}
use Rattle.cell_types.specs.declared.words.Actor.TheVariants as actor
use Rattle.cell_types.specs.declared.words.Entry.{Entry}
use Rattle.cell_types.specs.declared.words.Entry.TheVariants.{Lamp, Admitted, Claimed, Yielded, Started, Arrived}
use Rattle.cell_types.specs.declared.words.Entry.TheVariants.{Conveyed, Forged, Gripped, Dropped, Delivered, Declared}
use Rattle.cell_types.specs.declared.words.Entry.TheVariants.{StopAsked, Quarantined, Repaired, Expected, Reinstated}
use Rattle.cell_types.specs.Entries.{actor_of}
use Rattle.cell_rules.specs.declared.refusal.Refusal.{Refusal}
use Rattle.cell_rules.specs.declared.refusal.Refusal.TheVariants.{JournalFull, PlateLimit, MachineFailed}
use Rattle.cell_rules.specs.declared.refusal.Refusal.TheVariants.{MachineHealthy, OwnerFailed, WrongPose, ZoneTaken}
use Rattle.cell_rules.specs.declared.refusal.Refusal.TheVariants.{NotHolder, NotNeighbour, StationEmpty, StationFull}
use Rattle.cell_rules.specs.declared.refusal.Refusal.TheVariants.{WrongPlate, LampRed, LampAlready, NoPress}
use Rattle.cell_rules.specs.declared.refusal.Refusal.TheVariants.{AlreadyAsked, PlateStillThere, PlateExpected}
use Rattle.cell_rules.specs.declared.refusal.Refusal.TheVariants.{NotReturnable, OutOfMemory}
use Rattle.cell_sentences.specs.Names.{machine_name, the_machine, station_name, axis_name, axis_of_its_machine}
use Rattle.cell_sentences.specs.Names.{way_to_pose, zone_name, arm_name, light_name, colour_name, cause_name}

-- who books an entry
abbrev pub actor_name : Actor → List ℕ
actor_name (actor.Machine m) = machine_name m
actor_name actor.Operator = codes "operator"

-- a plate's number within a sentence
abbrev pub plate_name : ℕ → List ℕ
plate_name plate = codes "plate " ++ decimal plate

-- what an entry says of its actor
abbrev pub deed : Entry → List ℕ
deed (Lamp belt colour) = codes "its light turns " ++ colour_name colour
deed (Admitted plate) = plate_name plate ++ codes " is admitted"
deed (Claimed m zone) = codes "claims " ++ zone_name zone
deed (Yielded m zone) = codes "gives up " ++ zone_name zone
deed (Started axis to) = axis_of_its_machine axis ++ codes "starts to go " ++ way_to_pose to
deed (Arrived axis at) = axis_of_its_machine axis ++ codes "has gone " ++ way_to_pose at
deed (Conveyed axis plate dest) = codes "brings " ++ plate_name plate ++ codes " to " ++ station_name dest
deed (Forged press plate) = codes "forges " ++ plate_name plate
deed (Gripped arm plate src) = arm_name arm ++ codes " grips " ++ plate_name plate ++ codes " at " ++ station_name src
deed (Dropped arm plate dest) = arm_name arm ++ codes " drops " ++ plate_name plate ++ codes " at " ++ station_name dest
deed (Delivered plate) = plate_name plate ++ codes " leaves the cell"
deed (Declared m cause) = codes "is declared failed, since " ++ cause_name cause
deed (StopAsked m) = codes "asks " ++ the_machine m ++ codes " to stop"
deed (Quarantined plate src) = codes "takes " ++ plate_name plate ++ codes " from " ++ station_name src
    ++ codes " into quarantine"
deed (Repaired m) = the_machine m ++ codes " is repaired"
deed (Expected plate) = plate_name plate ++ codes " is expected back"
deed (Reinstated plate) = plate_name plate ++ codes " is laid back"

-- what an entry did, to stand after its number
abbrev pub entry_deed : Entry → List ℕ
entry_deed (Lamp belt colour) = codes "turned " ++ (light_name belt ++ (codes " " ++ colour_name colour))
entry_deed (Admitted plate) = codes "admitted " ++ plate_name plate
entry_deed (Claimed m zone) = codes "claimed " ++ (zone_name zone ++ (codes " for " ++ the_machine m))
entry_deed (Yielded m zone) = codes "gave up " ++ zone_name zone
entry_deed (Started axis to) = codes "sent " ++ (axis_name axis ++ (codes " " ++ way_to_pose to))
entry_deed (Arrived axis at) = codes "brought " ++ (axis_name axis ++ (codes " " ++ way_to_pose at))
entry_deed (Conveyed axis plate dest) = codes "brought " ++ (plate_name plate ++ (codes " to " ++ station_name dest))
entry_deed (Forged press plate) = codes "forged " ++ (plate_name plate ++ (codes " in " ++ the_machine press))
entry_deed (Gripped arm plate src) = codes "gripped "
    ++ (plate_name plate ++ (codes " at " ++ (station_name src ++ (codes " with " ++ arm_name arm))))
entry_deed (Dropped arm plate dest) = codes "dropped " ++ (plate_name plate ++ (codes " at " ++ station_name dest))
entry_deed (Delivered plate) = codes "delivered " ++ plate_name plate
entry_deed (Declared m cause) = codes "declared " ++ (the_machine m ++ codes " failed")
entry_deed (StopAsked m) = codes "asked " ++ (the_machine m ++ codes " to stop")
entry_deed (Quarantined plate src) = codes "took "
    ++ (plate_name plate ++ (codes " from " ++ (station_name src ++ codes " into quarantine")))
entry_deed (Repaired m) = codes "repaired " ++ the_machine m
entry_deed (Expected plate) = codes "expected " ++ (plate_name plate ++ codes " back")
entry_deed (Reinstated plate) = codes "laid " ++ (plate_name plate ++ codes " back")

-- an entry: who books it, and what it says of him
abbrev pub entry_sentence : Entry → List ℕ
entry_sentence e = actor_name (actor_of e) ++ codes ": " ++ deed e

-- why an entry is refused
abbrev pub refusal_sentence : Refusal → List ℕ
refusal_sentence JournalFull = codes "the journal is full"
refusal_sentence PlateLimit = codes "as many plates are admitted as the limit allows"
refusal_sentence (MachineFailed m) = the_machine m ++ codes " is booked failed"
refusal_sentence (MachineHealthy m) = the_machine m ++ codes " isn't booked failed"
refusal_sentence (OwnerFailed m) = the_machine m ++ codes ", the owner, is booked failed"
refusal_sentence (WrongPose axis) = axis_name axis ++ codes " isn't where it has to be, moves, or has no such motion"
refusal_sentence (ZoneTaken zone) = zone_name zone ++ codes " is held"
refusal_sentence (NotHolder zone) = codes "the machine doesn't hold " ++ zone_name zone
refusal_sentence NotNeighbour = codes "the machine has no part in the zone, or the arm doesn't serve the station"
refusal_sentence (StationEmpty station) = codes "no plate is at " ++ station_name station
refusal_sentence (StationFull station) = codes "a plate is at " ++ station_name station
refusal_sentence WrongPlate = codes "the plate isn't the one that the entry has to name"
refusal_sentence (LampRed belt) = light_name belt ++ codes " is red"
refusal_sentence (LampAlready belt) = light_name belt ++ codes " has that colour already"
refusal_sentence NoPress = codes "the machine isn't a press"
refusal_sentence (AlreadyAsked m) = codes "a stop of " ++ the_machine m ++ codes " is asked already"
refusal_sentence (PlateStillThere station) = codes "a plate is still at " ++ station_name station
refusal_sentence PlateExpected = codes "a plate is expected back"
refusal_sentence NotReturnable = codes "the plate was cleared from a station that isn't before a press"
refusal_sentence OutOfMemory = codes "memory was refused"
