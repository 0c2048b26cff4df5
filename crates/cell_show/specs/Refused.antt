-- The last step of a page whose text isn't that of a legal journal: a line of the page's data
use Rattle.std.specs.Prelude.{ℕ, Option, Some, List, [], ◌∷◌, ◌++◌, codes, decimal}
use Rattle.cell_types.specs.declared.words.Entry.{Entry}
use Rattle.cell_types.specs.Same.{axis_number, belt_number, machine_number, station_number, zone_number}
use Rattle.cell_rules.specs.declared.refusal.Refusal.{Refusal}
use Rattle.cell_rules.specs.declared.refusal.Refusal.TheVariants.{MachineFailed, MachineHealthy, OwnerFailed, WrongPose}
use Rattle.cell_rules.specs.declared.refusal.Refusal.TheVariants.{ZoneTaken, NotHolder, StationEmpty, StationFull}
use Rattle.cell_rules.specs.declared.refusal.Refusal.TheVariants.{LampRed, LampAlready, AlreadyAsked, PlateStillThere}
use Rattle.cell_rules.specs.Words.{refusal_text}
use Rattle.cell_audit.specs.declared.error.AuditError.{AuditError}
use Rattle.cell_audit.specs.declared.error.AuditError.TheVariants as error
use Rattle.cell_sentences.specs.Sentences.{refusal_sentence}
use Rattle.cell_show.specs.Rows.{bracketed, entry_cells, quoted, with_commas}

-- the part of the drawing that a refusal names: a machine, an axis, a zone, a station's plate or a light by its place
abbrev pub part_name : Refusal → List ℕ
part_name (MachineFailed m) = codes "machine-" ++ decimal (machine_number m)
part_name (MachineHealthy m) = codes "machine-" ++ decimal (machine_number m)
part_name (OwnerFailed m) = codes "machine-" ++ decimal (machine_number m)
part_name (AlreadyAsked m) = codes "machine-" ++ decimal (machine_number m)
part_name (WrongPose axis) = codes "axis-" ++ decimal (axis_number axis)
part_name (ZoneTaken zone) = codes "zone-" ++ decimal (zone_number zone)
part_name (NotHolder zone) = codes "zone-" ++ decimal (zone_number zone)
part_name (StationEmpty station) = codes "plate-" ++ decimal (station_number station)
part_name (StationFull station) = codes "plate-" ++ decimal (station_number station)
part_name (PlateStillThere station) = codes "plate-" ++ decimal (station_number station)
part_name (LampRed belt) = codes "lamp-" ++ decimal (belt_number belt)
part_name (LampAlready belt) = codes "lamp-" ++ decimal (belt_number belt)
part_name _ = []

-- why a record that can be read isn't booked: the refusal, what is so, and the part of the drawing
abbrev pub refusal_cells : Refusal → List (List ℕ)
refusal_cells why = quoted (refusal_text why ++ (codes ": " ++ refusal_sentence why)) ∷ quoted (part_name why) ∷ []

-- why a record isn't one of an entry
abbrev pub unreadable_cells : List (List ℕ)
unreadable_cells = quoted (codes "the record can't be read") ∷ quoted [] ∷ []

-- a step's cells: the number of its record, why it isn't booked, and then the cells of an entry
abbrev pub step_text : ℕ → List (List ℕ) → Option Entry → List ℕ
step_text place reason refused =
    bracketed (decimal place ++ (codes "," ++ (with_commas reason ++ (codes "," ++ with_commas (entry_cells refused)))))

-- the last step for an answer: none for one that speaks of no record
abbrev pub last_step : Option AuditError → Option Entry → List ℕ
last_step (Some (error.Unreadable place)) refused = step_text place unreadable_cells refused
last_step (Some (error.Refused place why)) refused = step_text place (refusal_cells why) refused
last_step _ refused = codes "null"

-- the line of the data
abbrev pub refused_line : Option AuditError → Option Entry → List ℕ
refused_line answer refused = codes "\"refused\":" ++ (last_step answer refused ++ codes ",\n")
