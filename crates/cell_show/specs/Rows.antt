-- A state of the cell as one row of the page's data: an array of numbers and words in the syntax of JSON
use Rattle.std.specs.Prelude.{ℕ, ◌+◌, Bool, Option, Some, None, List, [], ◌∷◌, ◌++◌, codes, decimal, map, if◌then◌else◌}
use Rattle.std.specs.List.{flat_map, join_with_byte}
use Rattle.cell_types.specs.declared.words.Actor.{Actor}
use Rattle.cell_types.specs.declared.words.Actor.TheVariants as actor
use Rattle.cell_types.specs.declared.words.AxisState.{AxisState}
use Rattle.cell_types.specs.declared.words.Colour.{Colour}
use Rattle.cell_types.specs.declared.words.Colour.TheVariants as colour
use Rattle.cell_types.specs.declared.words.Entry.{Entry}
use Rattle.cell_types.specs.declared.words.Machine.{Machine}
use Rattle.cell_types.specs.declared.words.Pose.{Pose}
use Rattle.cell_types.specs.declared.words.Totals.{Totals}
use Rattle.cell_types.specs.Entries.{actor_of}
use Rattle.cell_types.specs.Same.{machine_number, pose_number}
use Rattle.cell_types.specs.Spelling.{record_of}
use Rattle.cell_sentences.specs.Sentences.{entry_sentence}
use Rattle.cell_picture.specs.declared.facts.Facts.{Facts}
use Rattle.cell_picture.specs.declared.facts.ShownPlate.{ShownPlate}

-- a word of a list: `a` for the first
abbrev pub letter : ℕ → List ℕ
letter place = (97 + place) ∷ []

-- a plate's number, 0 where there is none
abbrev pub plate_number : Option ShownPlate → List ℕ
plate_number None = codes "0"
plate_number (Some p) = decimal p.plate

-- 1 where something holds, and 0 where not
abbrev pub flag : Bool → List ℕ
flag holds = if holds then codes "1" else codes "0"

-- whether the plate at a station is forged, 0 where there is none
abbrev pub plate_mark : Option ShownPlate → List ℕ
plate_mark None = codes "0"
plate_mark (Some p) = flag p.forged

-- the pose that an axis has or has left
abbrev pub pose_letter : AxisState → List ℕ
pose_letter axis = letter (pose_number axis.at)

-- a pose to which an axis is going
abbrev pub aim_letter : Option Pose → List ℕ
aim_letter None = codes "-"
aim_letter (Some to) = letter (pose_number to)

-- where an axis is going
abbrev pub going_letter : AxisState → List ℕ
going_letter axis = aim_letter axis.going

-- a zone's holder
abbrev pub holder_letter : Option Machine → List ℕ
holder_letter None = codes "-"
holder_letter (Some m) = letter (machine_number m)

-- the first letter of a light's colour
abbrev pub lamp_letter : Colour → List ℕ
lamp_letter colour.Red = codes "r"
lamp_letter colour.Green = codes "g"

-- who booked an entry: the machines' places, and 6 for the operator
abbrev pub actor_place : Actor → ℕ
actor_place (actor.Machine m) = machine_number m
actor_place actor.Operator = 6

abbrev pub quoted : List ℕ → List ℕ
quoted text = codes "\"" ++ (text ++ codes "\"")

abbrev pub bracketed : List ℕ → List ℕ
bracketed text = codes "[" ++ (text ++ codes "]")

-- cells with commas between them
abbrev pub with_commas : List (List ℕ) → List ℕ
with_commas cells = join_with_byte 44 cells

-- the plates by station and which of them are forged, the axes' poses, and where the axes are going
abbrev pub place_cells : Facts → List (List ℕ)
place_cells f =
    bracketed (with_commas (map plate_number f.plates)) ∷ quoted (flat_map plate_mark f.plates)
    ∷ quoted (flat_map pose_letter f.axes) ∷ quoted (flat_map going_letter f.axes) ∷ []

-- the zones' holders, the failed and the asked machines, and the lights
abbrev pub machine_cells : Facts → List (List ℕ)
machine_cells f =
    quoted (flat_map holder_letter f.holders) ∷ quoted (flat_map flag f.failed)
    ∷ quoted (flat_map flag f.asked) ∷ quoted (flat_map lamp_letter f.lamps) ∷ []

-- the six totals
abbrev pub total_cells : Totals → List (List ℕ)
total_cells t =
    decimal t.entries ∷ decimal t.admitted ∷ decimal t.forged
    ∷ decimal t.quarantined ∷ decimal t.delivered ∷ decimal t.reinstated ∷ []

-- the expected plate, 0 where there is none, the plates in quarantine, and the totals
abbrev pub expected_number : Option ℕ → ℕ
expected_number None = 0
expected_number (Some plate) = plate

abbrev pub count_cells : Facts → List (List ℕ)
count_cells f = decimal (expected_number f.expected) ∷ decimal f.quarantine
    ∷ bracketed (with_commas (total_cells f.totals)) ∷ []

-- of the last entry who booked it, its record and its sentence
abbrev pub entry_cells : Option Entry → List (List ℕ)
entry_cells None = codes "-1" ∷ quoted [] ∷ quoted [] ∷ []
entry_cells (Some e) = decimal (actor_place (actor_of e)) ∷ quoted (with_commas (record_of e))
    ∷ quoted (entry_sentence e) ∷ []

-- a row: its cells in this order
unfoldable pub row_text : Facts → Option Entry → List ℕ
row_text f last =
    bracketed (with_commas (place_cells f)
    ++ (codes "," ++ (with_commas (machine_cells f)
    ++ (codes "," ++ (with_commas (count_cells f) ++ (codes "," ++ with_commas (entry_cells last)))))))
