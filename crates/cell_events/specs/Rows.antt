-- The rows of CSV in which events are told
use Rattle.std.specs.Prelude.{ℕ, Option, Some, None, List, [], ◌∷◌, codes, decimal, map, option_map}
use Rattle.cell_types.specs.declared.words.Actor.{Actor}
use Rattle.cell_types.specs.declared.words.Actor.TheVariants as actor
use Rattle.cell_types.specs.declared.words.Axis.{Axis}
use Rattle.cell_types.specs.declared.words.Axis.TheVariants as axis
use Rattle.cell_types.specs.declared.words.Belt.{Belt}
use Rattle.cell_types.specs.declared.words.Belt.TheVariants as belt
use Rattle.cell_types.specs.declared.words.Entry.{Entry}
use Rattle.cell_types.specs.declared.words.Entry.TheVariants.{Lamp, Claimed, Yielded, Started, Gripped, Dropped}
use Rattle.cell_types.specs.declared.words.Entry.TheVariants.{Declared}
use Rattle.cell_types.specs.Cell.{axis_of_arm}
use Rattle.cell_types.specs.Entries.{actor_of}
use Rattle.cell_types.specs.Parts.{parts_of}
use Rattle.cell_types.specs.Spelling.{AWord, Content}
use Rattle.cell_types.specs.Texts.{axis_word, cause_word, colour_word, kind_word, machine_word, pose_word}
use Rattle.cell_types.specs.Texts.{station_word, zone_word}
use Rattle.cell_rows.specs.Texts.{Row}
use Rattle.cell_rows.specs.Lines.{lines_of}
use Rattle.cell_measures.specs.declared.motion.Move.{Move}
use Rattle.cell_measures.specs.declared.durations.Durations.{Durations}
use Rattle.cell_measures.specs.Times.{motion_of}
use Rattle.cell_events.specs.declared.event.Event.{Event}
use Rattle.cell_events.specs.declared.event.Site.{Site}
use Rattle.cell_events.specs.declared.event.Site.TheVariants as site
use Rattle.cell_events.specs.Events.{events}

-- the names of the columns
abbrev pub header : Row
header =
    codes "entry" ∷ codes "begin" ∷ codes "end" ∷ codes "actor" ∷ codes "kind" ∷ codes "axis" ∷ codes "pose"
    ∷ codes "zone" ∷ codes "plate" ∷ codes "station" ∷ codes "cause" ∷ []

-- the word that stands in a field of a record
abbrev pub word_in : Content → List ℕ
word_in (AWord w) = w
word_in _ = []

-- the text of what there may be; nothing where it isn't
abbrev pub text_or_blank : {X : Type 0} → (X → List ℕ) → Option X → List ℕ
text_or_blank text (Some x) = text x
text_or_blank text None = []

-- who books an entry
abbrev pub actor_text : Actor → List ℕ
actor_text (actor.Machine m) = machine_word m
actor_text actor.Operator = codes "operator"

abbrev pub kind_text : Entry → List ℕ
kind_text e = kind_word (parts_of e).kind

abbrev pub belt_axis : Belt → Axis
belt_axis belt.Feed = axis.FeedBelt
belt_axis belt.Deposit = axis.DepositBelt

-- the axis that an entry starts, of the motion that it ends, of the arm that grips or drops, or of the belt whose light
-- it sets
abbrev pub axis_of : Entry → Option Axis
axis_of (Started a to) = Some a
axis_of (Gripped arm k src) = Some (axis_of_arm arm)
axis_of (Dropped arm k dest) = Some (axis_of_arm arm)
axis_of (Lamp b to) = Some (belt_axis b)
axis_of e = option_map (λ (m : Move). m.axis) (motion_of e)

-- the pose to which an entry starts an axis, or the motion goes that it ends; of a light its colour
abbrev pub pose_text : Entry → List ℕ
pose_text (Started a to) = pose_word to
pose_text (Lamp b to) = colour_word to
pose_text e = text_or_blank (λ (m : Move). pose_word m.to) (motion_of e)

abbrev pub zone_text : Entry → List ℕ
zone_text (Claimed m z) = zone_word z
zone_text (Yielded m z) = zone_word z
zone_text _ = []

abbrev pub cause_text : Entry → List ℕ
cause_text (Declared m cause) = cause_word cause
cause_text _ = []

abbrev pub site_text : Site → List ℕ
site_text (site.Station s) = station_word s
site_text (site.Machine m) = machine_word m

-- the row of an event
abbrev pub row : Event → Row
row v =
    decimal v.number ∷ decimal v.begin ∷ decimal v.end ∷ actor_text (actor_of v.entry) ∷ kind_text v.entry
    ∷ text_or_blank axis_word (axis_of v.entry) ∷ pose_text v.entry ∷ zone_text v.entry ∷ text_or_blank decimal v.plate
    ∷ text_or_blank site_text v.place ∷ cause_text v.entry ∷ []

-- the text of a journal's events: the names of the columns, and a row for each event
abbrev pub csv_text : Durations → List Entry → List ℕ
csv_text ds J = lines_of (header ∷ map row (events ds J))
