-- A belt, in the book, in the world and in the machine's axis watch. It has no switches: its machine shows where the
-- plate is that it carries.
use Rattle.std.specs.Prelude.{◌≡◌, ℕ, true, Option, Some, None, List}
use Rattle.cell_types.specs.declared.words.Axis.{Axis}
use Rattle.cell_types.specs.declared.words.Axis.TheVariants as axis
use Rattle.cell_types.specs.declared.words.Colour.{Colour}
use Rattle.cell_types.specs.declared.words.Colour.TheVariants as colour
use Rattle.cell_types.specs.declared.words.Machine.{Machine}
use Rattle.cell_types.specs.declared.words.Machine.TheVariants as machine
use Rattle.cell_types.specs.declared.words.Pose.{Pose}
use Rattle.cell_types.specs.declared.words.Pose.TheVariants as pose
use Rattle.cell_types.specs.declared.words.Station.{Station}
use Rattle.cell_types.specs.declared.words.Station.TheVariants as station
use Rattle.cell_types.specs.declared.words.Entry.{Entry}
use Rattle.cell_types.specs.declared.words.Entry.TheVariants.{Started, Conveyed}
use Rattle.cell_rules.specs.declared.limits.BookLimits.{BookLimits}
use Rattle.cell_rules.specs.Legal.{first_of, legal}
use Rattle.cell_rules.specs.Views.{at_of, going_of}
use Rattle.cell_diagnosis.specs.declared.verdict.Verdict.TheVariants.{Pending, Arrived as HasArrived}
use Rattle.cell_ports.specs.declared.plan.Plan.{Plan}
use Rattle.cell_turns.specs.Following.{Following}
use Rattle.cell_turns.specs.Observed.{axis_noted, axis_verdict}
use Rattle.cell_sim.specs.declared.motion.Path.{Path}
use Rattle.cell_sim.specs.declared.motion.Path.TheVariants.{Stations}
use Rattle.cell_sim.specs.declared.world.Plate.{Plate}
use Rattle.cell_sim.specs.Simulated.{Simulated}
use Rattle.cell_sim.specs.Parts.{axis_at, plate_here}
use Rattle.cell_sim.specs.Readings.{after_reading, shown}
use Rattle.cell_world.specs.Tied.{Given, none, more, IsFair, further_of, motion_by, next_given, noted_of, under_way}
use Rattle.cell_world.specs.Going.{IsPlain}
use Rattle.cell_world.specs.Handing.{HasBooked}
use Rattle.cell_world.specs.Sparing.{IsSpared}
use Rattle.cell_world.specs.Starting.{after_entry, further_in, one_more}

-- the three motions of belts
pub data Conveying : Type 0 where
  to_feed_end : Conveying
  to_table : Conveying
  to_deposit_end : Conveying

abbrev pub belt_of : Conveying → Axis
belt_of to_feed_end = axis.FeedBelt
belt_of to_table = axis.FeedBelt
belt_of to_deposit_end = axis.DepositBelt

abbrev pub name_of : Conveying → Pose
name_of to_feed_end = pose.ToEnd
name_of to_table = pose.ToTable
name_of to_deposit_end = pose.ToEnd

abbrev pub from_of : Conveying → Station
from_of to_feed_end = station.FeedIn
from_of to_table = station.FeedEnd
from_of to_deposit_end = station.DepIn

abbrev pub dest_of : Conveying → Station
dest_of to_feed_end = station.FeedEnd
dest_of to_table = station.Table
dest_of to_deposit_end = station.DepEnd

abbrev pub machine_of : Conveying → Machine
machine_of to_feed_end = machine.Feed
machine_of to_table = machine.Feed
machine_of to_deposit_end = machine.Deposit

abbrev pub light_of : Conveying → Simulated → Colour
light_of to_feed_end w = w.feed_light
light_of to_table w = w.feed_light
light_of to_deposit_end w = w.deposit_light

abbrev pub path_with : Conveying → Plate → Path
path_with c k = Stations (from_of c) (dest_of c) (Some k.number)

-- the belt goes, in the book and in the world, with a plate to its empty end; its light is red; and the watch noted
-- what was shown
pub record BeltGoes (J : List Entry) (p : Plan) (c : Conveying) (k : Plate) (g : Given) (f : Option Following)
    (w : Simulated) : Type 0
  where
    pub plain : IsPlain w
    pub booked : going_of J (belt_of c) ≡ Some (name_of c)
    pub home : at_of J (belt_of c) ≡ pose.Rest
    pub red : light_of c w ≡ colour.Red
    pub here : plate_here w (from_of c) ≡ Some k
    pub empty : plate_here w (dest_of c) ≡ None
    pub goes : (axis_at w (belt_of c)).motion ≡ Some (under_way (path_with c k) g)
    pub noted : f ≡ noted_of (motion_by J p (belt_of c) (name_of c)) g

-- the plate is at the end in the world where the book has it on its way, and the watch says so
pub record BeltCame (J : List Entry) (c : Conveying) (k : Plate) (f : Option Following) (w : Simulated) : Type 0 where
  pub plain : IsPlain w
  pub booked : going_of J (belt_of c) ≡ Some (name_of c)
  pub red : light_of c w ≡ colour.Red
  pub gone : plate_here w (from_of c) ≡ None
  pub there : plate_here w (dest_of c) ≡ Some k
  pub verdict : axis_verdict f ≡ HasArrived

pub record BeltStays (J : List Entry) (p : Plan) (c : Conveying) (k : Plate) (g : Given) (f : Option Following)
    (w : Simulated) : Type 0
  where
    pub pending : axis_verdict f ≡ Pending
    pub goes : BeltGoes J p c k g f w

-- after one more reading: it is on its way, or the last one finds that it came
abbrev pub BeltWent : List Entry → Plan → Conveying → Plate → Option Given → Option Following → Simulated → Type 0
BeltWent J p c k (Some g) f w = BeltStays J p c k g f w
BeltWent J p c k None f w = BeltCame J c k f w

abbrev pub BeltGoesOn : Type 0
BeltGoesOn =
    (J : List Entry) (p : Plan) (c : Conveying) (k : Plate) (g : Given) (f : Option Following) (w : Simulated)
    → IsFair (motion_by J p (belt_of c) (name_of c)) (further_of g) → BeltGoes J p c k g f w
    → BeltWent J p c k (next_given g) (axis_noted J (machine_of c) p f (shown w (machine_of c)))
    (after_reading w (machine_of c))

-- a belt rests, in the book and in the world, and its machine's watch follows no motion
pub record BeltRests (J : List Entry) (c : Conveying) (f : Option Following) (w : Simulated) : Type 0 where
  pub plain : IsPlain w
  pub booked : going_of J (belt_of c) ≡ None
  pub home : at_of J (belt_of c) ≡ pose.Rest
  pub still : (axis_at w (belt_of c)).motion ≡ None
  pub unnoted : f ≡ None

-- where it is sent on under the red light with a plate to its empty end, it goes
abbrev pub BeltStarts : Type 0
BeltStarts =
    (J : List Entry) (p : Plan) (c : Conveying) (k : Plate) (f : Option Following) (w : Simulated)
    → BeltRests J c f w → light_of c w ≡ colour.Red → plate_here w (from_of c) ≡ Some k
    → plate_here w (dest_of c) ≡ None
    → BeltGoes (one_more J (Started (belt_of c) (name_of c))) p c k (none (further_in w (belt_of c) (name_of c))) f
    (after_entry w (Started (belt_of c) (name_of c)))

-- where it has come and this is booked, it rests
abbrev pub BeltEnds : Type 0
BeltEnds =
    (J : List Entry) (c : Conveying) (k : Plate) (f : Option Following) (w : Simulated) → BeltCame J c k f w
    → BeltRests (one_more J (Conveyed (belt_of c) k.number (dest_of c))) c None
    (after_entry w (Conveyed (belt_of c) k.number (dest_of c)))

-- and where the book may have that, each station has then what is booked there, if it had before the reading that
-- found it
abbrev pub BeltBrings : Type 0
BeltBrings =
    (l : BookLimits) (J : List Entry) (p : Plan) (c : Conveying) (k : Plate) (n : ℕ) (f : Option Following)
    (w : Simulated)
    → legal l J ≡ true → first_of l J (Conveyed (belt_of c) k.number (dest_of c)) ≡ None
    → BeltGoes J p c k (more n 0) f w
    → HasBooked J w (from_of c) → HasBooked J w (dest_of c) → (s : Station) → HasBooked J w s
    → HasBooked (one_more J (Conveyed (belt_of c) k.number (dest_of c)))
    (after_entry (after_reading w (machine_of c)) (Conveyed (belt_of c) k.number (dest_of c))) s

-- the light of a motion's belt and the plates at its two ends are as before
pub record EndsAsBefore (c : Conveying) (w w' : Simulated) : Type 0 where
  pub light : light_of c w' ≡ light_of c w
  pub from_end : plate_here w' (from_of c) ≡ plate_here w (from_of c)
  pub dest_end : plate_here w' (dest_of c) ≡ plate_here w (dest_of c)

-- a belt that is left so goes on as before, and rests as before where it rested
abbrev pub BeltSpared : Type 0
BeltSpared =
    (J J' : List Entry) (p : Plan) (c : Conveying) (f : Option Following) (w w' : Simulated)
    → IsSpared (machine_of c) J J' w w'
    → ((k : Plate) (g : Given) → EndsAsBefore c w w' → BeltGoes J p c k g f w → BeltGoes J' p c k g f w')
    × (BeltRests J c f w → BeltRests J' c f w')
