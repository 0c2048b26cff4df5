-- What a turn of one machine leaves of another
use Rattle.std.specs.Prelude.{◌≡◌, ◌≢◌, Option, Some, List}
use Rattle.cell_types.specs.declared.words.Axis.{Axis}
use Rattle.cell_types.specs.declared.words.Entry.{Entry}
use Rattle.cell_types.specs.declared.words.Machine.{Machine}
use Rattle.cell_types.specs.Cell.{machine_of_axis}
use Rattle.cell_types.specs.Entries.{machine_of_entry}
use Rattle.cell_rules.specs.Views.{at_of, going_of}
use Rattle.cell_ports.specs.declared.plan.Plan.{Plan}
use Rattle.cell_turns.specs.Following.{Following}
use Rattle.cell_sim.specs.Parts.{axis_at}
use Rattle.cell_sim.specs.Readings.{after_reading}
use Rattle.cell_sim.specs.Simulated.{Simulated}
use Rattle.cell_world.specs.Going.{IsPlain}
use Rattle.cell_world.specs.Starting.{after_entry, one_more}
use Rattle.cell_world.specs.Tie.{IsTied}

-- the axes of a machine are as before, in the book and in the world, where motions take as long as before
pub record IsSpared (m : Machine) (J J' : List Entry) (w w' : Simulated) : Type 0 where
  pub plain : IsPlain w'
  pub long : w'.durations ≡ w.durations
  pub at : (a : Axis) → machine_of_axis a ≡ m → at_of J' a ≡ at_of J a
  pub going : (a : Axis) → machine_of_axis a ≡ m → going_of J' a ≡ going_of J a
  pub axes : (a : Axis) → machine_of_axis a ≡ m → axis_at w' a ≡ axis_at w a

-- then it is tied as before
abbrev pub SparedStaysTied : Type 0
SparedStaysTied =
    (J J' : List Entry) (p : Plan) (m : Machine) (f : Option Following) (w w' : Simulated)
    → IsSpared m J J' w w' → IsTied J p m f w → IsTied J' p m f w'

-- so an entry of another machine and its command leave it
abbrev pub EntrySpares : Type 0
EntrySpares =
    (J : List Entry) (w : Simulated) (e : Entry) (m n : Machine)
    → IsPlain w → machine_of_entry e ≡ Some n → n ≢ m → IsSpared m J (one_more J e) w (after_entry w e)

-- and a reading of another machine
abbrev pub ReadingSpares : Type 0
ReadingSpares =
    (J : List Entry) (w : Simulated) (m n : Machine)
    → IsPlain w → n ≢ m → IsSpared m J J w (after_reading w n)
