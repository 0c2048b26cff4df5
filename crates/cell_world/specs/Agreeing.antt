-- What a machine without a belt shows, where the world is as it is booked
use Rattle.std.specs.Prelude.{ℕ, ◌≡◌, Bool, true, false, Some, None, List, is_some}
use Rattle.cell_types.specs.declared.words.Axis.{Axis}
use Rattle.cell_types.specs.declared.words.Axis.TheVariants as axis
use Rattle.cell_types.specs.declared.words.Machine.{Machine}
use Rattle.cell_types.specs.declared.words.Machine.TheVariants as machine
use Rattle.cell_types.specs.declared.words.Station.{Station}
use Rattle.cell_types.specs.declared.words.Entry.{Entry}
use Rattle.cell_types.specs.Cell.{machine_of_axis, machine_of_station}
use Rattle.cell_rules.specs.Views.{at_of, going_of, plate_of}
use Rattle.cell_diagnosis.specs.Readings.{six_bits, three_bits, two_bits}
use Rattle.cell_diagnosis.specs.RestFacts.{agrees, noted}
use Rattle.cell_turns.specs.Expected.{expected_of}
use Rattle.cell_sim.specs.Simulated.{Simulated}
use Rattle.cell_sim.specs.Parts.{has_plate}
use Rattle.cell_sim.specs.Readings.{shown_now, switches_of}
use Rattle.cell_world.specs.Tied.{only}

abbrev pub has_belt : Machine → Bool
has_belt machine.Feed = true
has_belt machine.Deposit = true
has_belt _ = false

-- the switches of an axis as truth values
abbrev pub bits_at : Axis → ℕ → List Bool
bits_at axis.RobotTurn byte = six_bits byte
bits_at axis.PressOne byte = three_bits byte
bits_at axis.PressTwo byte = three_bits byte
bits_at _ byte = two_bits byte

-- an axis that is booked at rest shows its pose alone, and there is a plate where one is booked
pub record ShowsBooked (J : List Entry) (m : Machine) (w : Simulated) : Type 0 where
  pub axes : (a : Axis) → machine_of_axis a ≡ m → going_of J a ≡ None
      → bits_at a (switches_of w a) ≡ only (at_of J a)
  pub plates : (s : Station) → machine_of_station s ≡ m → has_plate w s ≡ is_some (plate_of J s)

abbrev pub BookedAgrees : Type 0
BookedAgrees =
    (J : List Entry) (m : Machine) (unvisited : Bool) (w : Simulated) → has_belt m ≡ false → ShowsBooked J m w
    → agrees (noted m (expected_of J m unvisited) (Some (shown_now w m))) ≡ true
