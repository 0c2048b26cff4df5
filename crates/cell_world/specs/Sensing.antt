-- What a belt's machine shows, where the world is as it is booked
use Rattle.std.specs.Prelude.{◌≡◌, Bool, true, false, not, ◌&&◌, Option, Some, List, is_some}
use Rattle.cell_types.specs.declared.words.Axis.{Axis}
use Rattle.cell_types.specs.declared.words.Axis.TheVariants as axis
use Rattle.cell_types.specs.declared.words.Belt.TheVariants as belt
use Rattle.cell_types.specs.declared.words.Colour.TheVariants as colour
use Rattle.cell_types.specs.declared.words.Machine.{Machine}
use Rattle.cell_types.specs.declared.words.Machine.TheVariants as machine
use Rattle.cell_types.specs.declared.words.Station.{Station}
use Rattle.cell_types.specs.declared.words.Station.TheVariants as station
use Rattle.cell_types.specs.declared.words.Entry.{Entry}
use Rattle.cell_types.specs.Cell.{machine_of_station}
use Rattle.cell_types.specs.Same.{same_colour}
use Rattle.cell_rules.specs.Views.{going_of, lamp_of, plate_of}
use Rattle.cell_diagnosis.specs.RestFacts.{agrees, noted}
use Rattle.cell_ports.specs.declared.plan.Plan.{Plan}
use Rattle.cell_turns.specs.Expected.{expected_of}
use Rattle.cell_turns.specs.Following.{Following}
use Rattle.cell_sim.specs.declared.world.Plate.{Plate}
use Rattle.cell_sim.specs.Readings.{senses, shown, shown_now}
use Rattle.cell_sim.specs.Simulated.{Simulated}
use Rattle.cell_world.specs.Agreeing.{has_belt}
use Rattle.cell_world.specs.Belts.{BeltGoes, BeltRests, Conveying, light_of, machine_of}
use Rattle.cell_world.specs.Handing.{HasBooked}
use Rattle.cell_world.specs.Tied.{Given}

abbrev pub belt_axis : Machine → Axis
belt_axis machine.Feed = axis.FeedBelt
belt_axis _ = axis.DepositBelt

-- the rest watch looks at a belt's stations while it rests, and not at the one where a green light lets a plate be laid
-- in or taken out
abbrev pub is_looked_at : List Entry → Station → Bool
is_looked_at J station.FeedIn =
    not (is_some (going_of J axis.FeedBelt)) && not (same_colour (lamp_of J belt.Feed) colour.Green)
is_looked_at J station.FeedEnd = not (is_some (going_of J axis.FeedBelt))
is_looked_at J station.DepIn = not (is_some (going_of J axis.DepositBelt))
is_looked_at J station.DepEnd =
    not (is_some (going_of J axis.DepositBelt)) && not (same_colour (lamp_of J belt.Deposit) colour.Green)
is_looked_at J _ = false

-- where the sensors at which it looks show what is booked, the reading agrees with what is expected
abbrev pub SensesBooked : List Entry → Machine → Simulated → Type 0
SensesBooked J m w =
    (s : Station) → machine_of_station s ≡ m → is_looked_at J s ≡ true
    → senses w (belt_axis m) s ≡ is_some (plate_of J s)

abbrev pub SensedAgrees : Type 0
SensedAgrees =
    (J : List Entry) (m : Machine) (unvisited : Bool) (w : Simulated) → has_belt m ≡ true → SensesBooked J m w
    → agrees (noted m (expected_of J m unvisited) (Some (shown_now w m))) ≡ true

abbrev pub ReadingAgreesAt : List Entry → Machine → Bool → Simulated → Type 0
ReadingAgreesAt J m unvisited w = agrees (noted m (expected_of J m unvisited) (shown w m)) ≡ true

-- so does each reading of a belt that goes, and of one that rests under a red light with what is booked at its stations
abbrev pub BeltAgrees : Type 0
BeltAgrees =
    (J : List Entry) (p : Plan) (c : Conveying) (f : Option Following) (w : Simulated) (unvisited : Bool)
    → ((k : Plate) (g : Given) → BeltGoes J p c k g f w → ReadingAgreesAt J (machine_of c) unvisited w)
    × (BeltRests J c f w → light_of c w ≡ colour.Red
    → ((s : Station) → machine_of_station s ≡ machine_of c → HasBooked J w s)
    → ReadingAgreesAt J (machine_of c) unvisited w)
