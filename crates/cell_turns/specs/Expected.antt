-- What a machine at rest has to show, as the journal books it
use Rattle.std.specs.Prelude.{ℕ, ◌+◌, Bool, Option, Some, None, List, [], ◌∷◌, is_some, if◌then◌else◌}
use Rattle.std.specs.Option.{option_and_then}
use Rattle.std.specs.List.{slice_get}
use Rattle.cell_types.specs.declared.words.Machine.{Machine}
use Rattle.cell_types.specs.declared.words.Machine.TheVariants as machine
use Rattle.cell_types.specs.declared.words.Axis.{Axis}
use Rattle.cell_types.specs.declared.words.Axis.TheVariants as axis
use Rattle.cell_types.specs.declared.words.Pose.{Pose}
use Rattle.cell_types.specs.declared.words.Belt.{Belt}
use Rattle.cell_types.specs.declared.words.Belt.TheVariants as belt
use Rattle.cell_types.specs.declared.words.Colour.TheVariants as colour
use Rattle.cell_types.specs.declared.words.Entry.{Entry}
use Rattle.cell_types.specs.Cell.{axes_of, stations_of}
use Rattle.cell_types.specs.Same.{same_colour}
use Rattle.cell_rules.specs.Views.{at_of, going_of, plate_of, lamp_of}
use Rattle.cell_diagnosis.specs.declared.expect.Expect.{Expect}

-- the booked pose of an axis at rest; an axis that moves isn't looked at
abbrev pub pose_at_rest : List Entry → Axis → Option Pose
pose_at_rest J a = if is_some (going_of J a) then None else Some (at_of J a)

-- the same of the i-th axis of a machine, if it has so many
abbrev pub pose_of_axis : List Entry → Machine → ℕ → Option Pose
pose_of_axis J m i = option_and_then (pose_at_rest J) (slice_get (axes_of m) i)

-- a machine has at most three axes
abbrev pub poses_at_rest : List Entry → Machine → List (Option Pose)
poses_at_rest J m = pose_of_axis J m 0 ∷ pose_of_axis J m 1 ∷ pose_of_axis J m 2 ∷ []

-- a presence bit of this value, where it is to be set
abbrev pub bit_where : Bool → ℕ → ℕ
bit_where test value = if test then value else 0

-- a plate is booked at the i-th station of a machine, if it has so many
abbrev pub is_booked_at : List Entry → Machine → ℕ → Bool
is_booked_at J m i = is_some (option_and_then (plate_of J) (slice_get (stations_of m) i))

-- the presence bits of the stations that have a booked plate; a machine has at most two stations
abbrev pub booked_plates : List Entry → Machine → ℕ
booked_plates J m = bit_where (is_booked_at J m 0) 1 + bit_where (is_booked_at J m 1) 2

-- both stations of a belt that runs, else the one where a green light lets a plate be laid in or taken out
abbrev pub belt_bits : List Entry → Axis → Belt → ℕ → ℕ
belt_bits J a b lit = if is_some (going_of J a) then 3 else bit_where (same_colour (lamp_of J b) colour.Green) lit

-- the presence bits that aren't looked at: Feed's sensor at the table, and those of belts
abbrev pub unwatched_plates : List Entry → Machine → ℕ
unwatched_plates J machine.Feed = 4 + belt_bits J axis.FeedBelt belt.Feed 1
unwatched_plates J machine.Deposit = belt_bits J axis.DepositBelt belt.Deposit 2
unwatched_plates J _ = 0

-- what is expected; `unvisited` says whether presence is looked at
abbrev pub expected_of : List Entry → Machine → Bool → Expect
expected_of J m unvisited =
    record {
      poses = poses_at_rest J m;
      must = booked_plates J m;
      may = if unvisited then unwatched_plates J m else 7;
    }
