-- The truth values that a watch of a motion looks at in a reading: six of them, of which number i says whether the
-- axis's pose number i is shown, counted from 0. A belt has no switches: the two stations of its motion stand first.
use Rattle.std.specs.Prelude.{ℕ, Bool, false, ◌/◌, ◌%◌, ◌^◌, ◌+◌, ◌==◌, Option, Some, None, List, [], ◌∷◌, slice_index}
use Rattle.cell_types.specs.declared.words.Axis.{Axis}
use Rattle.cell_types.specs.declared.words.Pose.{Pose}
use Rattle.cell_types.specs.declared.words.Axis.TheVariants as axis
use Rattle.cell_types.specs.declared.words.Pose.TheVariants as pose
use Rattle.cell_diagnosis.specs.declared.motion.Motion.{Motion}
use Rattle.cell_diagnosis.specs.declared.reading.Reading.{Reading}

-- bit i of a byte
unfoldable pub bit : ℕ → ℕ → Bool
bit byte i = byte / 2 ^ i % 2 == 1

abbrev pub no_bits : List Bool
no_bits = false ∷ false ∷ false ∷ false ∷ false ∷ false ∷ []

abbrev pub two_bits : ℕ → List Bool
two_bits byte = bit byte 0 ∷ bit byte 1 ∷ false ∷ false ∷ false ∷ false ∷ []

abbrev pub three_bits : ℕ → List Bool
three_bits byte = bit byte 0 ∷ bit byte 1 ∷ bit byte 2 ∷ false ∷ false ∷ false ∷ []

abbrev pub six_bits : ℕ → List Bool
six_bits byte = bit byte 0 ∷ bit byte 1 ∷ bit byte 2 ∷ bit byte 3 ∷ bit byte 4 ∷ bit byte 5 ∷ []

-- two stations, of which the first has bit number `first`
abbrev pub station_bits : ℕ → ℕ → List Bool
station_bits first presence = bit presence first ∷ bit presence (first + 1) ∷ false ∷ false ∷ false ∷ false ∷ []

-- the bit of the station where a motion of the feed belt begins: FeedEnd for the motion to the table, else FeedIn
abbrev pub first_station : Pose → ℕ
first_station pose.ToTable = 1
first_station _ = 0

-- which poses the axis of a motion shows; the switches of the machine's other axes are left out
abbrev pub axis_bits : Axis → Pose → Reading → List Bool
axis_bits axis.FeedBelt to r = station_bits (first_station to) r.presence
axis_bits axis.TableLift to r = two_bits (slice_index r.switches 0)
axis_bits axis.TableTurn to r = two_bits (slice_index r.switches 1)
axis_bits axis.RobotTurn to r = six_bits (slice_index r.switches 0)
axis_bits axis.ArmOne to r = two_bits (slice_index r.switches 1)
axis_bits axis.ArmTwo to r = two_bits (slice_index r.switches 2)
axis_bits axis.PressOne to r = three_bits (slice_index r.switches 0)
axis_bits axis.PressTwo to r = three_bits (slice_index r.switches 0)
axis_bits axis.DepositBelt to r = station_bits 0 r.presence

-- a reading as an axis watch sees it; None is a missing one
abbrev pub Seen : Type 0
Seen = Option (List Bool)

-- a reading as the watch of this motion sees it
unfoldable pub seen : Motion → Option Reading → Seen
seen m None = None
seen m (Some r) = Some (axis_bits m.axis m.to r)

-- a pose's place among those of its axis, from 0; a belt's motion begins at place 0 and ends at place 1
abbrev pub place_in_axis : Pose → ℕ
place_in_axis pose.Rest = 0
place_in_axis pose.ToEnd = 1
place_in_axis pose.ToTable = 1
place_in_axis pose.Low = 0
place_in_axis pose.High = 1
place_in_axis pose.Belt = 0
place_in_axis pose.Robot = 1
place_in_axis pose.Table1 = 0
place_in_axis pose.P1Load = 1
place_in_axis pose.P1Unload = 2
place_in_axis pose.P2Load = 3
place_in_axis pose.P2Unload = 4
place_in_axis pose.Deposit2 = 5
place_in_axis pose.In = 0
place_in_axis pose.Out = 1
place_in_axis pose.Middle = 0
place_in_axis pose.Top = 1
place_in_axis pose.Bottom = 2
