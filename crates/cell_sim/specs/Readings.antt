-- What a reading does in the simulated cell, and what it shows
use Rattle.std.specs.Prelude.{ℕ, ◌+◌, ◌-◌, ◌^◌, min, Bool, true, false, not, ◌&&◌, ◌||◌, ◌==◌, nat_lt, Option}
use Rattle.std.specs.Prelude.{Some, None, List, [], ◌∷◌, slice_index_or, slice_set, if◌then◌else◌}
use Rattle.std.specs.Option.{option_map}
use Rattle.std.specs.List.{list_any}
use Rattle.cell_types.specs.declared.words.Axis.{Axis}
use Rattle.cell_types.specs.declared.words.Axis.TheVariants as axis
use Rattle.cell_types.specs.declared.words.Belt.TheVariants as belt
use Rattle.cell_types.specs.declared.words.Colour.TheVariants as colour
use Rattle.cell_types.specs.declared.words.Command.{Command}
use Rattle.cell_types.specs.declared.words.Command.TheVariants.{Lamp, On}
use Rattle.cell_types.specs.declared.words.Machine.{Machine}
use Rattle.cell_types.specs.declared.words.Machine.TheVariants as machine
use Rattle.cell_types.specs.declared.words.Pose.{Pose}
use Rattle.cell_types.specs.declared.words.Pose.TheVariants as pose
use Rattle.cell_types.specs.declared.words.Station.{Station}
use Rattle.cell_types.specs.declared.words.Station.TheVariants as station
use Rattle.cell_types.specs.Cell.{axes_of, machine_of_axis, stations_of}
use Rattle.cell_types.specs.Same.{machine_number, same_colour, same_pose}
use Rattle.cell_types.specs.Texts.{all_machine}
use Rattle.cell_diagnosis.specs.declared.reading.Reading.{Reading}
use Rattle.cell_sim.specs.declared.axis.AxisInWorld.{AxisInWorld}
use Rattle.cell_sim.specs.declared.fault.Fault.{Fault}
use Rattle.cell_sim.specs.declared.fault.Fault.TheVariants as fault
use Rattle.cell_sim.specs.declared.motion.Moving.{Moving}
use Rattle.cell_sim.specs.declared.motion.Path.{Path}
use Rattle.cell_sim.specs.declared.motion.Path.TheVariants.{Poses, Stations}
use Rattle.cell_sim.specs.declared.motion.Phase.{Phase}
use Rattle.cell_sim.specs.declared.motion.Phase.TheVariants.{Seen, Between, Arrived}
use Rattle.cell_sim.specs.declared.watch.SafetyRule.TheVariants as rule
use Rattle.cell_sim.specs.declared.world.Plate.{Plate}
use Rattle.cell_sim.specs.Looks.{carrying_looked, is_belt, looked}
use Rattle.cell_sim.specs.Moves.{between_at, goal_of, hides_by, left_at, moves, next_phase, same_number}
use Rattle.cell_sim.specs.Moves.{shown_bits, shows_by_fault, switch_bit}
use Rattle.cell_sim.specs.Parts.{axis_at, broke, counted, has_plate, in_turn, is_machine_moving, plate_at, plate_here}
use Rattle.cell_sim.specs.Parts.{plate_lost, plate_moved, with_motion, with_plate, with_pose}
use Rattle.cell_sim.specs.Simulated.{Simulated}

-- WHO LAYS PLATES IN AND TAKES THEM

-- before a reading of the feed machine a plate is laid in under the green light onto an empty belt, as long as fewer
-- were laid than are planned and may be laid back; where the light is trusted, it is laid whatever lies there
abbrev pub is_feed_empty : Simulated → Bool
is_feed_empty w = not (has_plate w station.FeedIn) && not (has_plate w station.FeedEnd)

abbrev pub is_plate_left : Simulated → Bool
is_plate_left w = nat_lt w.laid (min (w.planned + w.cleared) (2 ^ 32 - 1))

abbrev pub new_plate : ℕ → Plate
new_plate k = record { number = k; is_forged = false }

-- one that is laid onto another is gone
abbrev pub put_down : ℕ → Simulated → Simulated
put_down k w =
    if has_plate w station.FeedIn then record w { lost = counted w.lost }
    else with_plate station.FeedIn (Some (new_plate k)) w

abbrev pub full_belt_broke : Bool → Simulated → Simulated
full_belt_broke empty w =
    if empty then w else broke rule.LaidOntoFullBelt (Some (Lamp belt.Feed colour.Green)) w

unfoldable pub laid_in : ℕ → Bool → Simulated → Simulated
laid_in k empty w = put_down k (full_belt_broke empty w)

abbrev pub next_laid : Simulated → Simulated
next_laid w = record w { laid = w.laid + 1; is_trusting = false }

unfoldable pub plate_laid : Simulated → Simulated
plate_laid w =
    if same_colour w.feed_light colour.Green && (is_plate_left w && (is_feed_empty w || w.is_trusting))
    then laid_in (w.laid + 1) (is_feed_empty w) (next_laid w)
    else w

-- before a reading of the deposit machine the plate at its end is taken under the green light
unfoldable pub plate_taken : Simulated → Simulated
plate_taken w =
    if same_colour w.deposit_light colour.Green && has_plate w station.DepEnd
    then record (with_plate station.DepEnd None w) {
      taken_out = counted w.taken_out;
      last_taken_out = plate_at w station.DepEnd;
    }
    else w

abbrev pub by_the_hands : Simulated → Machine → Simulated
by_the_hands w machine.Feed = plate_laid w
by_the_hands w machine.Deposit = plate_taken w
by_the_hands w _ = w

-- READINGS THAT ARE MISSING

-- a motion that is silent still isn't read, and doesn't go on
abbrev pub is_silent_in : Option Moving → Bool
is_silent_in None = false
is_silent_in (Some m) = not (m.missing == 0)

abbrev pub is_reading_missing : Simulated → Machine → Bool
is_reading_missing w m = list_any (λ a. is_silent_in (axis_at w a).motion) (axes_of m)

abbrev pub skipped : Option Moving → Option Moving
skipped None = None
skipped (Some m) = Some (record m { missing = m.missing - 1 })

abbrev pub skips : Axis → Option Moving → Simulated → Simulated
skips a m w = if is_silent_in m then with_motion a (skipped m) w else w

unfoldable pub axis_skipped : Axis → Simulated → Simulated
axis_skipped a w = skips a (axis_at w a).motion w

-- MOTIONS THAT GO ON

-- a press forges the plate that is in it, and breaks a rule by one that is forged
abbrev pub forged_plate : Plate → Plate
forged_plate p = record p { is_forged = true }

abbrev pub forged_there : Axis → Station → Option Plate → Simulated → Simulated
forged_there a s None w = w
forged_there a s (Some p) w =
    if p.is_forged then broke rule.ForgedTwice (Some (On a pose.Top)) w
    else record (with_plate s (Some (forged_plate p)) w) { forged = counted w.forged }

unfoldable pub forges : Axis → Simulated → Simulated
forges axis.PressOne w = forged_there axis.PressOne station.Press1 (plate_here w station.Press1) w
forges axis.PressTwo w = forged_there axis.PressTwo station.Press2 (plate_here w station.Press2) w
forges _ w = w

-- an axis arrives: it is where its motion leads, a press at its top forges its plate, a belt lays down what it carried
abbrev pub at_its_end : Axis → Pose → Simulated → Simulated
at_its_end a to w = if same_pose to pose.Top then forges a (with_pose a to w) else with_pose a to w

unfoldable pub arrived : Axis → Path → Simulated → Simulated
arrived a (Poses from to) w = at_its_end a to w
arrived a (Stations from to k) w =
    if same_number (plate_at w from) k then plate_moved from to (carrying_looked from to w) else w

-- an axis leaves: where it is its motion's fault, the plates on its machine, or on the arm, are gone
abbrev pub stations_left : Axis → List Station
stations_left axis.ArmOne = station.Arm1 ∷ []
stations_left axis.ArmTwo = station.Arm2 ∷ []
stations_left a = stations_of (machine_of_axis a)

unfoldable pub left_with : Option Fault → Axis → Simulated → Simulated
left_with (Some fault.LosePlate) a w = in_turn plate_lost (stations_left a) w
left_with _ a w = w

-- the command that began a motion
abbrev pub command_of : Axis → Option Pose → Option Command
command_of a goal = option_map (λ to. On a to) goal

-- what comes of a phase that follows another
abbrev pub passed : Axis → Moving → Phase → Phase → Simulated → Simulated
passed a m Seen (Between n) w = left_with m.fault a w
passed a m (Between n) Arrived w = looked (command_of a (goal_of a m)) (arrived a m.path w)
passed a m _ _ w = w

-- a motion that is under way goes on by one reading
abbrev pub gone_on : Axis → Option Moving → Simulated → Simulated
gone_on a None w = w
gone_on a (Some m) w = passed a m m.phase (next_phase m) (with_motion a (Some (record m { phase = next_phase m })) w)

unfoldable pub advanced : Axis → Simulated → Simulated
advanced a w = if moves (axis_at w a).motion then gone_on a (axis_at w a).motion w else w

-- A READING

-- a machine's motions go on by one reading, or none does where the reading is missing
unfoldable pub read_on : Machine → Simulated → Simulated
read_on m w =
    if is_reading_missing w m then in_turn axis_skipped (axes_of m) w
    else in_turn advanced (axes_of m) w

unfoldable pub after_reading : Simulated → Machine → Simulated
after_reading w m = read_on m (by_the_hands w m)

-- WHAT IS SHOWN

abbrev pub switches_by : Axis → AxisInWorld → Option Moving → ℕ
switches_by a x None = if is_belt a then 0 else switch_bit x.pose
switches_by a x (Some m) = elim (m.path) as (λ _. ℕ) [ Poses from to ↦ shown_bits m a from to | Stations from to k ↦ 0 ]

abbrev pub switches_of : Simulated → Axis → ℕ
switches_of w a = switches_by a (axis_at w a) (axis_at w a).motion

abbrev pub switches : Simulated → Machine → List ℕ
switches w machine.Feed = 0 ∷ 0 ∷ 0 ∷ []
switches w machine.Table = switches_of w axis.TableLift ∷ switches_of w axis.TableTurn ∷ 0 ∷ []
switches w machine.Robot =
    switches_of w axis.RobotTurn ∷ switches_of w axis.ArmOne ∷ switches_of w axis.ArmTwo ∷ []
switches w machine.Press1 = switches_of w axis.PressOne ∷ 0 ∷ 0 ∷ []
switches w machine.Press2 = switches_of w axis.PressTwo ∷ 0 ∷ 0 ∷ []
switches w machine.Deposit = 0 ∷ 0 ∷ 0 ∷ []

abbrev pub bit_if : Bool → ℕ → ℕ
bit_if test bit = if test then bit else 0

-- a sensor of a belt's machine shows a plate where a fault says so, and not the one that is on its way
abbrev pub senses_by : Simulated → Option Moving → Station → Bool
senses_by w None s = has_plate w s
senses_by w (Some m) s =
    shows_by_fault m.fault (left_at m.phase) m.path s
    || (not (hides_by m.path (between_at m.phase) s (plate_at w s)) && has_plate w s)

abbrev pub senses : Simulated → Axis → Station → Bool
senses w a s = senses_by w (axis_at w a).motion s

abbrev pub presence : Simulated → Machine → ℕ
presence w machine.Feed =
    bit_if (senses w axis.FeedBelt station.FeedIn) 1
    + (bit_if (senses w axis.FeedBelt station.FeedEnd) 2 + bit_if (senses w axis.FeedBelt station.Table) 4)
presence w machine.Table = bit_if (has_plate w station.Table) 1
presence w machine.Robot = bit_if (has_plate w station.Arm1) 1 + bit_if (has_plate w station.Arm2) 2
presence w machine.Press1 = bit_if (has_plate w station.Press1) 1
presence w machine.Press2 = bit_if (has_plate w station.Press2) 1
presence w machine.Deposit =
    bit_if (senses w axis.DepositBelt station.DepIn) 1 + bit_if (senses w axis.DepositBelt station.DepEnd) 2

abbrev pub shown_now : Simulated → Machine → Reading
shown_now w m = record { switches = switches w m; presence = presence w m }

unfoldable pub shown_on : Machine → Simulated → Option Reading
shown_on m w = if is_reading_missing w m then None else Some (shown_now (read_on m w) m)

-- what the next reading of a machine shows; None where it is missing
unfoldable pub shown : Simulated → Machine → Option Reading
shown w m = shown_on m (by_the_hands w m)

-- THE END OF A ROUND

-- in how many rounds a machine moved
abbrev pub rounds_moved : Simulated → Machine → ℕ
rounds_moved w m = slice_index_or w.moving_rounds (machine_number m) 0

abbrev pub round_noted : Machine → Simulated → Simulated
round_noted m w =
    if is_machine_moving w m
    then record w { moving_rounds = slice_set w.moving_rounds (machine_number m) (counted (rounds_moved w m)) }
    else w

abbrev pub next_round : Simulated → Simulated
next_round w = record w { round = counted w.round }

unfoldable pub after_round : Simulated → Simulated
after_round w = next_round (in_turn round_noted all_machine w)
