-- A motion of an axis, and how it goes on from reading to reading: the first shows where it begins, the second nothing,
-- the third and all later ones where it ends
use Rattle.std.specs.Prelude.{ℕ, zero, suc, ◌+◌, ◌-◌, ◌^◌, min, Bool, true, false, not, ◌&&◌, ◌||◌, ◌==◌, Option}
use Rattle.std.specs.Prelude.{Some, None, is_some, bit_or, length, if◌then◌else◌}
use Rattle.std.specs.Option.{option_map}
use Rattle.cell_types.specs.declared.words.Axis.{Axis}
use Rattle.cell_types.specs.declared.words.Pose.{Pose}
use Rattle.cell_types.specs.declared.words.Station.{Station}
use Rattle.cell_types.specs.Cell.{motion_to, poses}
use Rattle.cell_types.specs.Same.{same_station}
use Rattle.cell_diagnosis.specs.Readings.{place_in_axis}
use Rattle.cell_sim.specs.declared.fault.Fault.{Fault}
use Rattle.cell_sim.specs.declared.fault.Fault.TheVariants as fault
use Rattle.cell_sim.specs.declared.motion.Path.{Path}
use Rattle.cell_sim.specs.declared.motion.Path.TheVariants.{Poses, Stations}
use Rattle.cell_sim.specs.declared.motion.Phase.{Phase}
use Rattle.cell_sim.specs.declared.motion.Phase.TheVariants.{Begun, Seen, Between, Arrived}
use Rattle.cell_sim.specs.declared.motion.Moving.{Moving}

-- a silent motion's first readings are missing
abbrev pub missing_first : Option Fault → ℕ
missing_first (Some (fault.Silent n)) = n
missing_first _ = 0

-- a motion that begins: it shows nothing in as many readings as it takes, one at least
abbrev pub begun : Path → Option Fault → ℕ → Moving
begun path f duration =
    record {
      path = path;
      fault = f;
      phase = Begun;
      missing = missing_first f;
      further = duration - 1;
      stopped = false;
    }

-- so many more readings show nothing before the end
abbrev pub after_leaving : Option Fault → ℕ → Phase
after_leaving (Some fault.NoMotion) further = Seen
after_leaving (Some (fault.Slow n)) further = Between (min (further + n) (2 ^ 32 - 1))
after_leaving _ further = Between further

abbrev pub phase_between : ℕ → Phase
phase_between zero = Arrived
phase_between (suc n) = Between n

abbrev pub phase_after : Option Fault → ℕ → Phase → Phase
phase_after f further Begun = Seen
phase_after f further Seen = after_leaving f further
phase_after f further (Between n) = phase_between n
phase_after f further Arrived = Arrived

-- the phase after one more reading; a motion that was stopped stays as it is
abbrev pub next_phase : Moving → Phase
next_phase m = if m.stopped then m.phase else phase_after m.fault m.further m.phase

abbrev pub left_at : Phase → Bool
left_at Begun = false
left_at Seen = false
left_at (Between n) = true
left_at Arrived = true

abbrev pub arrived_at : Phase → Bool
arrived_at Begun = false
arrived_at Seen = false
arrived_at (Between n) = false
arrived_at Arrived = true

abbrev pub between_at : Phase → Bool
between_at Begun = false
between_at Seen = false
between_at (Between n) = true
between_at Arrived = false

-- the axis is at rest: it has arrived, or was stopped before it left
abbrev pub is_over : Moving → Bool
is_over m = arrived_at m.phase || (m.stopped && not (left_at m.phase))

-- where a motion leads: a pose, or of a belt the name of its motion
abbrev pub goal_by : Axis → Path → Option Pose
goal_by a (Poses from to) = Some to
goal_by a (Stations from to k) = option_map (λ b. b.to) (motion_to a to)

abbrev pub goal_of : Axis → Moving → Option Pose
goal_of a m = goal_by a m.path

-- the switch of a pose, and all switches of an axis, as bits
abbrev pub switch_bit : Pose → ℕ
switch_bit p = 2 ^ place_in_axis p

abbrev pub all_switches : Axis → ℕ
all_switches a = 2 ^ length (poses a) - 1

-- the switches that are shown where nothing is amiss
abbrev pub moved_bits : Pose → Pose → Phase → ℕ
moved_bits from to Begun = switch_bit from
moved_bits from to Seen = switch_bit from
moved_bits from to (Between n) = 0
moved_bits from to Arrived = switch_bit to

-- with a fault the old switch stays, or all are shown once the axis has left
abbrev pub shown_by_fault : Axis → Pose → Phase → Option Fault → ℕ → ℕ
shown_by_fault a from phase (Some fault.KeepsOld) moved = bit_or moved (switch_bit from)
shown_by_fault a from phase (Some fault.Both) moved = if left_at phase then all_switches a else moved
shown_by_fault a from phase _ moved = moved

abbrev pub shown_bits : Moving → Axis → Pose → Pose → ℕ
shown_bits m a from to = shown_by_fault a from m.phase m.fault (moved_bits from to m.phase)

-- a fault shows a plate at a station, be one there or not
abbrev pub faked_by : Option Fault → Bool → Station → Station → Option ℕ → Station → Bool
faked_by (Some fault.KeepsOld) left from to k s = left && (is_some k && same_station s from)
faked_by (Some fault.Both) left from to k s = left && (same_station s from || same_station s to)
faked_by _ left from to k s = false

abbrev pub shows_by_fault : Option Fault → Bool → Path → Station → Bool
shows_by_fault f left (Poses from to) s = false
shows_by_fault f left (Stations from to k) s = faked_by f left from to k s

abbrev pub same_number : Option ℕ → Option ℕ → Bool
same_number None None = true
same_number (Some j) (Some k) = j == k
same_number _ _ = false

-- the plate that is carried isn't shown while it is on its way
abbrev pub hides_by : Path → Bool → Station → Option ℕ → Bool
hides_by (Poses from to) between s k = false
hides_by (Stations from to carried) between s k = between && (same_station s from && same_number k carried)

abbrev pub carried_from : Path → Station → Option ℕ
carried_from (Poses from to) s = None
carried_from (Stations from to k) s = if same_station from s then k else None

-- a motion is under way: it has begun, and neither arrived nor been stopped
abbrev pub is_under_way : Moving → Bool
is_under_way m = not m.stopped && not (arrived_at m.phase)

abbrev pub moves : Option Moving → Bool
moves None = false
moves (Some m) = is_under_way m

-- where an axis is going, as long as it isn't over
abbrev pub going_by : Axis → Option Moving → Option Pose
going_by a None = None
going_by a (Some m) = if is_over m then None else goal_of a m
