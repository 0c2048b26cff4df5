-- What a command does in the simulated cell
use Rattle.std.specs.Prelude.{ℕ, ◌≤◌, ⊤, Bool, true, false, not, ◌&&◌, ◌||◌, List, Option, Some, None, if◌then◌else◌}
use Rattle.std.specs.Option.{option_map}
use Rattle.cell_types.specs.declared.words.Arm.{Arm}
use Rattle.cell_types.specs.declared.words.Arm.TheVariants as arm
use Rattle.cell_types.specs.declared.words.Axis.{Axis}
use Rattle.cell_types.specs.declared.words.Axis.TheVariants as axis
use Rattle.cell_types.specs.declared.words.Belt.{Belt}
use Rattle.cell_types.specs.declared.words.Belt.TheVariants as belt
use Rattle.cell_types.specs.declared.words.Colour.{Colour}
use Rattle.cell_types.specs.declared.words.Colour.TheVariants as colour
use Rattle.cell_types.specs.declared.words.Command.{Command}
use Rattle.cell_types.specs.declared.words.Command.TheVariants.{Lamp, On, Off, MagnetOn, MagnetOff, AllOff}
use Rattle.cell_types.specs.declared.words.Machine.{Machine}
use Rattle.cell_types.specs.declared.words.Machine.TheVariants as machine
use Rattle.cell_types.specs.declared.words.Pose.{Pose}
use Rattle.cell_types.specs.declared.words.Pose.TheVariants as pose
use Rattle.cell_types.specs.declared.words.Station.{Station}
use Rattle.cell_types.specs.declared.cell.BeltMotion.{BeltMotion}
use Rattle.cell_types.specs.Cell.{Faced, axes_of, axis_of_arm, faced, is_pose_of, machine_of_axis, machine_of_station}
use Rattle.cell_types.specs.Cell.{motion_named, station_of_arm}
use Rattle.cell_types.specs.Same.{same_colour, same_machine, same_pose}
use Rattle.cell_measures.specs.Times.{duration}
use Rattle.cell_sim.specs.declared.fault.Fault.{Fault}
use Rattle.cell_sim.specs.declared.fault.Fault.TheVariants as fault
use Rattle.cell_sim.specs.declared.fault.PlannedFault.{PlannedFault}
use Rattle.cell_sim.specs.declared.motion.Moving.{Moving}
use Rattle.cell_sim.specs.declared.motion.Path.{Path}
use Rattle.cell_sim.specs.declared.motion.Path.TheVariants.{Poses, Stations}
use Rattle.cell_sim.specs.Looks.{is_belt, looked, release_looked, start_looked}
use Rattle.cell_sim.specs.Moves.{begun}
use Rattle.cell_sim.specs.Parts.{axis_at, collided, counted, has_plate, in_turn, plate_at, plate_moved, with_axis}
use Rattle.cell_sim.specs.Parts.{with_motion}
use Rattle.cell_sim.specs.Script.{fault_in, latest_of}
use Rattle.cell_sim.specs.Simulated.{Simulated}

-- THE LIGHTS

-- in a watched world the feed light that was turned green is trusted
abbrev pub trusts : Simulated → Colour → Bool
trusts w c =
    if not (same_colour w.feed_light c) && w.watch.is_on then same_colour c colour.Green else w.is_trusting

unfoldable pub feed_lit : Colour → Simulated → Simulated
feed_lit c w = record w { feed_light = c; is_trusting = trusts w c }

abbrev pub lit : Belt → Colour → Simulated → Simulated
lit belt.Feed c w = feed_lit c w
lit belt.Deposit c w = record w { deposit_light = c }

-- THE ARMS

-- the station that an arm faces, where the arm is out
abbrev pub faced_station : Option Faced → Option Station
faced_station f = option_map (λ (x : Faced). x.station) f

abbrev pub station_before : Simulated → Arm → Option Station
station_before w arm =
    if same_pose (axis_at w (axis_of_arm arm)).pose pose.Out
    then faced_station (faced arm (axis_at w axis.RobotTurn).pose)
    else None

abbrev pub is_station_of : Machine → Option Station → Bool
is_station_of m None = false
is_station_of m (Some s) = same_machine (machine_of_station s) m

-- an arm is out at a machine
abbrev pub has_arm_at : Simulated → Machine → Bool
has_arm_at w m = is_station_of m (station_before w arm.Arm1) || is_station_of m (station_before w arm.Arm2)

-- THE MOTORS

-- where a command to move an axis leads: of a belt the plate at the motion's beginning is carried to its end, another
-- axis goes to one of its poses, and else nothing begins
abbrev pub path_by : Simulated → Axis → Pose → Option BeltMotion → Option Path
path_by w a to (Some b) = Some (Stations b.from b.dest (plate_at w b.from))
path_by w a to None =
    if is_belt a || not (is_pose_of a to) then None else Some (Poses (axis_at w a).pose to)

abbrev pub path_of : Simulated → Axis → Pose → Option Path
path_of w a to = path_by w a to (motion_named a to)

-- a motion begins in place of the one before
unfoldable pub set_out : Axis → Pose → Option Fault → Option Path → Simulated → Simulated
set_out a to f None w = w
set_out a to f (Some path) w =
    with_motion a (Some (begun path f (duration w.durations (record { axis = a; to = to })))) w

-- a command to move counts as a motion, also where it fails; nothing else comes of one that fails
abbrev pub motion_number : Simulated → Axis → ℕ
motion_number w a = counted (axis_at w a).commands

unfoldable pub told : Axis → Simulated → Simulated
told a w = with_axis a (record (axis_at w a) { commands = motion_number w a }) w

-- a collision is counted where an arm is out at the axis's machine
unfoldable pub met : Axis → Simulated → Simulated
met a w = if has_arm_at w (machine_of_axis a) then collided w else w

abbrev pub is_refused : Option Fault → Bool
is_refused (Some fault.RefuseCommand) = true
is_refused _ = false

abbrev pub set_on : Axis → Pose → Option Fault → Simulated → Simulated
set_on a to f w = set_out a to f (path_of w a to) w

abbrev pub started_with : Axis → Pose → Option Fault → Simulated → Simulated
started_with a to f w = if is_refused f then w else set_on a to f (start_looked a to (met a w))

unfoldable pub started : List PlannedFault → Axis → Pose → Simulated → Simulated
started faults a to w = started_with a to (fault_in a (motion_number w a) faults) (told a w)

-- the motion of a belt ends; that of an axis with switches goes on
abbrev pub turned_off : Axis → Simulated → Simulated
turned_off a w = if is_belt a then with_motion a None w else w

-- THE MAGNETS

-- the plate before an arm is on the arm, unless that holds one
abbrev pub gripped_from : Arm → Option Station → Simulated → Simulated
gripped_from a None w = w
gripped_from a (Some s) w = plate_moved s (station_of_arm a) w

unfoldable pub gripped : Arm → Simulated → Simulated
gripped a w = gripped_from a (station_before w a) w

-- the plate on an arm is at the empty station before it; over a full station or none a collision is counted
abbrev pub laid_at : Arm → Option Station → Simulated → Simulated
laid_at a None w = release_looked a None (collided w)
laid_at a (Some s) w =
    if has_plate w s then release_looked a (Some s) (collided w) else plate_moved (station_of_arm a) s w

unfoldable pub laid_down : Arm → Simulated → Simulated
laid_down a w = laid_at a (station_before w a) w

-- ALL MOTORS OF A MACHINE

abbrev pub stopped_motion : Option Moving → Option Moving
stopped_motion None = None
stopped_motion (Some m) = Some (record m { stopped = true })

abbrev pub axis_stopped : Axis → Simulated → Simulated
axis_stopped a w = with_motion a (stopped_motion (axis_at w a).motion) w

abbrev pub unlit : Machine → Simulated → Simulated
unlit machine.Feed w = lit belt.Feed colour.Red w
unlit machine.Deposit w = lit belt.Deposit colour.Red w
unlit _ w = w

-- all motions of a machine stop where they are, and its light is red
unfoldable pub all_stopped : Machine → Simulated → Simulated
all_stopped m w = in_turn axis_stopped (axes_of m) (unlit m w)

-- A COMMAND

abbrev pub obeyed : List PlannedFault → Simulated → Command → Simulated
obeyed faults w (Lamp b c) = lit b c w
obeyed faults w (On a to) = started faults a to w
obeyed faults w (Off a) = turned_off a w
obeyed faults w (MagnetOn a) = gripped a w
obeyed faults w (MagnetOff a) = laid_down a w
obeyed faults w (AllOff m) = all_stopped m w

-- a command fails only where it is to move and its motion's fault is that
unfoldable pub fails : List PlannedFault → Simulated → Command → Bool
fails faults w (On a to) = is_refused (fault_in a (motion_number w a) faults)
fails faults w _ = false

-- a command begins no motion of an axis that is later than the latest
abbrev pub IsWithin : List ℕ → Simulated → Command → Type 0
IsWithin latest w (On a to) = motion_number w a ≤ latest_of latest a
IsWithin latest w _ = ⊤

-- a watched world is looked at after a command that doesn't fail
unfoldable pub after_command : List PlannedFault → Simulated → Command → Simulated
after_command faults w c = if fails faults w c then obeyed faults w c else looked (Some c) (obeyed faults w c)
