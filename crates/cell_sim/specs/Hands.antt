-- What the operator does by hand in the simulated cell
use Rattle.std.specs.Prelude.{ℕ, Bool, ◌&&◌, Option, Some, None, is_some, if◌then◌else◌}
use Rattle.std.specs.Option.{option_or}
use Rattle.std.specs.List.{list_any}
use Rattle.cell_types.specs.declared.words.Axis.{Axis}
use Rattle.cell_types.specs.declared.words.Axis.TheVariants as axis
use Rattle.cell_types.specs.declared.words.Machine.{Machine}
use Rattle.cell_types.specs.declared.words.Station.{Station}
use Rattle.cell_types.specs.Cell.{axes_of, home, is_before_press}
use Rattle.cell_types.specs.Texts.{all_station}
use Rattle.cell_ports.specs.declared.port.Act.{Act}
use Rattle.cell_ports.specs.declared.port.Act.TheVariants.{Home, Remove}
use Rattle.cell_sim.specs.declared.motion.Moving.{Moving}
use Rattle.cell_sim.specs.Looks.{looked}
use Rattle.cell_sim.specs.Moves.{carried_from, same_number}
use Rattle.cell_sim.specs.Parts.{axis_at, counted, has_plate, in_turn, plate_at, with_axis, with_plate}
use Rattle.cell_sim.specs.Simulated.{Simulated}

-- takes out the plate at a station, or the one that a belt's motion carried from there, wherever it is
abbrev pub is_plate_at : Simulated → Option ℕ → Station → Bool
is_plate_at w k s = is_some k && same_number (plate_at w s) k

abbrev pub taken_where : Option ℕ → Station → Simulated → Simulated
taken_where k s w = if is_plate_at w k s then with_plate s None w else w

unfoldable pub taken_out : Option ℕ → Simulated → Simulated
taken_out k w = in_turn (taken_where k) all_station w

unfoldable pub is_anywhere : Simulated → Option ℕ → Bool
is_anywhere w k = list_any (is_plate_at w k) all_station

abbrev pub carried_by : Option Moving → Station → Option ℕ
carried_by None s = None
carried_by (Some m) s = carried_from m.path s

-- a station is where a motion of one belt alone begins
abbrev pub carried : Simulated → Station → Option ℕ
carried w s =
    option_or (carried_by (axis_at w axis.FeedBelt).motion s) (carried_by (axis_at w axis.DepositBelt).motion s)

-- one more plate was taken out; from before a press it can be laid back
abbrev pub count_removed : Station → Simulated → Simulated
count_removed s w =
    record w {
      removed = counted w.removed;
      cleared = if is_before_press s then counted w.cleared else w.cleared;
    }

unfoldable pub after_remove : Station → Simulated → Simulated
after_remove s w =
    if has_plate w s then count_removed s (with_plate s None w)
    else if is_anywhere w (carried w s) then count_removed s (taken_out (carried w s) w)
    else w

-- puts the axes of a machine at home, and ends its motions
abbrev pub axis_homed : Axis → Simulated → Simulated
axis_homed a w = with_axis a (record (axis_at w a) { pose = home a; motion = None }) w

unfoldable pub after_home : Machine → Simulated → Simulated
after_home m w = looked None (in_turn axis_homed (axes_of m) w)

abbrev pub after_hand : Simulated → Act → Simulated
after_hand w (Remove s) = after_remove s w
after_hand w (Home m) = after_home m w
