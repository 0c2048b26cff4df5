-- The parts of a simulated cell, and how one of them becomes another
use Rattle.std.specs.Prelude.{ℕ, ◌+◌, ◌-◌, ◌^◌, min, Bool, ◌==◌, Option, Some, None, List, [], ◌∷◌, is_some}
use Rattle.std.specs.Prelude.{slice_index_or, slice_set, if◌then◌else◌}
use Rattle.std.specs.Option.{option_map}
use Rattle.std.specs.List.{list_any}
use Rattle.cell_types.specs.declared.words.Axis.{Axis}
use Rattle.cell_types.specs.declared.words.AxisState.{AxisState}
use Rattle.cell_types.specs.declared.words.Command.{Command}
use Rattle.cell_types.specs.declared.words.Machine.{Machine}
use Rattle.cell_types.specs.declared.words.Pose.{Pose}
use Rattle.cell_types.specs.declared.words.Station.{Station}
use Rattle.cell_types.specs.Cell.{axes_of}
use Rattle.cell_types.specs.Same.{axis_number, station_number}
use Rattle.cell_sim.specs.declared.axis.AxisInWorld.{AxisInWorld}
use Rattle.cell_sim.specs.declared.motion.Moving.{Moving}
use Rattle.cell_sim.specs.declared.watch.Occasion.{Occasion}
use Rattle.cell_sim.specs.declared.watch.SafetyRule.{SafetyRule}
use Rattle.cell_sim.specs.declared.watch.Watch.{Watch}
use Rattle.cell_sim.specs.declared.world.Plate.{Plate}
use Rattle.cell_sim.specs.Moves.{going_by, moves}
use Rattle.cell_sim.specs.Simulated.{Simulated, at_home, rule_number}

-- one more, up to the greatest
abbrev pub counted : ℕ → ℕ
counted n = min (n + 1) (2 ^ 32 - 1)

abbrev pub axis_at : Simulated → Axis → AxisInWorld
axis_at w a = slice_index_or w.axes (axis_number a) (at_home a)

abbrev pub plate_here : Simulated → Station → Option Plate
plate_here w s = slice_index_or w.plates (station_number s) None

-- a plate by its number
abbrev pub plate_at : Simulated → Station → Option ℕ
plate_at w s = option_map (λ p. p.number) (plate_here w s)

abbrev pub has_plate : Simulated → Station → Bool
has_plate w s = is_some (plate_at w s)

-- the pose that an axis has or has left, and where it is going
abbrev pub state_of : Simulated → Axis → AxisState
state_of w a = record { at = (axis_at w a).pose; going = going_by a (axis_at w a).motion }

-- a motion of an axis is under way, and one of an axis of a machine
abbrev pub is_axis_moving : Simulated → Axis → Bool
is_axis_moving w a = moves (axis_at w a).motion

abbrev pub is_machine_moving : Simulated → Machine → Bool
is_machine_moving w m = list_any (is_axis_moving w) (axes_of m)

abbrev pub with_axis : Axis → AxisInWorld → Simulated → Simulated
with_axis a x w = record w { axes = slice_set w.axes (axis_number a) x }

abbrev pub with_motion : Axis → Option Moving → Simulated → Simulated
with_motion a m w = with_axis a (record (axis_at w a) { motion = m }) w

abbrev pub with_pose : Axis → Pose → Simulated → Simulated
with_pose a p w = with_axis a (record (axis_at w a) { pose = p }) w

abbrev pub with_plate : Station → Option Plate → Simulated → Simulated
with_plate s p w = record w { plates = slice_set w.plates (station_number s) p }

-- a plate moves from a station to another one, which is empty
abbrev pub plate_moved : Station → Station → Simulated → Simulated
plate_moved from to w =
    if has_plate w to then w else with_plate to (plate_here w from) (with_plate from None w)

-- a plate is gone
abbrev pub plate_lost : Station → Simulated → Simulated
plate_lost s w = if has_plate w s then record (with_plate s None w) { lost = counted w.lost } else w

abbrev pub collided : Simulated → Simulated
collided w = record w { collisions = counted w.collisions }

-- what comes of each of a list, one after another
abbrev pub in_turn : {A : Type 0} → (A → Simulated → Simulated) → List A → Simulated → Simulated
in_turn step [] w = w
in_turn step (x ∷ xs) w = in_turn step xs (step x w)

abbrev pub count_of : Watch → SafetyRule → ℕ
count_of t rule = slice_index_or t.counts (rule_number rule) 0

-- a watch that is on counts a rule that is broken, and keeps where that was first
abbrev pub watch_after : SafetyRule → Occasion → Watch → Watch
watch_after rule o t =
    if t.is_on
    then record t {
      counts = slice_set t.counts (rule_number rule) (counted (count_of t rule));
      firsts = if count_of t rule == 0 then slice_set t.firsts (rule_number rule) (Some o) else t.firsts;
    }
    else t

-- a rule is broken by a command, or by the operator's hands
unfoldable pub broke : SafetyRule → Option Command → Simulated → Simulated
broke rule c w = record w { watch = watch_after rule (record { round = w.round; command = c }) w.watch }
