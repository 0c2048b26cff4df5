-- The simulated cell where a journal left it
use Rattle.std.specs.Prelude.{ℕ, ◌-◌, ◌==◌, Bool, true, false, List, Option, Some, None, length, map, replicate}
use Rattle.std.specs.Prelude.{slice_get}
use Rattle.std.specs.List.{count_by, list_any}
use Rattle.cell_types.specs.Cell.{is_before_press, machine_of_axis, motion_named}
use Rattle.cell_types.specs.Texts.{all_axis, all_station}
use Rattle.cell_types.specs.declared.cell.BeltMotion.{BeltMotion}
use Rattle.cell_types.specs.declared.words.Axis.{Axis}
use Rattle.cell_types.specs.declared.words.Belt.TheVariants as belt
use Rattle.cell_types.specs.declared.words.Entry.{Entry}
use Rattle.cell_types.specs.declared.words.Entry.TheVariants.{Admitted, Forged, Quarantined, Reinstated}
use Rattle.cell_types.specs.declared.words.Pose.{Pose}
use Rattle.cell_types.specs.declared.words.Station.{Station}
use Rattle.cell_rules.specs.Views.{at_of, going_of, lamp_of, plate_of, is_delivered, is_failed, is_forged}
use Rattle.cell_rules.specs.Views.{is_quarantined}
use Rattle.plate_book.specs.Listed.{delivered_of}
use Rattle.cell_measures.specs.declared.durations.Durations.{Durations}
use Rattle.cell_measures.specs.Times.{duration}
use Rattle.cell_sim.specs.declared.axis.AxisInWorld.{AxisInWorld}
use Rattle.cell_sim.specs.declared.motion.Moving.{Moving}
use Rattle.cell_sim.specs.declared.motion.Path.{Path}
use Rattle.cell_sim.specs.declared.motion.Path.TheVariants.{Poses, Stations}
use Rattle.cell_sim.specs.declared.world.Plate.{Plate}
use Rattle.cell_sim.specs.Moves.{begun}
use Rattle.cell_sim.specs.Simulated.{Simulated, new_watch}

-- whether a plate was laid at the beginning of the feed belt before an entry
abbrev pub tells_laid : Entry → Bool
tells_laid (Admitted k) = true
tells_laid (Reinstated k) = true
tells_laid _ = false

-- whether a plate was taken out by hand from before a press before an entry
abbrev pub tells_cleared : Entry → Bool
tells_cleared (Quarantined k src) = is_before_press src
tells_cleared _ = false

-- where a motion that the journal shows under way leads
abbrev pub path_left : List Entry → Pose → Pose → Option BeltMotion → Path
path_left J from to None = Poses from to
path_left J from to (Some b) = Stations b.from b.dest (plate_of J b.from)

-- it begins anew, with no fault; that of a failed machine is stopped before it leaves
abbrev pub motion_left : List Entry → Durations → Axis → Pose → Pose → Moving
motion_left J durations a from to =
    record (begun (path_left J from to (motion_named a to)) None (duration durations (record { axis = a; to = to }))) {
      stopped = is_failed J (machine_of_axis a);
    }

abbrev pub motion_going : List Entry → Durations → Axis → Pose → Option Pose → Option Moving
motion_going J durations a from None = None
motion_going J durations a from (Some to) = Some (motion_left J durations a from to)

-- an axis where a journal left it; no motion of it is counted yet
unfoldable pub axis_left : List Entry → Durations → Axis → AxisInWorld
axis_left J durations a =
    record { pose = at_of J a; motion = motion_going J durations a (at_of J a) (going_of J a); commands = 0 }

-- whether an entry forges a plate, and whether the journal does
abbrev pub is_forging : ℕ → Entry → Bool
is_forging k (Forged press j) = j == k
is_forging k _ = false

abbrev pub was_forged : List Entry → ℕ → Bool
was_forged J k = list_any (is_forging k) J

abbrev pub plate_of_number : List Entry → Option ℕ → Option Plate
plate_of_number J None = None
plate_of_number J (Some k) = Some (record { number = k; is_forged = was_forged J k })

-- the plate at a station where a journal left it, by its number
unfoldable pub plate_left : List Entry → Station → Option Plate
plate_left J s = plate_of_number J (plate_of J s)

-- where a journal left the cell: axes have its poses, plates lie where it tells, the lights are as it tells, and it
-- counts what became of plates; nothing is lost, nothing met, and the world isn't watched
abbrev pub left_by : List Entry → ℕ → Durations → Simulated
left_by J plates durations =
    record {
      axes = map (axis_left J durations) all_axis;
      plates = map (plate_left J) all_station;
      feed_light = lamp_of J belt.Feed;
      deposit_light = lamp_of J belt.Deposit;
      planned = plates;
      laid = count_by tells_laid J;
      cleared = count_by tells_cleared J;
      collisions = 0;
      forged = count_by is_forged J;
      taken_out = count_by is_delivered J;
      removed = count_by is_quarantined J;
      lost = 0;
      last_taken_out = slice_get (delivered_of J) (length (delivered_of J) - 1);
      round = 1;
      moving_rounds = replicate 6 0;
      is_trusting = false;
      watch = new_watch false;
      durations = durations;
    }
