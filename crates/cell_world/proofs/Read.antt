-- What a reading of one machine leaves of another
use Rattle.std.proofs.Common.{◌≢◌, ℕ, Bool, true, false, Option, Some, None, List, [], ◌∷◌, refl}
use Rattle.std.proofs.Common.{ap, ◌∙◌}
use Rattle.std.specs.Prelude.{◌+◌}
use Rattle.cell_types.specs.declared.words.Axis.{Axis}
use Rattle.cell_types.specs.declared.words.Axis.TheVariants as axis
use Rattle.cell_types.specs.declared.words.Command.{Command}
use Rattle.cell_types.specs.declared.words.Command.TheVariants.{On}
use Rattle.cell_types.specs.declared.words.Machine.{Machine}
use Rattle.cell_types.specs.declared.words.Machine.TheVariants as machine
use Rattle.cell_types.specs.declared.words.Pose.{Pose}
use Rattle.cell_types.specs.declared.words.Pose.TheVariants as pose
use Rattle.cell_types.specs.declared.words.Station.{Station}
use Rattle.cell_types.specs.declared.words.Station.TheVariants as station
use Rattle.cell_types.specs.Cell.{axes_of, machine_of_axis}
use Rattle.cell_types.specs.Same.{same_pose}
use Rattle.cell_sim.specs.declared.fault.Fault.{Fault}
use Rattle.cell_sim.specs.declared.fault.Fault.TheVariants as fault
use Rattle.cell_sim.specs.declared.motion.Moving.{Moving}
use Rattle.cell_sim.specs.declared.motion.Path.{Path}
use Rattle.cell_sim.specs.declared.motion.Path.TheVariants.{Poses, Stations}
use Rattle.cell_sim.specs.declared.motion.Phase.{Phase}
use Rattle.cell_sim.specs.declared.motion.Phase.TheVariants.{Seen as IsSeen, Between, Arrived}
use Rattle.cell_sim.specs.declared.watch.SafetyRule.{SafetyRule}
use Rattle.cell_sim.specs.declared.watch.SafetyRule.TheVariants as rule
use Rattle.cell_sim.specs.declared.world.Plate.{Plate}
use Rattle.cell_sim.specs.Looks.{carrying_looked, looked}
use Rattle.cell_sim.specs.Moves.{goal_of, moves, next_phase, same_number as same_plate}
use Rattle.cell_sim.specs.Parts.{axis_at, broke, counted, has_plate, in_turn, plate_at, plate_here, plate_lost}
use Rattle.cell_sim.specs.Parts.{plate_moved, with_motion, with_plate, with_pose}
use Rattle.cell_sim.specs.Readings.{advanced, after_reading, arrived, at_its_end, axis_skipped, by_the_hands}
use Rattle.cell_sim.specs.Readings.{command_of}
use Rattle.cell_sim.specs.Readings.{forged_plate, forged_there, forges, full_belt_broke, gone_on, is_feed_empty}
use Rattle.cell_sim.specs.Readings.{is_reading_missing, is_silent_in, laid_in, left_with, new_plate}
use Rattle.cell_sim.specs.Readings.{next_laid, passed, plate_laid, plate_taken, put_down, read_on, skipped}
use Rattle.cell_sim.specs.Readings.{stations_left}
use Rattle.cell_sim.specs.Simulated.{Simulated}
use Rattle.cell_world.specs.Going.{IsPlain}
use Rattle.cell_world.specs.Sparing.{ReadingSpares}
use Rattle.cell_world.proofs.Belts.{unlooked_carrying}
use Rattle.cell_world.proofs.Leaves.{Apart, Leaves, axis_leaves, leaves_all, leaves_by, leaves_either, leaves_then}
use Rattle.cell_world.proofs.Leaves.{motion_leaves, plate_leaves, plates_leave, turn_leaves}
use Rattle.cell_world.proofs.Spared.{axis_of, axis_of_it}
use Rattle.cell_world.proofs.Long.{reading_long}
use Rattle.cell_world.proofs.Steps.{broke_on, unlooked}

broke_leaves : (r : SafetyRule) (c : Option Command) (a : Axis) (w : Simulated) → IsPlain w → Leaves a w (broke r c w)
unfolding broke
broke_leaves r c a w t =
    record {
      plain = record {
        unwatched = broke_on r c w ∙ t.unwatched;
        axes = t.axes;
        stations = t.stations;
      };
      axis = refl;
    }

-- WHO LAYS PLATES IN AND TAKES THEM

next_leaves : (a : Axis) (w : Simulated) → IsPlain w → Leaves a w (next_laid w)
next_leaves a w t =
    record {
      plain = record { unwatched = t.unwatched; axes = t.axes; stations = t.stations };
      axis = refl;
    }

lost_leaves : (a : Axis) (n : ℕ) (w v : Simulated) → Leaves a w v → Leaves a w (record v { lost = n })
lost_leaves a n w v s =
    record {
      plain = record {
        unwatched = s.plain.unwatched;
        axes = s.plain.axes;
        stations = s.plain.stations;
      };
      axis = s.axis;
    }

down_leaves : (k : ℕ) (a : Axis) (w : Simulated) → IsPlain w → Leaves a w (put_down k w)
down_leaves k a w t =
    leaves_either a (has_plate w station.FeedIn) w (record w { lost = counted w.lost })
    (with_plate station.FeedIn (Some (new_plate k)) w) (lost_leaves a (counted w.lost) w w (leaves_all a w t))
    (plate_leaves station.FeedIn a (Some (new_plate k)) w t)

full_leaves : (empty : Bool) (a : Axis) (w : Simulated) → IsPlain w → Leaves a w (full_belt_broke empty w)
full_leaves true a w t = leaves_all a w t
full_leaves false a w t = broke_leaves rule.LaidOntoFullBelt _ a w t

laid_leaves : (k : ℕ) (empty : Bool) (a : Axis) (w : Simulated) → IsPlain w → Leaves a w (laid_in k empty w)
unfolding laid_in
laid_leaves k empty a w t =
    let x = full_leaves empty a w t in
    leaves_then a w (full_belt_broke empty w) (put_down k (full_belt_broke empty w)) x
    (down_leaves k a (full_belt_broke empty w) x.plain)

feed_leaves : (a : Axis) (w : Simulated) → IsPlain w → Leaves a w (plate_laid w)
unfolding plate_laid
feed_leaves a w t =
    let x = next_leaves a w t in
    leaves_either a _ w (laid_in (w.laid + 1) (is_feed_empty w) (next_laid w)) w
    (leaves_then a w (next_laid w) (laid_in (w.laid + 1) (is_feed_empty w) (next_laid w)) x
    (laid_leaves (w.laid + 1) (is_feed_empty w) a (next_laid w) x.plain)) (leaves_all a w t)

taken_leaves : (a : Axis) (w : Simulated) → IsPlain w → Leaves a w (plate_taken w)
unfolding plate_taken
taken_leaves a w t =
    let x = plate_leaves station.DepEnd a None w t in
    leaves_either a _ w _ w
    (record {
      plain = record {
        unwatched = x.plain.unwatched;
        axes = x.plain.axes;
        stations = x.plain.stations;
      };
      axis = x.axis;
    })
    (leaves_all a w t)

pub hands_leave : (n : Machine) (a : Axis) (w : Simulated) → IsPlain w → Leaves a w (by_the_hands w n)
hands_leave machine.Feed a w t = feed_leaves a w t
hands_leave machine.Deposit a w t = taken_leaves a w t
hands_leave n a w t = leaves_all a w t

-- MOTIONS THAT GO ON

skip_leaves : (a b : Axis) (w : Simulated) → Apart b a → IsPlain w → Leaves a w (axis_skipped b w)
unfolding axis_skipped
skip_leaves a b w h t =
    let m = (axis_at w b).motion in
    leaves_either a (is_silent_in m) w (with_motion b (skipped m) w) w (motion_leaves b a (skipped m) w h t)
    (leaves_all a w t)

gone_leaves : (s : Station) (a : Axis) (w : Simulated) → IsPlain w → Leaves a w (plate_lost s w)
gone_leaves s a w t =
    leaves_either a (has_plate w s) w (record (with_plate s None w) { lost = counted w.lost }) w
    (lost_leaves a (counted w.lost) w (with_plate s None w) (plate_leaves s a None w t)) (leaves_all a w t)

all_gone_leave : (xs : List Station) (a : Axis) (w : Simulated) → IsPlain w → Leaves a w (in_turn plate_lost xs w)
all_gone_leave [] a w t = leaves_all a w t
all_gone_leave (s ∷ xs) a w t =
    let x = gone_leaves s a w t in
    leaves_then a w (plate_lost s w) (in_turn plate_lost xs (plate_lost s w)) x
    (all_gone_leave xs a (plate_lost s w) x.plain)

left_leaves : (f : Option Fault) (b a : Axis) (w : Simulated) → IsPlain w → Leaves a w (left_with f b w)
unfolding left_with
left_leaves (Some fault.LosePlate) b a w t = all_gone_leave (stations_left b) a w t
left_leaves f b a w t = leaves_all a w t

there_leaves : (b : Axis) (s : Station) (o : Option Plate) (a : Axis) (w : Simulated) → IsPlain w
    → Leaves a w (forged_there b s o w)
there_leaves b s None a w t = leaves_all a w t
there_leaves b s (Some p) a w t =
    let x = plate_leaves s a (Some (forged_plate p)) w t in
    leaves_either a p.is_forged w (broke rule.ForgedTwice (Some (On b pose.Top)) w)
    (record (with_plate s (Some (forged_plate p)) w) { forged = counted w.forged })
    (broke_leaves rule.ForgedTwice (Some (On b pose.Top)) a w t)
    (record {
      plain = record {
        unwatched = x.plain.unwatched;
        axes = x.plain.axes;
        stations = x.plain.stations;
      };
      axis = x.axis;
    })

forges_leaves : (b a : Axis) (w : Simulated) → IsPlain w → Leaves a w (forges b w)
unfolding forges
forges_leaves axis.PressOne a w t = there_leaves axis.PressOne station.Press1 (plate_here w station.Press1) a w t
forges_leaves axis.PressTwo a w t = there_leaves axis.PressTwo station.Press2 (plate_here w station.Press2) a w t
forges_leaves b a w t = leaves_all a w t

end_leaves : (b a : Axis) (to : Pose) (w : Simulated) → Apart b a → IsPlain w → Leaves a w (at_its_end b to w)
end_leaves b a to w h t =
    let x = axis_leaves b a (record (axis_at w b) { pose = to }) w h t in let v = with_pose b to w in
    leaves_either a (same_pose to pose.Top) w (forges b v) v
    (leaves_then a w v (forges b v) x (forges_leaves b a v x.plain)) x

arrived_leaves : (b a : Axis) (path : Path) (w : Simulated) → Apart b a → IsPlain w → Leaves a w (arrived b path w)
unfolding arrived
arrived_leaves b a (Poses from to) w h t = end_leaves b a to w h t
arrived_leaves b a (Stations from to k) w h t =
    leaves_either a (same_plate (plate_at w from) k) w (plate_moved from to (carrying_looked from to w)) w
    (leaves_by a w (plate_moved from to (carrying_looked from to w)) (plate_moved from to w)
    (ap (λ (v : Simulated). plate_moved from to v) (unlooked_carrying from to w t.unwatched))
    (plates_leave from to a w t)) (leaves_all a w t)

passed_leaves : (b a : Axis) (m : Moving) (x y : Phase) (w : Simulated) → Apart b a → IsPlain w
    → Leaves a w (passed b m x y w)
passed_leaves b a m IsSeen (Between n) w h t = left_leaves m.fault b a w t
passed_leaves b a m (Between n) Arrived w h t =
    let o = command_of b (goal_of b m) in let v = arrived b m.path w in let s = arrived_leaves b a m.path w h t in
    leaves_by a w (looked o v) v (unlooked o v s.plain.unwatched) s
passed_leaves b a m x y w h t = leaves_all a w t

on_leaves : (b a : Axis) (o : Option Moving) (w : Simulated) → Apart b a → IsPlain w → Leaves a w (gone_on b o w)
on_leaves b a None w h t = leaves_all a w t
on_leaves b a (Some m) w h t =
    let v = with_motion b (Some (record m { phase = next_phase m })) w in
    let x = motion_leaves b a (Some (record m { phase = next_phase m })) w h t in
    leaves_then a w v (passed b m m.phase (next_phase m) v) x
    (passed_leaves b a m m.phase (next_phase m) v h x.plain)

advance_leaves : (a b : Axis) (w : Simulated) → Apart b a → IsPlain w → Leaves a w (advanced b w)
unfolding advanced
advance_leaves a b w h t =
    leaves_either a (moves (axis_at w b).motion) w (gone_on b (axis_at w b).motion w) w
    (on_leaves b a (axis_at w b).motion w h t) (leaves_all a w t)

-- A READING

read_leaves : (n : Machine) (a : Axis) (w : Simulated) → n ≢ machine_of_axis a → IsPlain w → Leaves a w (read_on n w)
unfolding read_on
read_leaves n a w h t =
    leaves_either a (is_reading_missing w n) w (in_turn axis_skipped (axes_of n) w) (in_turn advanced (axes_of n) w)
    (turn_leaves axis_skipped a (skip_leaves a) n w h t) (turn_leaves advanced a (advance_leaves a) n w h t)

after_leaves : (n : Machine) (a : Axis) (w : Simulated) → n ≢ machine_of_axis a → IsPlain w
    → Leaves a w (after_reading w n)
unfolding after_reading
after_leaves n a w h t =
    let x = hands_leave n a w t in let v = by_the_hands w n in
    leaves_then a w v (read_on n v) x (read_leaves n a v h x.plain)

pub reading_spares : ReadingSpares
reading_spares J w m n t d =
    record {
      plain = (after_leaves n (axis_of m) w (λ e. d (e ∙ axis_of_it m)) t).plain;
      long = reading_long w n;
      at = λ a k. refl;
      going = λ a k. refl;
      axes = λ a k. (after_leaves n a w (λ e. d (e ∙ k)) t).axis;
    }
