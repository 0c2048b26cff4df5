-- What leaves an axis as it is in the world
use Rattle.cell_types.specs.Cell.{axes_of}
use Rattle.std.proofs.Common.{◌≡◌, ◌≢◌, Bool, true, false, Option, None, refl, sym, ap}
use Rattle.std.proofs.Common.{◌∙◌, subst, length-set, if◌then◌else◌}
use Rattle.cell_types.specs.declared.words.Axis.{Axis}
use Rattle.cell_types.specs.declared.words.Axis.TheVariants as axis
use Rattle.cell_types.specs.declared.words.Machine.{Machine}
use Rattle.cell_types.specs.declared.words.Machine.TheVariants as machine
use Rattle.cell_types.specs.declared.words.Station.{Station}
use Rattle.cell_types.specs.Cell.{machine_of_axis}
use Rattle.cell_types.specs.Same.{axis_number, same_axis}
use Rattle.cell_sim.specs.declared.axis.AxisInWorld.{AxisInWorld}
use Rattle.cell_sim.specs.declared.motion.Moving.{Moving}
use Rattle.cell_sim.specs.declared.world.Plate.{Plate}
use Rattle.cell_sim.specs.Parts.{axis_at, has_plate, in_turn, plate_here, plate_moved, with_axis, with_motion}
use Rattle.cell_sim.specs.Parts.{with_plate}
use Rattle.cell_sim.specs.Simulated.{Simulated}
use Rattle.cell_world.specs.Going.{IsPlain}
use Rattle.cell_world.proofs.Steps.{at_other, different, not_true}
use Rattle.cell_rules.proofs.Safe.Facts.{axis_same}

-- axes of two machines
abbrev pub Apart : Axis → Axis → Type 0
Apart b a = machine_of_axis b ≢ machine_of_axis a

pub not_same : (b a : Axis) → Apart b a → same_axis b a ≡ false
not_same b a h = not_true (same_axis b a) (λ e. h (ap machine_of_axis (axis_same b a e)))

-- an axis is as before in the world
pub record Leaves (a : Axis) (w v : Simulated) : Type 0 where
  pub plain : IsPlain v
  pub axis : axis_at v a ≡ axis_at w a

pub leaves_all : (a : Axis) (w : Simulated) → IsPlain w → Leaves a w w
leaves_all a w t = record { plain = t; axis = refl }

pub leaves_then : (a : Axis) (w v u : Simulated) → Leaves a w v → Leaves a v u → Leaves a w u
leaves_then a w v u s t = record { plain = t.plain; axis = t.axis ∙ s.axis }

pub leaves_either : (a : Axis) (b : Bool) (w v u : Simulated) → Leaves a w v → Leaves a w u
    → Leaves a w (if b then v else u)
leaves_either a true w v u s t = s
leaves_either a false w v u s t = t

pub leaves_by : (a : Axis) (w v u : Simulated) → v ≡ u → Leaves a w u → Leaves a w v
leaves_by a w v u h s = subst (λ (x : Simulated). Leaves a w x) (sym h) s

pub apart_number : (b a : Axis) → Apart b a → axis_number a ≢ axis_number b
apart_number b a h = different b a (not_same a b (λ e. h (sym e)))

pub axis_leaves : (b a : Axis) (x : AxisInWorld) (w : Simulated) → Apart b a → IsPlain w → Leaves a w (with_axis b x w)
axis_leaves b a x w h t =
    record {
      plain = record {
        unwatched = t.unwatched;
        axes = length-set _ _ _ ∙ t.axes;
        stations = t.stations;
      };
      axis = at_other w b a x (apart_number b a h);
    }

pub motion_leaves : (b a : Axis) (o : Option Moving) (w : Simulated) → Apart b a → IsPlain w
    → Leaves a w (with_motion b o w)
motion_leaves b a o w h t = axis_leaves b a (record (axis_at w b) { motion = o }) w h t

pub plate_leaves : (s : Station) (a : Axis) (o : Option Plate) (w : Simulated) → IsPlain w
    → Leaves a w (with_plate s o w)
plate_leaves s a o w t =
    record {
      plain = record {
        unwatched = t.unwatched;
        axes = t.axes;
        stations = length-set _ _ _ ∙ t.stations;
      };
      axis = refl;
    }

pub plates_leave : (from to : Station) (a : Axis) (w : Simulated) → IsPlain w → Leaves a w (plate_moved from to w)
plates_leave from to a w t =
    let s = plate_leaves from a None w t in
    leaves_either a (has_plate w to) w w (with_plate to (plate_here w from) (with_plate from None w)) (leaves_all a w t)
    (leaves_then a w (with_plate from None w) (with_plate to (plate_here w from) (with_plate from None w)) s
    (plate_leaves to a (plate_here w from) (with_plate from None w) s.plain))

-- each axis of another machine in turn
pub turn_leaves : (step : Axis → Simulated → Simulated) (a : Axis)
    → ((b : Axis) (v : Simulated) → Apart b a → IsPlain v → Leaves a v (step b v))
    → (n : Machine) (w : Simulated) → n ≢ machine_of_axis a → IsPlain w → Leaves a w (in_turn step (axes_of n) w)
turn_leaves step a s machine.Feed w h t = s axis.FeedBelt w h t
turn_leaves step a s machine.Deposit w h t = s axis.DepositBelt w h t
turn_leaves step a s machine.Table w h t =
    let x = s axis.TableLift w h t in let v = step axis.TableLift w in
    leaves_then a w v (step axis.TableTurn v) x (s axis.TableTurn v h x.plain)
turn_leaves step a s machine.Robot w h t =
    let x = s axis.RobotTurn w h t in let v = step axis.RobotTurn w in
    let y = s axis.ArmOne v h x.plain in let u = step axis.ArmOne v in
    leaves_then a w v (step axis.ArmTwo u) x (leaves_then a v u (step axis.ArmTwo u) y (s axis.ArmTwo u h y.plain))
turn_leaves step a s machine.Press1 w h t = s axis.PressOne w h t
turn_leaves step a s machine.Press2 w h t = s axis.PressTwo w h t
