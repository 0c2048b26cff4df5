-- What an entry of one machine and its command leave of another
use Rattle.cell_types.specs.Cell.{axes_of}
use Rattle.std.proofs.Common.{◌≡◌, ◌≢◌, ℕ, true, Option, Some, None, List, [], refl, sym, ap}
use Rattle.std.proofs.Common.{◌∙◌, subst, inl, inr}
use Rattle.std.specs.Option.{option_map}
use Rattle.std.specs.Prelude.{unwrap_or}
use Rattle.cell_types.specs.declared.words.Arm.{Arm}
use Rattle.cell_types.specs.declared.words.Axis.{Axis}
use Rattle.cell_types.specs.declared.words.Axis.TheVariants as axis
use Rattle.cell_types.specs.declared.words.Belt.{Belt}
use Rattle.cell_types.specs.declared.words.Belt.TheVariants as belt
use Rattle.cell_types.specs.declared.words.Colour.{Colour}
use Rattle.cell_types.specs.declared.words.Colour.TheVariants as colour
use Rattle.cell_types.specs.declared.words.Command.{Command}
use Rattle.cell_types.specs.declared.words.Command.TheVariants.{Lamp as Lit, On, Off, MagnetOn, MagnetOff, AllOff}
use Rattle.cell_types.specs.declared.words.Entry.{Entry}
use Rattle.cell_types.specs.declared.words.Entry.TheVariants.{Lamp, Admitted, Claimed, Yielded, Started}
use Rattle.cell_types.specs.declared.words.Entry.TheVariants.{Arrived as ArrivedAt, Conveyed, Forged, Gripped}
use Rattle.cell_types.specs.declared.words.Entry.TheVariants.{Dropped}
use Rattle.cell_types.specs.declared.words.Entry.TheVariants.{Delivered, Declared, Reinstated, Repaired}
use Rattle.cell_types.specs.declared.words.Machine.{Machine}
use Rattle.cell_types.specs.declared.words.Machine.TheVariants as machine
use Rattle.cell_types.specs.declared.words.Pose.{Pose}
use Rattle.cell_types.specs.declared.words.Pose.TheVariants as pose
use Rattle.cell_types.specs.declared.words.Station.{Station}
use Rattle.cell_types.specs.After.{is_axis_of}
use Rattle.cell_types.specs.Cell.{is_pose_of, machine_of_axis, press_axis, station_of_arm}
use Rattle.cell_types.specs.Entries.{machine_of_entry}
use Rattle.cell_types.specs.Same.{same_axis}
use Rattle.cell_rules.specs.Last.{when}
use Rattle.cell_rules.specs.Views.{at_of, rests, sends}
use Rattle.cell_ports.specs.declared.plan.Plan.{Plan}
use Rattle.cell_turns.specs.Following.{Following}
use Rattle.cell_turns.specs.Moving.{limits_of}
use Rattle.cell_sim.specs.declared.axis.AxisInWorld.{AxisInWorld}
use Rattle.cell_sim.specs.declared.motion.Path.{Path}
use Rattle.cell_sim.specs.Commands.{after_command, all_stopped, axis_stopped, fails, feed_lit, gripped, gripped_from}
use Rattle.cell_sim.specs.Commands.{laid_at, unlit}
use Rattle.cell_sim.specs.Commands.{laid_down, lit, path_of, set_on, set_out, station_before, stopped_motion}
use Rattle.cell_sim.specs.Commands.{turned_off}
use Rattle.cell_sim.specs.Looks.{is_belt, looked, release_looked}
use Rattle.cell_sim.specs.Parts.{axis_at, in_turn, collided, has_plate, plate_moved, with_motion}
use Rattle.cell_sim.specs.Simulated.{Simulated}
use Rattle.cell_world.specs.Tied.{Given, Goes, IsFair, further_of, noted_of}
use Rattle.cell_world.specs.Going.{AxisGoes, IsAtRest, IsPlain}
use Rattle.cell_world.specs.Starting.{after_entry}
use Rattle.cell_world.specs.Sparing.{EntrySpares, IsSpared, SparedStaysTied}
use Rattle.cell_world.proofs.Leaves.{Apart, Leaves, apart_number, leaves_all, leaves_by, leaves_either, leaves_then}
use Rattle.cell_world.proofs.Leaves.{motion_leaves, not_same, plates_leave, turn_leaves}
use Rattle.cell_world.proofs.Entries.{at_before, going_before}
use Rattle.cell_world.proofs.Starts.{on_does, ready, ready_at, ready_plain, told_other}
use Rattle.cell_world.proofs.Long.{entry_long, further_then}
use Rattle.cell_world.proofs.Steps.{rests_as, unless, unlooked}

-- what is as before is tied as before
pub rest_spared : (J J' : List Entry) (m : Machine) (w w' : Simulated) → IsSpared m J J' w w' → (a : Axis)
    → machine_of_axis a ≡ m → IsAtRest J w a → IsAtRest J' w' a
rest_spared J J' m w w' s a e t = rests_as J J' w' w a (s.at a e) (s.going a e) (s.axes a e) t

goes_spared : (J J' : List Entry) (p : Plan) (m : Machine) (a : Axis) (to : Pose) (g : Given) (f : Option Following)
    (w w' : Simulated) → IsSpared m J J' w w' → machine_of_axis a ≡ m → AxisGoes J p a to g f w
    → AxisGoes J' p a to g f w'
goes_spared J J' p m a to g f w w' s e t =
    let at = sym (s.at a e) in
    record {
      plain = s.plain;
      booked = s.going a e ∙ t.booked;
      from_pose = subst (λ (q : Pose). is_pose_of a q ≡ true) at t.from_pose;
      to_pose = t.to_pose;
      goes = subst (λ (x : AxisInWorld). Goes (at_of J' a) to g x) (sym (s.axes a e))
          (subst (λ (q : Pose). Goes q to g (axis_at w a)) at t.goes);
      others = λ b i d. rest_spared J J' m w w' s b (i ∙ e) (t.others b i d);
      noted = subst (λ (q : Pose). f ≡ noted_of (record { axis = a; from = q; to = to; limits = limits_of p a }) g) at
          t.noted;
    }

pub spared_stays : SparedStaysTied
spared_stays J J' p m f w w' s (inl t) =
    inl (record {
      plain = s.plain;
      rest = λ a e. rest_spared J J' m w w' s a e (t.rest a e);
      unnoted = t.unnoted;
    })
spared_stays J J' p m f w w' s (inr t) =
    let a = t.mover in
    inr (record {
      mover = a;
      to = t.to;
      given = t.given;
      of = t.of;
      long = t.long ∙ sym (further_then w w' a t.to s.long);
      fair = subst (λ (q : Pose). IsFair (record { axis = a; from = q; to = t.to; limits = limits_of p a })
          (further_of t.given)) (sym (s.at a t.of)) t.fair;
      goes = goes_spared J J' p m a t.to t.given f w w' s t.of t.goes;
    })

-- an entry of one machine says nothing of another's axes
pub some_same : {A : Type 0} (x y : A) → Some x ≡ Some y → x ≡ y
some_same x y h = ap (λ (o : Option _). unwrap_or o x) h

unsaid : (b a : Axis) (p : Pose) → Apart b a → when (same_axis b a) p ≡ None
unsaid b a p h = let e = not_same b a h in rw e refl

unsaid_press : (press : Machine) (a : Axis) → press ≢ machine_of_axis a
    → when (is_axis_of a (press_axis press)) pose.Top ≡ None
unsaid_press machine.Press1 a h = unsaid axis.PressOne a pose.Top h
unsaid_press machine.Press2 a h = unsaid axis.PressTwo a pose.Top h
unsaid_press m a h = refl

-- a machine that isn't another's, as an entry tells it
other_machine : (n m x y : Machine) → Some x ≡ Some n → y ≡ m → n ≢ m → x ≢ y
other_machine n m x y e h d i = d (sym (some_same x n e) ∙ (i ∙ h))

says_no_rest : (e : Entry) (a : Axis) (m n : Machine) → machine_of_entry e ≡ Some n → machine_of_axis a ≡ m → n ≢ m
    → rests a e ≡ None
says_no_rest (ArrivedAt b at) a m n h k d =
    unsaid b a at (other_machine n m (machine_of_axis b) (machine_of_axis a) h k d)
says_no_rest (Conveyed b j s) a m n h k d =
    unsaid b a pose.Rest (other_machine n m (machine_of_axis b) (machine_of_axis a) h k d)
says_no_rest (Forged press j) a m n h k d = unsaid_press press a (other_machine n m press (machine_of_axis a) h k d)
says_no_rest (Repaired x) a m n h k d = cc h
says_no_rest e a m n h k d = refl

stilled : Option Pose → Option (Option Pose)
stilled o = option_map (λ _. None) o

says_no_going : (e : Entry) (a : Axis) (m n : Machine) → machine_of_entry e ≡ Some n → machine_of_axis a ≡ m → n ≢ m
    → sends a e ≡ None
unfolding stilled
says_no_going (Started b to) a m n h k d =
    let e = not_same b a (other_machine n m (machine_of_axis b) (machine_of_axis a) h k d) in rw e refl
says_no_going e a m n h k d = ap stilled (says_no_rest e a m n h k d)

-- nor does its command do anything with them
pub lit_leaves : (b : Belt) (c : Colour) (a : Axis) (w : Simulated) → IsPlain w → Leaves a w (lit b c w)
unfolding feed_lit
lit_leaves belt.Feed c a w t =
    record {
      plain = record { unwatched = t.unwatched; axes = t.axes; stations = t.stations };
      axis = refl;
    }
lit_leaves belt.Deposit c a w t =
    record {
      plain = record { unwatched = t.unwatched; axes = t.axes; stations = t.stations };
      axis = refl;
    }

out_leaves : (b a : Axis) (to : Pose) (o : Option Path) (w : Simulated) → Apart b a → IsPlain w
    → Leaves a w (set_out b to None o w)
unfolding set_out
out_leaves b a to None w h t = leaves_all a w t
out_leaves b a to (Some p) w h t = motion_leaves b a _ w h t

on_leaves : (b a : Axis) (to : Pose) (w : Simulated) → Apart b a → IsPlain w
    → Leaves a w (after_command [] w (On b to))
on_leaves b a to w h t =
    let r = ready b w in let p = ready_plain b w t in
    leaves_by a w (after_command [] w (On b to)) (set_on b to None r) (on_does b to w t)
    (leaves_then a w r (set_on b to None r)
    (record { plain = p; axis = ready_at b a w ∙ told_other b a w (apart_number b a h) })
    (out_leaves b a to (path_of r b to) r h p))

-- of a command that can't fail the unwatched world is what it does
obeyed_leaves : (a : Axis) (w v : Simulated) (c : Command) → after_command [] w c ≡ looked (Some c) v → Leaves a w v
    → Leaves a w (after_command [] w c)
obeyed_leaves a w v c h s =
    leaves_by a w (after_command [] w c) v (h ∙ unlooked (Some c) v s.plain.unwatched) s

light_leaves : (b : Belt) (c : Colour) (a : Axis) (w : Simulated) → IsPlain w
    → Leaves a w (after_command [] w (Lit b c))
unfolding after_command fails
light_leaves b c a w t = obeyed_leaves a w (lit b c w) (Lit b c) refl (lit_leaves b c a w t)

off_leaves : (b a : Axis) (w : Simulated) → Apart b a → IsPlain w → Leaves a w (after_command [] w (Off b))
unfolding after_command fails
off_leaves b a w h t =
    obeyed_leaves a w (turned_off b w) (Off b) refl
    (leaves_either a (is_belt b) w (with_motion b None w) w (motion_leaves b a None w h t) (leaves_all a w t))

from_leaves : (x : Arm) (a : Axis) (o : Option Station) (w : Simulated) → IsPlain w → Leaves a w (gripped_from x o w)
from_leaves x a None w t = leaves_all a w t
from_leaves x a (Some s) w t = plates_leave s (station_of_arm x) a w t

grip_leaves : (x : Arm) (a : Axis) (w : Simulated) → IsPlain w → Leaves a w (after_command [] w (MagnetOn x))
unfolding after_command fails gripped
grip_leaves x a w t =
    obeyed_leaves a w (gripped x w) (MagnetOn x) refl (from_leaves x a (station_before w x) w t)

collided_leaves : (x : Arm) (a : Axis) (o : Option Station) (w : Simulated) → IsPlain w
    → Leaves a w (release_looked x o (collided w))
unfolding release_looked
collided_leaves x a o w t =
    leaves_by a w (release_looked x o (collided w)) (collided w)
    (unless (collided w).watch.is_on _ (collided w) t.unwatched)
    (record {
      plain = record { unwatched = t.unwatched; axes = t.axes; stations = t.stations };
      axis = refl;
    })

laid_leaves : (x : Arm) (a : Axis) (o : Option Station) (w : Simulated) → IsPlain w → Leaves a w (laid_at x o w)
laid_leaves x a None w t = collided_leaves x a None w t
laid_leaves x a (Some s) w t =
    leaves_either a (has_plate w s) w (release_looked x (Some s) (collided w)) (plate_moved (station_of_arm x) s w)
    (collided_leaves x a (Some s) w t) (plates_leave (station_of_arm x) s a w t)

drop_leaves : (x : Arm) (a : Axis) (w : Simulated) → IsPlain w → Leaves a w (after_command [] w (MagnetOff x))
unfolding after_command fails laid_down
drop_leaves x a w t =
    obeyed_leaves a w (laid_down x w) (MagnetOff x) refl (laid_leaves x a (station_before w x) w t)

unlit_leaves : (n : Machine) (a : Axis) (w : Simulated) → IsPlain w → Leaves a w (unlit n w)
unlit_leaves machine.Feed a w t = lit_leaves belt.Feed colour.Red a w t
unlit_leaves machine.Deposit a w t = lit_leaves belt.Deposit colour.Red a w t
unlit_leaves n a w t = leaves_all a w t

stops_leave : (n : Machine) (a : Axis) (w : Simulated) → n ≢ machine_of_axis a → IsPlain w
    → Leaves a w (all_stopped n w)
unfolding all_stopped
stops_leave n a w h t =
    let x = unlit_leaves n a w t in
    leaves_then a w (unlit n w) (in_turn axis_stopped (axes_of n) (unlit n w)) x
    (turn_leaves axis_stopped a (λ b v i p. motion_leaves b a (stopped_motion (axis_at v b).motion) v i p) n (unlit n w)
    h x.plain)

all_off_leaves : (n : Machine) (a : Axis) (w : Simulated) → n ≢ machine_of_axis a → IsPlain w
    → Leaves a w (after_command [] w (AllOff n))
unfolding after_command fails
all_off_leaves n a w h t = obeyed_leaves a w (all_stopped n w) (AllOff n) refl (stops_leave n a w h t)

forged_leaves : (press : Machine) (k : ℕ) (a : Axis) (w : Simulated) → press ≢ machine_of_axis a → IsPlain w
    → Leaves a w (after_entry w (Forged press k))
forged_leaves machine.Press1 k a w h t = off_leaves axis.PressOne a w h t
forged_leaves machine.Press2 k a w h t = off_leaves axis.PressTwo a w h t
forged_leaves m k a w h t = leaves_all a w t

entry_leaves : (e : Entry) (a : Axis) (m n : Machine) (w : Simulated) → IsPlain w → machine_of_entry e ≡ Some n
    → machine_of_axis a ≡ m → n ≢ m → Leaves a w (after_entry w e)
entry_leaves (Lamp b c) a m n w t h k d = light_leaves b c a w t
entry_leaves (Admitted j) a m n w t h k d = light_leaves belt.Feed colour.Red a w t
entry_leaves (Delivered j) a m n w t h k d = light_leaves belt.Deposit colour.Red a w t
entry_leaves (Reinstated j) a m n w t h k d = light_leaves belt.Feed colour.Red a w t
entry_leaves (Claimed x z) a m n w t h k d = leaves_all a w t
entry_leaves (Yielded x z) a m n w t h k d = leaves_all a w t
entry_leaves (Started b to) a m n w t h k d =
    on_leaves b a to w (other_machine n m (machine_of_axis b) (machine_of_axis a) h k d) t
entry_leaves (ArrivedAt b at) a m n w t h k d =
    off_leaves b a w (other_machine n m (machine_of_axis b) (machine_of_axis a) h k d) t
entry_leaves (Conveyed b j s) a m n w t h k d =
    off_leaves b a w (other_machine n m (machine_of_axis b) (machine_of_axis a) h k d) t
entry_leaves (Forged press j) a m n w t h k d =
    forged_leaves press j a w (other_machine n m press (machine_of_axis a) h k d) t
entry_leaves (Gripped x j s) a m n w t h k d = grip_leaves x a w t
entry_leaves (Dropped x j s) a m n w t h k d = drop_leaves x a w t
entry_leaves (Declared x why) a m n w t h k d =
    all_off_leaves x a w (other_machine n m x (machine_of_axis a) h k d) t
entry_leaves e a m n w t h k d = cc h

-- each machine has an axis
unfoldable pub axis_of : Machine → Axis
axis_of machine.Feed = axis.FeedBelt
axis_of machine.Table = axis.TableLift
axis_of machine.Robot = axis.RobotTurn
axis_of machine.Press1 = axis.PressOne
axis_of machine.Press2 = axis.PressTwo
axis_of machine.Deposit = axis.DepositBelt

pub axis_of_it : (m : Machine) → machine_of_axis (axis_of m) ≡ m
unfolding axis_of
axis_of_it machine.Feed = refl
axis_of_it m = refl

pub entry_spares : EntrySpares
entry_spares J w e m n t h d =
    record {
      plain = (entry_leaves e (axis_of m) m n w t h (axis_of_it m) d).plain;
      long = entry_long w e;
      at = λ a k. at_before J e a (says_no_rest e a m n h k d);
      going = λ a k. going_before J e a (says_no_going e a m n h k d);
      axes = λ a k. (entry_leaves e a m n w t h k d).axis;
    }
