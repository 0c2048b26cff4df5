-- What a Started and the end of a motion do in the world
use Rattle.cell_types.specs.declared.words.Entry.{Entry}
use Rattle.cell_world.specs.Starting.{BringsTo}
use Rattle.std.proofs.Common.{◌≡◌, ◌≢◌, ℕ, ◌-◌, true, false, not, ◌||◌, Option, Some, None, [], length}
use Rattle.std.proofs.Common.{refl, sym, ap, ◌∙◌, length-set, subst}
use Rattle.cell_types.specs.declared.cell.BeltMotion.{BeltMotion}
use Rattle.cell_types.specs.declared.words.Axis.{Axis}
use Rattle.cell_types.specs.declared.words.Axis.TheVariants as axis
use Rattle.cell_types.specs.declared.words.Pose.{Pose}
use Rattle.cell_types.specs.declared.words.Entry.TheVariants.{Started}
use Rattle.cell_types.specs.declared.words.Command.{Command}
use Rattle.cell_types.specs.declared.words.Command.TheVariants.{On, Off}
use Rattle.cell_types.specs.Cell.{is_pose_of, machine_of_axis, motion_named}
use Rattle.cell_types.specs.Same.{axis_number}
use Rattle.cell_rules.specs.Views.{at_of}
use Rattle.cell_measures.specs.declared.durations.Durations.{Durations}
use Rattle.cell_measures.specs.Times.{duration}
use Rattle.cell_sim.specs.declared.axis.AxisInWorld.{AxisInWorld}
use Rattle.cell_sim.specs.declared.motion.Path.{Path}
use Rattle.cell_sim.specs.declared.motion.Path.TheVariants.{Poses}
use Rattle.cell_sim.specs.Commands.{after_command, fails, has_arm_at, met, motion_number, path_by, path_of, set_on}
use Rattle.cell_sim.specs.Commands.{set_out, started, told}
use Rattle.cell_sim.specs.Looks.{is_belt, looked, start_looked}
use Rattle.cell_sim.specs.Moves.{begun}
use Rattle.cell_sim.specs.Parts.{axis_at, collided, with_axis}
use Rattle.cell_sim.specs.Simulated.{Simulated}
use Rattle.cell_world.specs.Tied.{none, under_way, Goes, Rests}
use Rattle.cell_world.specs.Going.{AxisGoes, IsAtRest, IsPlain}
use Rattle.cell_world.specs.Starting.{further_in, after_entry, after_order, one_more, AxisEnds, AxisStarts}
use Rattle.cell_world.specs.Starting.{MachineRests}
use Rattle.cell_world.proofs.Steps.{at_same, at_other, axes_at, below_nine, each_axis, either, unless, unlooked}
use Rattle.cell_world.proofs.Entries.{at_before, at_now, brought, going_now, rests_more, starts_it, starts_no_other}

-- the world in which an axis was told to move, before it sets out
unfoldable pub ready : Axis → Simulated → Simulated
ready a w = met a (told a w)

-- a collision that is counted changes nothing else
pub ready_part : {X : Type 0} (part : Simulated → X) (a : Axis) (w : Simulated)
    → part (collided (told a w)) ≡ part (told a w) → part (ready a w) ≡ part (told a w)
unfolding ready met
ready_part part a w h =
    either part (has_arm_at (told a w) (machine_of_axis a)) (collided (told a w)) (told a w) (part (told a w)) h refl

pub ready_at : (a b : Axis) (w : Simulated) → axis_at (ready a w) b ≡ axis_at (told a w) b
ready_at a b w = axes_at (ready a w) (told a w) b (ready_part (λ (v : Simulated). v.axes) a w refl)

told_it : (a : Axis) (w : Simulated) → IsPlain w
    → axis_at (told a w) a ≡ record (axis_at w a) { commands = motion_number w a }
unfolding told
told_it a w t = at_same w a _ (below_nine a _ t.axes)

pub told_other : (a b : Axis) (w : Simulated) → axis_number b ≢ axis_number a → axis_at (told a w) b ≡ axis_at w b
unfolding told
told_other a b w h = at_other w a b _ h

told_plain : (a : Axis) (w : Simulated) → IsPlain w → IsPlain (told a w)
unfolding told
told_plain a w t =
    record { unwatched = t.unwatched; axes = length-set _ _ _ ∙ t.axes; stations = t.stations }

pub ready_plain : (a : Axis) (w : Simulated) → IsPlain w → IsPlain (ready a w)
ready_plain a w t =
    let p = told_plain a w t in
    record {
      unwatched = ready_part (λ (v : Simulated). v.watch.is_on) a w refl ∙ p.unwatched;
      axes = ready_part (λ (v : Simulated). length v.axes) a w refl ∙ p.axes;
      stations = ready_part (λ (v : Simulated). length v.plates) a w refl ∙ p.stations;
    }

-- the poses are as before
pub told_pose : (a b : Axis) (w : Simulated) → IsPlain w → (axis_at (told a w) b).pose ≡ (axis_at w b).pose
told_pose a b w t =
    each_axis (λ (c : Axis). (axis_at (told a w) c).pose ≡ (axis_at w c).pose) a b
    (ap (λ (x : AxisInWorld). x.pose) (told_it a w t))
    (λ h. ap (λ (x : AxisInWorld). x.pose) (told_other a b w h))

-- what a command to move does where no watch looks: the axis, whichever it is, sets out
out_watch : (a : Axis) (to : Pose) (o : Option Path) (w : Simulated)
    → (set_out a to None o w).watch.is_on ≡ w.watch.is_on
unfolding set_out
out_watch a to None w = refl
out_watch a to (Some p) w = refl

pub unlooked_start : (a : Axis) (to : Pose) (w : Simulated) → w.watch.is_on ≡ false → start_looked a to w ≡ w
unfolding start_looked
unlooked_start a to w u = rw u refl

pub on_does : (a : Axis) (to : Pose) (w : Simulated) → IsPlain w
    → after_command [] w (On a to) ≡ set_on a to None (ready a w)
unfolding after_command fails started ready
on_does a to w t =
    let c = Some (On a to) in let r = (ready_plain a w t).unwatched in
    ap (λ (v : Simulated). looked c (set_on a to None v)) (unlooked_start a to (ready a w) r)
    ∙ unlooked c (set_on a to None (ready a w)) (out_watch a to (path_of (ready a w) a to) (ready a w) ∙ r)

-- an axis with switches goes from where it is to its pose
no_belt_motion : (a : Axis) (to : Pose) → is_belt a ≡ false → motion_named a to ≡ None
no_belt_motion axis.FeedBelt to s = cc s
no_belt_motion axis.DepositBelt to s = cc s
no_belt_motion a to s = refl

pub path_as : (w : Simulated) (a : Axis) (to : Pose) → is_belt a ≡ false → is_pose_of a to ≡ true
    → path_of w a to ≡ Some (Poses (axis_at w a).pose to)
path_as w a to s h =
    let e : (is_belt a || not (is_pose_of a to)) ≡ false = rw (s, h) refl in
    ap (λ (o : Option BeltMotion). path_by w a to o) (no_belt_motion a to s)
    ∙ unless (is_belt a || not (is_pose_of a to)) _ _ e

sent : Axis → Pose → AxisInWorld → Durations → AxisInWorld
sent a to x d =
    record x { motion = Some (begun (Poses x.pose to) None (duration d (record { axis = a; to = to }))) }

set_off : Axis → Pose → Simulated → Simulated
set_off a to w = with_axis a (sent a to (axis_at w a) w.durations) w

sets_off : (a : Axis) (to : Pose) (w : Simulated) → is_belt a ≡ false → is_pose_of a to ≡ true
    → set_on a to None w ≡ set_off a to w
unfolding set_out set_off sent
sets_off a to w s h = ap (λ (o : Option Path). set_out a to None o w) (path_as w a to s h)

off_plain : (a : Axis) (to : Pose) (w : Simulated) → IsPlain w → IsPlain (set_off a to w)
unfolding set_off
off_plain a to w t =
    record { unwatched = t.unwatched; axes = length-set _ _ _ ∙ t.axes; stations = t.stations }

off_it : (a : Axis) (to : Pose) (w : Simulated) → IsPlain w
    → axis_at (set_off a to w) a ≡ sent a to (axis_at w a) w.durations
unfolding set_off
off_it a to w t = at_same w a _ (below_nine a _ t.axes)

off_other : (a b : Axis) (to : Pose) (w : Simulated) → axis_number b ≢ axis_number a
    → axis_at (set_off a to w) b ≡ axis_at w b
unfolding set_off
off_other a b to w h = at_other w a b _ h

abbrev long : Durations → Axis → Pose → ℕ
long d a to = duration d (record { axis = a; to = to }) - 1

sent_goes : (a : Axis) (to at : Pose) (x : AxisInWorld) (d : Durations) → x.pose ≡ at
    → Goes at to (none (long d a to)) (sent a to x d)
unfolding sent
sent_goes a to at x d p =
    record { pose = p; motion = ap (λ (q : Pose). Some (under_way (Poses q to) (none (long d a to)))) p }

told_long : (a : Axis) (w : Simulated) → (told a w).durations ≡ w.durations
unfolding told
told_long a w = refl

pub ready_long : (a : Axis) (w : Simulated) → (ready a w).durations ≡ w.durations
ready_long a w = ready_part (λ (v : Simulated). v.durations) a w refl ∙ told_long a w

pub axis_starts : AxisStarts
axis_starts J p a to f w s h t =
    let e = Started a to in
    let r = ready a w in
    let v = set_off a to r in
    let it = t.rest a refl in
    let plain = ready_plain a w t.plain in
    let at : at_of (one_more J e) a ≡ at_of J a = at_before J e a refl in
    let begins : (axis_at r a).pose ≡ at_of (one_more J e) a =
    ap (λ (x : AxisInWorld). x.pose) (ready_at a a w) ∙ (told_pose a a w t.plain ∙ (it.rests.pose ∙ sym at)) in
    subst (λ (u : Simulated). AxisGoes (one_more J e) p a to (none (further_in w a to)) f u)
    (sym (on_does a to w t.plain ∙ sets_off a to r s h))
    (record {
      plain = off_plain a to r plain;
      booked = going_now J e a (Some to) (starts_it a to);
      from_pose = ap (λ (q : Pose). is_pose_of a q) at ∙ it.own_pose;
      to_pose = h;
      goes = subst (λ (d : Durations). Goes (at_of (one_more J e) a) to (none (long d a to)) (axis_at v a))
          (ready_long a w)
          (subst (λ (x : AxisInWorld). Goes (at_of (one_more J e) a) to (none (long r.durations a to)) x)
          (sym (off_it a to r plain))
          (sent_goes a to (at_of (one_more J e) a) (axis_at r a) r.durations begins));
      others = λ b m d. rests_more J e v w b refl (starts_no_other a b to d)
          (off_other a b to r d ∙ (ready_at a b w ∙ told_other a b w d)) (t.rest b m);
      noted = t.unnoted;
    })

-- a command that turns an axis with switches off does nothing
off_does : (a : Axis) (w : Simulated) → IsPlain w → is_belt a ≡ false → after_command [] w (Off a) ≡ w
unfolding after_command fails
off_does a w t s =
    ap (λ (v : Simulated). looked (Some (Off a)) v) (unless (is_belt a) _ w s) ∙ unlooked (Some (Off a)) w t.unwatched

pub brings_same : (a : Axis) (to : Pose) (w : Simulated) (e : Entry) → is_belt a ≡ false → IsPlain w → BringsTo a to e
    → after_entry w e ≡ w
brings_same a to w e s t h =
    ap (λ (c : Option Command). after_order w c) (brought a to e h).off ∙ off_does a w t s

pub axis_ends : AxisEnds
axis_ends J p a to f w e s t h =
    let b = brought a to e h in
    let at = at_now J e a to b.at in
    subst (λ (u : Simulated). MachineRests (one_more J e) (machine_of_axis a) None u)
    (sym (brings_same a to w e s t.plain h))
    (record {
      plain = t.plain;
      rest = λ c m. each_axis (λ (x : Axis). IsAtRest (one_more J e) w x) a c
          (record {
            booked = going_now J e a None b.still;
            own_pose = ap (λ (q : Pose). is_pose_of a q) at ∙ t.to_pose;
            rests = subst (λ (q : Pose). Rests q (axis_at w a)) (sym at) t.came;
          })
          (λ d. rests_more J e w w c (b.unsaid c d) (b.unsent c d) refl (t.others c m d));
      unnoted = refl;
    })
