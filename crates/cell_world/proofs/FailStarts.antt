-- An axis that sets out with a fault that lasts, or whose command is lost
use Rattle.std.proofs.Common.{ℕ, ◌<◌, ◌≤◌, ◌+◌, arith, ◌≡◌, ◌≢◌, ◌⊎◌, inl, inr, ◌==◌, Bool, true, false, Option, Some}
use Rattle.std.proofs.Common.{None, List, ◌∷◌, length, refl, sym, ap, ◌∙◌, subst, IfSome, length-set, ◌||◌}
use Rattle.std.proofs.Common.{if◌then◌else◌, is_none}
use Rattle.cell_types.specs.declared.words.Axis.{Axis}
use Rattle.cell_types.specs.declared.words.Cause.TheVariants as cause
use Rattle.cell_types.specs.declared.words.Command.TheVariants.{AllOff, Lamp, MagnetOff, MagnetOn, Off, On}
use Rattle.cell_types.specs.declared.words.Entry.{Entry}
use Rattle.cell_types.specs.declared.words.Entry.TheVariants.{Declared, Started}
use Rattle.cell_types.specs.declared.words.Machine.{Machine}
use Rattle.cell_types.specs.declared.words.Pose.{Pose}
use Rattle.cell_types.specs.declared.words.Station.{Station}
use Rattle.cell_types.specs.declared.words.Station.TheVariants as station
use Rattle.cell_types.specs.Cell.{is_pose_of, machine_of_axis}
use Rattle.cell_types.specs.Same.{axis_number}
use Rattle.cell_rules.specs.declared.limits.BookLimits.{BookLimits}
use Rattle.cell_rules.specs.Last.{when}
use Rattle.cell_rules.specs.Legal.{first_of, legal}
use Rattle.cell_rules.specs.Views.{at_of, is_asked, is_failed}
use Rattle.cell_rules.proofs.Safe.Bridge.{good_when_legal}
use Rattle.cell_rules.proofs.Safe.Safety.{safe_state}
use Rattle.cell_diagnosis.specs.declared.reading.Reading.{Reading}
use Rattle.cell_diagnosis.specs.Readings.{place_in_axis}
use Rattle.cell_diagnosis.specs.declared.verdict.Verdict.TheVariants.{Pending}
use Rattle.cell_ports.specs.declared.plan.Plan.{Plan}
use Rattle.cell_turns.specs.declared.turns.decide.Ruling.{Ruling}
use Rattle.cell_turns.specs.declared.turns.decide.Ruling.TheVariants.{Books, Nothing}
use Rattle.cell_turns.specs.Following.{Following}
use Rattle.cell_turns.specs.Minds.{Mind, with_failure}
use Rattle.cell_turns.specs.Observed.{axis_noted, axis_verdict}
use Rattle.cell_turns.specs.Rulings.{declares, first_ruling, ruling}
use Rattle.cell_turns.specs.Schedules.{mind_sent}
use Rattle.cell_turns.specs.Moving.{limits_of}
use Rattle.cell_turns.specs.Turns.{begins_anew, ends_motion, IsDecided, IsRuled, mind_after}
use Rattle.cell_sim.specs.declared.axis.AxisInWorld.{AxisInWorld}
use Rattle.cell_sim.specs.declared.fault.Fault.{Fault}
use Rattle.cell_sim.specs.declared.fault.Fault.TheVariants as fault
use Rattle.cell_sim.specs.declared.fault.PlannedFault.{PlannedFault}
use Rattle.cell_sim.specs.declared.motion.Moving.{Moving}
use Rattle.cell_sim.specs.declared.motion.Path.{Path}
use Rattle.cell_sim.specs.Commands.{after_command, fails, is_refused, motion_number, path_of, set_on, set_out, started}
use Rattle.cell_sim.specs.Commands.{told}
use Rattle.cell_sim.specs.Looks.{looked, start_looked, is_belt}
use Rattle.cell_sim.specs.declared.motion.Phase.TheVariants.{Begun}
use Rattle.cell_sim.specs.Moves.{missing_first, moves}
use Rattle.cell_sim.specs.Parts.{axis_at, collided, plate_at, plate_here, with_axis}
use Rattle.cell_sim.specs.Readings.{after_reading, is_silent_in, shown}
use Rattle.cell_sim.specs.Script.{fault_in}
use Rattle.cell_sim.specs.Simulated.{Simulated}
use Rattle.cell_world.specs.Failing.{count_noted, IsSick}
use Rattle.cell_world.specs.FailStarts.{IsUnheard, LostTurns, AxisSetsOut, UnplannedIsSound, after_turn_with}
use Rattle.cell_world.specs.FailStarts.{is_lasting, mind_with}
use Rattle.cell_world.specs.Faulty.{IsToFail, is_barred}
use Rattle.cell_world.specs.Going.{IsAtRest, IsPlain, OthersRest}
use Rattle.cell_world.specs.Sparing.{IsSpared}
use Rattle.cell_world.specs.Starting.{further_in, MachineRests, after_entry, one_more}
use Rattle.cell_world.specs.Stopping.{IsHalted}
use Rattle.cell_world.specs.Tied.{motion_by}
use Rattle.cell_world.specs.Turning.{TurnBegins}
use Rattle.cell_world.proofs.Begins.{from_rest}
use Rattle.cell_world.proofs.Clear.{starts_stay_clear}
use Rattle.cell_world.proofs.Ends.{SparesEnds, spares_same}
use Rattle.cell_world.proofs.Entries.{at_before, going_now, starts_it, rests_more, going_before, starts_no_other}
use Rattle.cell_world.proofs.Failing.{DeclaredTurn, axis_then, declared_so}
use Rattle.cell_world.proofs.FaultStarts.{begun_by, goes_out, told_same}
use Rattle.cell_world.proofs.Halts.{read_still}
use Rattle.cell_world.proofs.Laying.{WorldAsBefore, laying_of}
use Rattle.cell_world.proofs.Leaves.{apart_number}
use Rattle.cell_world.proofs.Starts.{told_other, on_does, ready, ready_at, ready_part, ready_plain, told_pose}
use Rattle.cell_world.proofs.Starts.{unlooked_start}
use Rattle.cell_world.proofs.Steps.{each_axis, at_other, at_same, below_nine, rest_moves, rest_silent, unlooked}
use Rattle.cell_world.proofs.Whole.{switch_axis}
use Rattle.cell_world.proofs.Machines.{elsewhere, no_belt, nothing_noted, rest_after}
use Rattle.cell_world.proofs.Plates.{number_of}
use Rattle.cell_world.proofs.Stopping.{ReadsSo, Seen as AxisSeen, failed_after, obeyed_after}
use Rattle.cell_world.proofs.Turns.{good_then, plates_as, rests_then, still_healthy, still_unasked, when_no}

-- WHERE NO FAULT IS PLANNED

none_of : {A : Type 0} (o : Option A) → is_none o ≡ true → o ≡ None
none_of None h = refl
none_of (Some x) h = cc h

pub unplanned : UnplannedIsSound
unfolding after_command fails started
unplanned faults w (On a to) h =
    let n = none_of (fault_in a (motion_number w a) faults) h in (rw n refl, rw n refl)
unplanned faults w (Lamp b c) h = (refl, refl)
unplanned faults w (Off a) h = (refl, refl)
unplanned faults w (MagnetOn a) h = (refl, refl)
unplanned faults w (MagnetOff a) h = (refl, refl)
unplanned faults w (AllOff m) h = (refl, refl)

-- WHERE A COMMAND IS LOST

refused_fails : (faults : List PlannedFault) (a : Axis) (to : Pose) (w : Simulated)
    → fault_in a (motion_number w a) faults ≡ Some fault.RefuseCommand
    → (after_command faults w (On a to) ≡ told a w) × (fails faults w (On a to) ≡ true)
unfolding after_command fails started
refused_fails faults a to w h = (rw h refl, rw h refl)

-- WHERE THE AXIS SETS OUT

out_part : {X : Type 0} (part : Simulated → X) (a : Axis) (to : Pose) (f : Option Fault) (o : Option Path)
    (w : Simulated) → ((b : Axis) (x : AxisInWorld) (u : Simulated) → part (with_axis b x u) ≡ part u)
    → part (set_out a to f o w) ≡ part w
unfolding set_out
out_part part a to f None w h = refl
out_part part a to f (Some y) w h = h a _ w

out_pose : (a : Axis) (to : Pose) (f : Option Fault) (o : Option Path) (w : Simulated) → length w.axes ≡ 9
    → (axis_at (set_out a to f o w) a).pose ≡ (axis_at w a).pose
unfolding set_out
out_pose a to f None w nine = refl
out_pose a to f (Some y) w nine = ap (λ (x : AxisInWorld). x.pose) (at_same w a _ (below_nine a _ nine))

out_other : (a b : Axis) (to : Pose) (f : Option Fault) (o : Option Path) (w : Simulated)
    → axis_number b ≢ axis_number a → axis_at (set_out a to f o w) b ≡ axis_at w b
unfolding set_out
out_other a b to f None w d = refl
out_other a b to f (Some y) w d = at_other w a b _ d

on_with : (faults : List PlannedFault) (a : Axis) (to : Pose) (f : Fault) (w : Simulated) → IsPlain w
    → fault_in a (motion_number w a) faults ≡ Some f → is_refused (Some f) ≡ false
    → (after_command faults w (On a to) ≡ set_on a to (Some f) (ready a w)) × (fails faults w (On a to) ≡ false)
unfolding after_command fails started ready
on_with faults a to f w t h k =
    let c = Some (On a to) in let r = (ready_plain a w t).unwatched in
    let u = set_on a to (Some f) (ready a w) in
    let first : after_command faults w (On a to) ≡ looked c (set_on a to (Some f) (start_looked a to (ready a w))) =
    rw (h, k) refl in (
      first
          ∙ (ap (λ (v : Simulated). looked c (set_on a to (Some f) v)) (unlooked_start a to (ready a w) r)
          ∙ unlooked c u (out_part (λ (v : Simulated). v.watch.is_on) a to (Some f) (path_of (ready a w) a to)
          (ready a w)
          (λ b x v. refl) ∙ r)),
      rw (h, k) refl,
    )

-- what a command leaves that is to move an axis, whether it is lost or not
record Commanded (a : Axis) (w v : Simulated) : Type 0 where
  plain : IsPlain v
  pose : (axis_at v a).pose ≡ (axis_at w a).pose
  part : laying_of v ≡ laying_of w
  light : v.deposit_light ≡ w.deposit_light
  here : (u : Station) → plate_here v u ≡ plate_here w u
  long : v.durations ≡ w.durations
  other : (b : Axis) → axis_number b ≢ axis_number a → axis_at v b ≡ axis_at w b

told_part : {X : Type 0} (part : Simulated → X) (a : Axis) (w : Simulated)
    → ((b : Axis) (x : AxisInWorld) (u : Simulated) → part (with_axis b x u) ≡ part u) → part (told a w) ≡ part w
unfolding told
told_part part a w h = h a _ w

set_part : {X : Type 0} (part : Simulated → X) (a : Axis) (to : Pose) (f : Option Fault) (w : Simulated)
    → ((b : Axis) (x : AxisInWorld) (u : Simulated) → part (with_axis b x u) ≡ part u)
    → ((u : Simulated) → part (collided u) ≡ part u) → part (set_on a to f (ready a w)) ≡ part w
set_part part a to f w h k =
    out_part part a to f (path_of (ready a w) a to) (ready a w) h
    ∙ (ready_part part a w (k (told a w)) ∙ told_part part a w h)

told_leaves : (a : Axis) (w : Simulated) → IsPlain w → Commanded a w (told a w)
told_leaves a w t =
    record {
      plain = record {
        unwatched = told_part (λ (u : Simulated). u.watch.is_on) a w (λ b x u. refl) ∙ t.unwatched;
        axes = told_part (λ (u : Simulated). length u.axes) a w (λ b x u. length-set _ _ _) ∙ t.axes;
        stations = told_part (λ (u : Simulated). length u.plates) a w (λ b x u. refl) ∙ t.stations;
      };
      pose = told_pose a a w t;
      part = told_part laying_of a w (λ b x u. refl);
      light = told_part (λ (u : Simulated). u.deposit_light) a w (λ b x u. refl);
      here = λ c. told_part (λ (u : Simulated). plate_here u c) a w (λ b x u. refl);
      long = told_part (λ (u : Simulated). u.durations) a w (λ b x u. refl);
      other = λ b d. told_other a b w d;
    }

set_leaves : (a : Axis) (to : Pose) (f : Option Fault) (w : Simulated) → IsPlain w
    → Commanded a w (set_on a to f (ready a w))
set_leaves a to f w t =
    record {
      plain = record {
        unwatched = set_part (λ (u : Simulated). u.watch.is_on) a to f w (λ b x u. refl) (λ u. refl) ∙ t.unwatched;
        axes = set_part (λ (u : Simulated). length u.axes) a to f w (λ b x u. length-set _ _ _) (λ u. refl) ∙ t.axes;
        stations = set_part (λ (u : Simulated). length u.plates) a to f w (λ b x u. refl) (λ u. refl) ∙ t.stations;
      };
      pose = out_pose a to f (path_of (ready a w) a to) (ready a w) (ready_plain a w t).axes
          ∙ (ap (λ (x : AxisInWorld). x.pose) (ready_at a a w) ∙ told_pose a a w t);
      part = set_part laying_of a to f w (λ b x u. refl) (λ u. refl);
      light = set_part (λ (u : Simulated). u.deposit_light) a to f w (λ b x u. refl) (λ u. refl);
      here = λ c. set_part (λ (u : Simulated). plate_here u c) a to f w (λ b x u. refl) (λ u. refl);
      long = set_part (λ (u : Simulated). u.durations) a to f w (λ b x u. refl) (λ u. refl);
      other = λ b d. out_other a b to f (path_of (ready a w) a to) (ready a w) d
          ∙ (ready_at a b w ∙ told_other a b w d);
    }

-- no collision is counted if none is where no fault is planned
ready_counts : (a : Axis) (to : Pose) (w : Simulated) → IsPlain w
    → (after_entry w (Started a to)).collisions ≡ w.collisions → (ready a w).collisions ≡ w.collisions
ready_counts a to w t h =
    sym (ap (λ (u : Simulated). u.collisions) (on_does a to w t)
    ∙ out_part (λ (u : Simulated). u.collisions) a to None (path_of (ready a w) a to) (ready a w) (λ b x u. refl)) ∙ h

-- WHAT IT LEAVES OF THE CELL

-- its machine rests, and it is sent on
record Sends (l : BookLimits) (J : List Entry) (p : Plan) (a : Axis) (to : Pose) (s : Mind) (w : Simulated) : Type 0
  where
    state : is_belt a ≡ false
    begins : TurnBegins l J p (machine_of_axis a) s w
    free : first_of l J (Started a to) ≡ None
    own_pose : is_pose_of a to ≡ true
    away : to ≢ at_of J a
    rests : MachineRests J (machine_of_axis a) s.axis w
    still : after_reading w (machine_of_axis a) ≡ w

sends_of : (l : BookLimits) (J : List Entry) (p : Plan) (a : Axis) (to : Pose) (s : Mind) (w : Simulated)
    → is_belt a ≡ false → TurnBegins l J p (machine_of_axis a) s w → first_of l J (Started a to) ≡ None
    → Sends l J p a to s w
sends_of l J p a to s w beltless t free =
    let m = machine_of_axis a in let b = switch_axis a beltless in
    let may = from_rest l J a to (no_belt a m refl b) t.legal free in
    let rests = rests_then J p m s.axis w t.as_booked.tied may.rest in
    record {
      state = beltless;
      begins = t;
      free = free;
      own_pose = may.own_pose;
      away = may.elsewhere;
      rests = rests;
      still = rest_after J m w b rests.rest;
    }

-- what is left of the cell
pub record FailingStart (faults : List PlannedFault) (J : List Entry) (p : Plan) (a : Axis) (to : Pose) (s : Mind)
    (w : Simulated) : Type 0
  where
    pub state : IsSick (one_more J (Started a to)) p a
        (mind_with faults J (machine_of_axis a) p s w (Some (Started a to)))
        (after_turn_with faults w (machine_of_axis a) (Some (Started a to)))
        ⊎ IsUnheard (one_more J (Started a to)) a
        (mind_with faults J (machine_of_axis a) p s w (Some (Started a to)))
        (after_turn_with faults w (machine_of_axis a) (Some (Started a to)))
    pub unasked : is_asked (one_more J (Started a to)) (machine_of_axis a) ≡ false
    pub spared : (n : Machine) → machine_of_axis a ≢ n → IsSpared n J (one_more J (Started a to)) w
        (after_turn_with faults w (machine_of_axis a) (Some (Started a to)))
    pub long : (after_turn_with faults w (machine_of_axis a) (Some (Started a to))).durations ≡ w.durations
    pub before : WorldAsBefore J (one_more J (Started a to)) w
        (after_turn_with faults w (machine_of_axis a) (Some (Started a to)))
    pub spares : SparesEnds J w (after_turn_with faults w (machine_of_axis a) (Some (Started a to)))
    pub collisions : (after_turn_with faults w (machine_of_axis a) (Some (Started a to))).collisions ≡ w.collisions

-- the world from which the command comes
abbrev Here : Axis → Simulated → Simulated
Here a w = after_reading w (machine_of_axis a)

here_plain : (l : BookLimits) (J : List Entry) (p : Plan) (a : Axis) (to : Pose) (s : Mind) (w : Simulated)
    → Sends l J p a to s w → IsPlain (Here a w)
here_plain l J p a to s w t = subst IsPlain (sym t.still) t.rests.plain

all_rest_here : (l : BookLimits) (J : List Entry) (p : Plan) (a : Axis) (to : Pose) (s : Mind) (w : Simulated)
    (b : Axis) → Sends l J p a to s w → machine_of_axis b ≡ machine_of_axis a → IsAtRest J (Here a w) b
all_rest_here l J p a to s w b t e = subst (λ (u : Simulated). IsAtRest J u b) (sym t.still) (t.rests.rest b e)

here_rests : (l : BookLimits) (J : List Entry) (p : Plan) (a : Axis) (to : Pose) (s : Mind) (w : Simulated)
    → Sends l J p a to s w → IsAtRest J (Here a w) a
here_rests l J p a to s w t = all_rest_here l J p a to s w a t refl

-- beside the axis that is sent on, the others rest
rest_beside : (l : BookLimits) (J : List Entry) (p : Plan) (a : Axis) (to : Pose) (s : Mind) (w v : Simulated)
    → Sends l J p a to s w → Commanded a (Here a w) v → OthersRest (one_more J (Started a to)) v a
rest_beside l J p a to s w v t c b e d =
    rests_more J (Started a to) v (Here a w) b refl (starts_no_other a b to d) (c.other b d)
    (all_rest_here l J p a to s w b t e)

rest_halted : (J : List Entry) (w : Simulated) (b : Axis) → IsAtRest J w b → IsHalted J w b
rest_halted J w b t =
    record {
      stands = inl t.rests.pose;
      still = rest_moves (at_of J b) (axis_at w b).motion t.rests.motion;
      read = rest_silent (at_of J b) (axis_at w b).motion t.rests.motion;
    }

here_counts : (l : BookLimits) (J : List Entry) (p : Plan) (a : Axis) (to : Pose) (s : Mind) (w : Simulated)
    → Sends l J p a to s w → (ready a (Here a w)).collisions ≡ w.collisions
here_counts l J p a to s w t =
    let k = good_then l J (Started a to) (good_when_legal l J t.begins.legal) t.free in
    subst (λ (u : Simulated). (ready a u).collisions ≡ w.collisions) (sym t.still)
    (ready_counts a to w t.rests.plain (starts_stay_clear J a to w t.rests.plain t.begins.robot
    (t.rests.rest a refl).booked (safe_state (one_more J (Started a to)) k)))

start_spares : (l : BookLimits) (J : List Entry) (p : Plan) (a : Axis) (to : Pose) (s : Mind) (w v : Simulated)
    → Sends l J p a to s w → Commanded a (Here a w) v → SparesEnds J w v
start_spares l J p a to s w v t c =
    record {
      part = c.part ∙ ap laying_of t.still;
      light = c.light ∙ ap (λ (u : Simulated). u.deposit_light) t.still;
      here = λ x i. c.here x ∙ ap (λ (u : Simulated). plate_here u x) t.still;
    }

start_before : (l : BookLimits) (J : List Entry) (p : Plan) (a : Axis) (to : Pose) (s : Mind) (w v : Simulated)
    → Sends l J p a to s w → Commanded a (Here a w) v → WorldAsBefore J (one_more J (Started a to)) w v
start_before l J p a to s w v t c =
    let x = Started a to in let spares = start_spares l J p a to s w v t c in
    let g = good_when_legal l J t.begins.legal in let k = good_then l J x g t.free in
    record {
      part = spares.part;
      light = spares.light;
      laid = λ i. ap number_of (spares.here station.FeedIn tt);
      taken = λ i. ap number_of (spares.here station.DepEnd tt);
      booked = λ u h. plates_as J x w v u g k refl
          (ap number_of (c.here u) ∙ ap (λ (y : Simulated). plate_at y u) t.still) h;
    }

start_long : (l : BookLimits) (J : List Entry) (p : Plan) (a : Axis) (to : Pose) (s : Mind) (w v : Simulated)
    → Sends l J p a to s w → Commanded a (Here a w) v → v.durations ≡ w.durations
start_long l J p a to s w v t c = c.long ∙ ap (λ (u : Simulated). u.durations) t.still

start_spared : (l : BookLimits) (J : List Entry) (p : Plan) (a : Axis) (to : Pose) (s : Mind) (w v : Simulated)
    (n : Machine) → Sends l J p a to s w → Commanded a (Here a w) v → machine_of_axis a ≢ n
    → IsSpared n J (one_more J (Started a to)) w v
start_spared l J p a to s w v n t c d =
    let x = Started a to in
    record {
      plain = c.plain;
      long = start_long l J p a to s w v t c;
      at = λ b i. at_before J x b refl;
      going = λ b i. going_before J x b (starts_no_other a b to (apart_number a b (λ e. d (e ∙ i))));
      axes = λ b i. c.other b (apart_number a b (λ e. d (e ∙ i))) ∙ ap (λ (u : Simulated). axis_at u b) t.still;
    }

unasked_then : (l : BookLimits) (J : List Entry) (p : Plan) (a : Axis) (to : Pose) (s : Mind) (w : Simulated)
    → Sends l J p a to s w → is_asked (one_more J (Started a to)) (machine_of_axis a) ≡ false
unasked_then l J p a to s w t =
    still_unasked J (machine_of_axis a) s (Started a to) t.begins.as_booked (record { unfailed = refl; unasked = refl })

-- WHAT THE AXIS IS THEN

abbrev Mine : List Entry → Plan → Axis → Pose → Mind → Simulated → Mind
Mine J p a to s w = mind_after J (machine_of_axis a) p s (shown w (machine_of_axis a)) (Some (Started a to))

healthy_then : (l : BookLimits) (J : List Entry) (p : Plan) (a : Axis) (to : Pose) (s : Mind) (w : Simulated)
    → Sends l J p a to s w → is_failed (one_more J (Started a to)) (machine_of_axis a) ≡ false
healthy_then l J p a to s w t =
    still_healthy J (machine_of_axis a) s (Started a to) t.begins.as_booked (record { unfailed = refl; unasked = refl })

to_fail : (faults : List PlannedFault) (l : BookLimits) (J : List Entry) (p : Plan) (a : Axis) (to : Pose) (s : Mind)
    (w : Simulated) (f : Fault) → Sends l J p a to s w
    → fault_in a (motion_number (Here a w) a) faults ≡ Some f → is_refused (Some f) ≡ false
    → IsToFail faults (motion_by (one_more J (Started a to)) p a to) f (Here a w)
to_fail faults l J p a to s w f t h k =
    let at = at_before J (Started a to) a refl in let r = here_rests l J p a to s w t in
    let b = no_belt a (machine_of_axis a) refl (switch_axis a t.state) in
    record {
      switched = record {
        switches = b;
        from_pose = ap (λ (q : Pose). is_pose_of a q) at ∙ r.own_pose;
        to_pose = t.own_pose;
        elsewhere = ap (λ (q : Pose). place_in_axis to == place_in_axis q) at
            ∙ elsewhere a to (at_of J a) b t.own_pose r.own_pose t.away;
      };
      axes = (here_plain l J p a to s w t).axes;
      pose = r.rests.pose ∙ sym at;
      others = λ c e d. let still = rest_halted J (Here a w) c (all_rest_here l J p a to s w c t e) in
          record { unmoved = still.still; read = still.read };
      planned = h;
      taken = k;
    }

-- its watch has noted nothing yet
none_if : (b : Bool) (o : Option Following) → o ≡ None → (if b then None else o) ≡ None
none_if true o h = refl
none_if false o h = h

axis_none : (J : List Entry) (p : Plan) (m : Machine) (s : Mind) (r : Option Reading) (e : Option Entry)
    → axis_noted J m p s.axis r ≡ None → (mind_after J m p s r e).axis ≡ None
unfolding mind_after
axis_none J p m s r e h = none_if (begins_anew J m s.memory || ends_motion e) (axis_noted J m p s.axis r) h

some_limit : (n limit : ℕ) → n + 3 ≤ limit → 0 < limit
some_limit n limit h = omega (arith, h)

-- it goes with a fault that keeps it from showing its end
sick_start : (faults : List PlannedFault) (l : BookLimits) (J : List Entry) (p : Plan) (a : Axis) (to : Pose)
    (s : Mind) (w : Simulated) (f : Fault) → Sends l J p a to s w
    → fault_in a (motion_number (Here a w) a) faults ≡ Some f → is_refused (Some f) ≡ false
    → is_barred (Some f) Begun ≡ true → missing_first (Some f) ≡ 0 → FailingStart faults J p a to s w
sick_start faults l J p a to s w f t h k barred read =
    let m = machine_of_axis a in let x = Started a to in let K = one_more J x in let r = Here a w in
    let plain = here_plain l J p a to s w t in
    let v = after_command faults r (On a to) in
    let on = on_with faults a to f r plain h k in
    let left = subst (λ (u : Simulated). Commanded a r u) (sym on.0) (set_leaves a to (Some f) r plain) in
    let healthy = healthy_then l J p a to s w t in
    let goes = motion_by K p a to in
    let unnoted = nothing_noted J p m s.axis w (shown w m) (switch_axis a t.state) t.rests in
    let sick : IsSick K p a (Mine J p a to s w) v = record {
      to = to;
      moving = begun_by goes f r;
      healthy = healthy;
      unasked = still_unasked J m s x t.begins.as_booked (record { unfailed = refl; unasked = refl });
      was_healthy = failed_after J p m s (shown w m) (Some x) ∙ healthy;
      was_obeyed = obeyed_after J p m s (shown w m) (Some x) t.begins.as_booked.was_obeyed;
      plain = left.plain;
      booked = going_now J x a (Some to) (starts_it a to);
      goes = goes_out faults goes f r (to_fail faults l J p a to s w f t h k);
      barred = barred;
      read = read;
      stands = inl (left.pose ∙ ((here_rests l J p a to s w t).rests.pose ∙ sym (at_before J x a refl)));
      followed = axis_then J p m s (shown w m) (Some x)
          (λ y. (y.motion ≡ goes) × (axis_verdict (Some y) ≡ Pending))
          (subst (λ (o : Option Following). IfSome o (λ y. (y.motion ≡ goes) × (axis_verdict (Some y) ≡ Pending)))
          (sym unnoted) tt);
      early = subst (λ (o : Option Following). count_noted o < (limits_of p a).limit)
          (sym (axis_none J p m s (shown w m) (Some x) unnoted))
          (some_limit (further_in w a to) (limits_of p a).limit (t.begins.fair a to).1);
      others = rest_beside l J p a to s w v t left;
    } in
    record {
      state = inl (subst (λ (b : Bool). IsSick K p a (mind_sent b (Mine J p a to s w)) v) (sym on.1) sick);
      unasked = unasked_then l J p a to s w t;
      spared = λ n d. start_spared l J p a to s w v n t left d;
      long = start_long l J p a to s w v t left;
      before = start_before l J p a to s w v t left;
      spares = start_spares l J p a to s w v t left;
      collisions = ap (λ (u : Simulated). u.collisions) on.0
          ∙ (out_part (λ (u : Simulated). u.collisions) a to (Some f) (path_of (ready a r) a to) (ready a r)
          (λ b y u. refl) ∙ here_counts l J p a to s w t);
    }

-- or its command is lost
lost_start : (faults : List PlannedFault) (l : BookLimits) (J : List Entry) (p : Plan) (a : Axis) (to : Pose)
    (s : Mind) (w : Simulated) → Sends l J p a to s w
    → fault_in a (motion_number (Here a w) a) faults ≡ Some fault.RefuseCommand → FailingStart faults J p a to s w
lost_start faults l J p a to s w t h =
    let m = machine_of_axis a in let x = Started a to in let K = one_more J x in let r = Here a w in
    let plain = here_plain l J p a to s w t in
    let v = after_command faults r (On a to) in
    let on = refused_fails faults a to r h in
    let left = subst (λ (u : Simulated). Commanded a r u) (sym on.0) (told_leaves a r plain) in
    let rests = (here_rests l J p a to s w t).rests in
    let same : (axis_at v a).motion ≡ (axis_at r a).motion =
    ap (λ (u : Simulated). (axis_at u a).motion) on.0
    ∙ ap (λ (y : AxisInWorld). y.motion) (told_same a r plain.axes) in
    let unheard : IsUnheard K a (with_failure (Mine J p a to s w)) v = record {
      to = to;
      healthy = healthy_then l J p a to s w t;
      was_lost = refl;
      plain = left.plain;
      booked = going_now J x a (Some to) (starts_it a to);
      halted = λ b e. each_axis (IsHalted K v) a b
          (record {
            stands = inl (left.pose ∙ (rests.pose ∙ sym (at_before J x a refl)));
            still = ap (λ (o : Option Moving). moves o) same
                ∙ rest_moves (at_of J a) (axis_at r a).motion rests.motion;
            read = ap (λ (o : Option Moving). is_silent_in o) same
                ∙ rest_silent (at_of J a) (axis_at r a).motion rests.motion;
          })
          (λ d. rest_halted K v b (rest_beside l J p a to s w v t left b e d));
    } in
    record {
      state = inr (subst (λ (b : Bool). IsUnheard K a (mind_sent b (Mine J p a to s w)) v) (sym on.1) unheard);
      unasked = unasked_then l J p a to s w t;
      spared = λ n d. start_spared l J p a to s w v n t left d;
      long = start_long l J p a to s w v t left;
      before = start_before l J p a to s w v t left;
      spares = start_spares l J p a to s w v t left;
      collisions = ap (λ (u : Simulated). u.collisions) on.0
          ∙ (told_part (λ (u : Simulated). u.collisions) a r (λ b y u. refl)
          ∙ ap (λ (u : Simulated). u.collisions) t.still);
    }

failing_start_by : (faults : List PlannedFault) (l : BookLimits) (J : List Entry) (p : Plan) (a : Axis) (to : Pose)
    (s : Mind) (w : Simulated) (f : Fault) → Sends l J p a to s w
    → fault_in a (motion_number (Here a w) a) faults ≡ Some f → is_lasting f ≡ true → FailingStart faults J p a to s w
failing_start_by faults l J p a to s w fault.NoMotion t h k =
    sick_start faults l J p a to s w fault.NoMotion t h refl refl refl
failing_start_by faults l J p a to s w fault.KeepsOld t h k =
    sick_start faults l J p a to s w fault.KeepsOld t h refl refl refl
failing_start_by faults l J p a to s w fault.Both t h k =
    sick_start faults l J p a to s w fault.Both t h refl refl refl
failing_start_by faults l J p a to s w fault.RefuseCommand t h k = lost_start faults l J p a to s w t h
failing_start_by faults l J p a to s w (fault.Slow n) t h k = cc k
failing_start_by faults l J p a to s w (fault.Silent n) t h k = cc k
failing_start_by faults l J p a to s w fault.LosePlate t h k = cc k

pub failing_start : (faults : List PlannedFault) (l : BookLimits) (J : List Entry) (p : Plan) (a : Axis) (to : Pose)
    (s : Mind) (w : Simulated) (f : Fault) → is_belt a ≡ false → TurnBegins l J p (machine_of_axis a) s w
    → first_of l J (Started a to) ≡ None → fault_in a (motion_number (Here a w) a) faults ≡ Some f
    → is_lasting f ≡ true → FailingStart faults J p a to s w
failing_start faults l J p a to s w f beltless t free h k =
    failing_start_by faults l J p a to s w f (sends_of l J p a to s w beltless t free) h k

pub axis_sets_out : AxisSetsOut
axis_sets_out faults l J p a to s w f beltless t free h k =
    let y = failing_start faults l J p a to s w f beltless t free h k in
    record { state = y.state; plates = y.before.booked; collisions = y.collisions }

-- THE NEXT TURN WHERE A COMMAND WAS LOST

by_second : {a b : Option Ruling} (points : List (Option Ruling)) (k : Ruling) → a ≡ None → b ≡ Some k
    → first_ruling (a ∷ b ∷ points) ≡ k
by_second points k ha hb = rw (ha, hb) refl

lost_ruled : (J : List Entry) (p : Plan) (a : Axis) (s : Mind) (w : Simulated) (r : Option Reading)
    → IsUnheard J a s w
    → ruling J (machine_of_axis a) p s r ≡ Books (Declared (machine_of_axis a) cause.CommandFault)
unfolding ruling
lost_ruled J p a s w r t =
    let m = machine_of_axis a in
    by_second _ (declares m cause.CommandFault) (when_no (is_failed J m) Nothing t.healthy)
    (ap (λ (b : Bool). when b (declares m cause.CommandFault)) t.was_lost)

pub lost_reads : (J : List Entry) (a : Axis) (s : Mind) (w : Simulated) → is_belt a ≡ false → IsUnheard J a s w
    → ReadsSo J (machine_of_axis a) w
lost_reads J a s w beltless t =
    let m = machine_of_axis a in
    let so : after_reading w m ≡ w = read_still m w (switch_axis a beltless)
    (λ b e. ((t.halted b e).still, (t.halted b e).read)) in
    record {
      plain = subst IsPlain (sym so) t.plain;
      seen = λ b e. subst (λ (u : Simulated). AxisSeen J u b) (sym so)
          (record { stands = (t.halted b e).stands; read = (t.halted b e).read });
      spares = spares_same J w (after_reading w m) so;
      plates = λ u. ap (λ (v : Simulated). plate_at v u) so;
      collisions = ap (λ (v : Simulated). v.collisions) so;
    }

pub lost_turn : (l : BookLimits) (J : List Entry) (p : Plan) (a : Axis) (s : Mind) (w : Simulated) (e : Option Entry)
    → is_belt a ≡ false → legal l J ≡ true → IsUnheard J a s w
    → IsDecided l J (machine_of_axis a) p s (shown w (machine_of_axis a)) e → IfSome e (λ x. first_of l J x ≡ None)
    → DeclaredTurn J p a s w cause.CommandFault e
lost_turn l J p a s w e beltless law t d free =
    let m = machine_of_axis a in
    declared_so l J p a s w e cause.CommandFault beltless law (lost_reads J a s w beltless t)
    (subst (λ (k : Ruling). IsRuled l J m p.plates k e) (lost_ruled J p a s w (shown w m) t) d) free

pub lost_turns : LostTurns
lost_turns l J p a s w e beltless law t d free =
    let y = lost_turn l J p a s w e beltless law t d free in
    record { entry = y.entry; stopped = y.stopped; plates = y.before.booked; collisions = y.collisions }
