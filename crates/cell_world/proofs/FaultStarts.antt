-- An axis for whose command a fault is planned sets out with it
use Rattle.std.proofs.Common.{◌≡◌, Option, Some, None, List, length, refl, ap, ◌∙◌, length-set}
use Rattle.cell_types.specs.declared.words.Axis.{Axis}
use Rattle.cell_types.specs.declared.words.Command.{Command}
use Rattle.cell_types.specs.declared.words.Command.TheVariants.{On}
use Rattle.cell_types.specs.declared.words.Pose.{Pose}
use Rattle.cell_measures.specs.declared.durations.Durations.{Durations}
use Rattle.cell_measures.specs.Times.{duration}
use Rattle.cell_diagnosis.specs.declared.motion.Motion.{Motion}
use Rattle.cell_sim.specs.declared.axis.AxisInWorld.{AxisInWorld}
use Rattle.cell_sim.specs.declared.fault.Fault.{Fault}
use Rattle.cell_sim.specs.declared.fault.PlannedFault.{PlannedFault}
use Rattle.cell_sim.specs.declared.motion.Moving.{Moving}
use Rattle.cell_sim.specs.declared.motion.Path.{Path}
use Rattle.cell_sim.specs.declared.motion.Path.TheVariants.{Poses}
use Rattle.cell_sim.specs.declared.watch.SafetyRule.{SafetyRule}
use Rattle.cell_sim.specs.Commands.{after_command, fails, motion_number, path_of, set_on, set_out, started, told}
use Rattle.cell_sim.specs.Looks.{broke_by, broken_by_start, looked, start_looked}
use Rattle.cell_sim.specs.Moves.{begun}
use Rattle.cell_sim.specs.Parts.{axis_at, broke, with_motion}
use Rattle.cell_sim.specs.Simulated.{Simulated}
use Rattle.cell_world.specs.Faulty.{GoesBy, IsToFail, PlannedHidesEnd}
use Rattle.cell_world.proofs.FaultSteps.{Follows, axes, follows_as, follows_motion, looked_axes, one_of, others_after}
use Rattle.cell_world.proofs.Faulty.{fault_hides}
use Rattle.cell_world.proofs.Starts.{path_as, ready, ready_part, told_other}
use Rattle.cell_world.proofs.Steps.{at_same, axes_at, below_nine, either}

-- what is looked at before an axis sets out changes no axis, nor how long motions take
abbrev kept : Simulated → List AxisInWorld × Durations
kept w = (w.axes, w.durations)

broke_kept : (o : Option SafetyRule) (c : Command) (w : Simulated) → kept (broke_by o c w) ≡ kept w
unfolding broke
broke_kept None c w = refl
broke_kept (Some r) c w = refl

look_kept : (a : Axis) (to : Pose) (w : Simulated) → kept (start_looked a to w) ≡ kept w
unfolding start_looked
look_kept a to w =
    either kept w.watch.is_on (broke_by (broken_by_start w a to) (On a to) w) w (kept w)
    (broke_kept (broken_by_start w a to) (On a to) w) refl

-- the world in which the axis sets out
abbrev before_it : Axis → Pose → Simulated → Simulated
before_it a to w = start_looked a to (ready a w)

before_told : (a : Axis) (to : Pose) (w : Simulated) → kept (before_it a to w) ≡ kept (told a w)
unfolding told
before_told a to w = look_kept a to (ready a w) ∙ ready_part kept a w refl

before_axes : (a : Axis) (to : Pose) (w : Simulated) → axes (before_it a to w) ≡ axes (told a w)
before_axes a to w = ap (λ (t : List AxisInWorld × Durations). t.0) (before_told a to w)

before_durations : (a : Axis) (to : Pose) (w : Simulated) → (before_it a to w).durations ≡ w.durations
unfolding told
before_durations a to w = ap (λ (t : List AxisInWorld × Durations). t.1) (before_told a to w)

pub told_same : (a : Axis) (w : Simulated) → length w.axes ≡ 9
    → axis_at (told a w) a ≡ record (axis_at w a) { commands = motion_number w a }
unfolding told
told_same a w nine = at_same w a _ (below_nine a _ nine)

told_follows : (a : Axis) (w : Simulated) → length w.axes ≡ 9 → Follows a (axis_at w a).motion w (told a w)
unfolding told
told_follows a w nine =
    record {
      all = length-set _ _ _;
      own = ap (λ (x : AxisInWorld). x.motion) (told_same a w nine);
      other = λ b n. told_other a b w n;
    }

before_follows : (a : Axis) (to : Pose) (w : Simulated) → length w.axes ≡ 9
    → Follows a (axis_at w a).motion w (before_it a to w)
before_follows a to w nine =
    follows_as a (axis_at w a).motion w (told a w) (before_it a to w) (before_axes a to w) (told_follows a w nine)

before_pose : (a : Axis) (to : Pose) (w : Simulated) → length w.axes ≡ 9
    → (axis_at (before_it a to w) a).pose ≡ (axis_at w a).pose
before_pose a to w nine =
    ap (λ (x : AxisInWorld). x.pose) (axes_at (before_it a to w) (told a w) a (before_axes a to w))
    ∙ ap (λ (x : AxisInWorld). x.pose) (told_same a w nine)

-- the motion that it begins
abbrev pub begun_by : Motion → Fault → Simulated → Moving
begun_by m f w =
    begun (Poses m.from m.to) (Some f) (duration w.durations (record { axis = m.axis; to = m.to }))

sets_on : (faults : List PlannedFault) (m : Motion) (f : Fault) (w : Simulated) → IsToFail faults m f w
    → started faults m.axis m.to w ≡ set_on m.axis m.to (Some f) (before_it m.axis m.to w)
unfolding started ready
sets_on faults m f w t = let p = t.planned in let r = t.taken in rw (p, r) refl

path_there : (faults : List PlannedFault) (m : Motion) (f : Fault) (w : Simulated) → IsToFail faults m f w
    → path_of (before_it m.axis m.to w) m.axis m.to ≡ Some (Poses m.from m.to)
path_there faults m f w t =
    path_as (before_it m.axis m.to w) m.axis m.to t.switched.switches t.switched.to_pose
    ∙ ap (λ (p : Pose). Some (Poses p m.to)) (before_pose m.axis m.to w t.axes ∙ t.pose)

sets_out : (faults : List PlannedFault) (m : Motion) (f : Fault) (w : Simulated) → IsToFail faults m f w
    → set_on m.axis m.to (Some f) (before_it m.axis m.to w)
    ≡ with_motion m.axis (Some (begun_by m f w)) (before_it m.axis m.to w)
unfolding set_out
sets_out faults m f w t =
    let u = before_it m.axis m.to w in
    ap (λ (o : Option Path). set_out m.axis m.to (Some f) o u) (path_there faults m f w t)
    ∙ ap (λ (d : Durations). with_motion m.axis
    (Some (begun (Poses m.from m.to) (Some f) (duration d (record { axis = m.axis; to = m.to })))) u)
    (before_durations m.axis m.to w)

after_axes : (faults : List PlannedFault) (a : Axis) (to : Pose) (w : Simulated)
    → axes (after_command faults w (On a to)) ≡ axes (started faults a to w)
unfolding after_command
after_axes faults a to w =
    one_of (fails faults w (On a to)) (started faults a to w) (looked (Some (On a to)) (started faults a to w))
    (started faults a to w) refl (looked_axes (Some (On a to)) (started faults a to w))

pub goes_out : (faults : List PlannedFault) (m : Motion) (f : Fault) (w : Simulated) → IsToFail faults m f w
    → GoesBy m (begun_by m f w) (after_command faults w (On m.axis m.to))
goes_out faults m f w t =
    let u = before_it m.axis m.to w in
    let x = Some (begun_by m f w) in
    let v = after_command faults w (On m.axis m.to) in
    let s = before_follows m.axis m.to w t.axes in
    let e : axes v ≡ axes (with_motion m.axis x u) =
    after_axes faults m.axis m.to w
    ∙ ap (λ (y : Simulated). axes y) (sets_on faults m f w t ∙ sets_out faults m f w t) in
    let y = follows_as m.axis x u (with_motion m.axis x u) v e (follows_motion m.axis x u (s.all ∙ t.axes)) in
    record {
      switched = t.switched;
      axes = y.all ∙ (s.all ∙ t.axes);
      motion = y.own;
      path = refl;
      driven = refl;
      others = others_after m.axis x u v y (others_after m.axis (axis_at w m.axis).motion w u s t.others);
    }

pub planned_hides : PlannedHidesEnd
planned_hides k faults m f w t l =
    fault_hides k m f _ (after_command faults w (On m.axis m.to)) (goes_out faults m f w t) l
