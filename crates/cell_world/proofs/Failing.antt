-- An axis whose motion has a fault that keeps it from ever showing its end, through its machine's turns
use Rattle.std.specs.Option.{option_map}
use Rattle.std.specs.Prelude.{option_to_list, unwrap_or}
use Rattle.std.proofs.Common.{arith, ◌<◌, ◌+◌, ◌≡◌, ◌≢◌, ◌⊎◌, inl, inr, ℕ, zero, suc, ◌==◌, Bool, true, false, not}
use Rattle.std.proofs.Common.{◌&&◌, ◌||◌, Option, Some, None, List, [], ◌∷◌, ◌++◌, length, refl, sym, ap, ◌∙◌, subst}
use Rattle.std.proofs.Common.{IfSome, length-set, if◌then◌else◌}
use Rattle.std.proofs.lemmas.Bool.Decides.{nat_tests}
use Rattle.std.proofs.lemmas.List.{append-nil}
use Rattle.cell_types.specs.declared.words.Axis.{Axis}
use Rattle.cell_types.specs.declared.words.Cause.{Cause}
use Rattle.cell_types.specs.declared.words.Cause.TheVariants as cause
use Rattle.cell_types.specs.declared.words.Command.{Command}
use Rattle.cell_types.specs.declared.words.Command.TheVariants.{On}
use Rattle.cell_types.specs.declared.words.Entry.{Entry}
use Rattle.cell_types.specs.declared.words.Entry.TheVariants.{Claimed, Declared, Dropped, Gripped, Started, Yielded}
use Rattle.cell_types.specs.declared.words.Machine.{Machine}
use Rattle.cell_types.specs.declared.words.Pose.{Pose}
use Rattle.cell_types.specs.declared.words.Pose.TheVariants as pose
use Rattle.cell_types.specs.declared.words.Station.{Station}
use Rattle.cell_types.specs.declared.words.Station.TheVariants as station
use Rattle.cell_types.specs.After.{after, step}
use Rattle.cell_types.specs.Cell.{machine_of_axis}
use Rattle.cell_types.specs.Entries.{command_of}
use Rattle.cell_types.specs.Same.{same_pose, station_number}
use Rattle.cell_rules.specs.declared.limits.BookLimits.{BookLimits}
use Rattle.cell_rules.specs.Last.{when}
use Rattle.cell_rules.specs.Legal.{first_of, legal}
use Rattle.cell_rules.specs.Situations.{situation_of}
use Rattle.cell_rules.specs.Views.{asks, at_of, fails, going_of, is_asked, is_failed, rests, sends}
use Rattle.cell_rules.proofs.Safe.Bridge.{Good, good_when_legal}
use Rattle.cell_rules.proofs.Safe.Views.{view_snoc}
use Rattle.cell_diagnosis.specs.declared.motion.Motion.{Motion}
use Rattle.cell_diagnosis.specs.declared.reading.Reading.{Reading}
use Rattle.cell_diagnosis.specs.declared.verdict.Verdict.{Verdict}
use Rattle.cell_diagnosis.specs.declared.verdict.Verdict.TheVariants.{Pending, Arrived as HasArrived, Fault as IsFault}
use Rattle.cell_diagnosis.specs.AxisFacts.{shows_alone}
use Rattle.cell_diagnosis.specs.AxisRules.{has_arrived, has_not_left, is_contradictory, is_late, is_silent, is_stray}
use Rattle.cell_diagnosis.specs.AxisRules.{is_stuck, is_stuck_at_end, judged, verdict}
use Rattle.cell_diagnosis.specs.Readings.{Seen, seen}
use Rattle.cell_diagnosis.specs.RestRules.{rest}
use Rattle.cell_diagnosis.specs.Verdicts.{then_verdict}
use Rattle.cell_diagnosis.proofs.EndLaws.{length_snoc, one_snoc}
use Rattle.cell_diagnosis.proofs.VerdictLaws.{after_snoc}
use Rattle.cell_ports.specs.declared.plan.Plan.{Plan}
use Rattle.cell_turns.specs.declared.turns.decide.Ruling.{Ruling}
use Rattle.cell_turns.specs.declared.turns.decide.Ruling.TheVariants.{Books, Nothing, Proposes}
use Rattle.cell_turns.specs.Following.{Following}
use Rattle.cell_turns.specs.Minds.{Mind}
use Rattle.cell_turns.specs.Moving.{limits_of, motion_of_machine}
use Rattle.cell_turns.specs.Observed.{axis_noted, axis_verdict, followed, rest_noted, same_motion, with_reading}
use Rattle.cell_turns.specs.Rulings.{declares, end_found, fault_found, first_ruling, ruling, signed}
use Rattle.cell_turns.specs.Signs.{shows_sign}
use Rattle.cell_turns.specs.Turns.{IsDecided, IsProposed, IsRuled, begins_anew, ends_motion, mind_after}
use Rattle.cell_sim.specs.declared.axis.AxisInWorld.{AxisInWorld}
use Rattle.cell_sim.specs.declared.fault.Fault.{Fault}
use Rattle.cell_sim.specs.declared.fault.Fault.TheVariants as fault
use Rattle.cell_sim.specs.declared.motion.Moving.{Moving}
use Rattle.cell_sim.specs.declared.motion.Path.TheVariants.{Poses}
use Rattle.cell_sim.specs.declared.motion.Phase.{Phase}
use Rattle.cell_sim.specs.declared.motion.Phase.TheVariants.{Begun, Seen as IsSeen, Between, Arrived}
use Rattle.cell_sim.specs.declared.watch.SafetyRule.{SafetyRule}
use Rattle.cell_sim.specs.Looks.{looked, is_belt}
use Rattle.cell_sim.specs.Parts.{axis_at, broke, plate_at, plate_here, with_axis, with_motion, with_pose}
use Rattle.cell_sim.specs.Readings.{advanced, after_reading, arrived, at_its_end, forges, is_silent_in, left_with}
use Rattle.cell_sim.specs.Readings.{shown}
use Rattle.cell_sim.specs.Simulated.{Simulated}
use Rattle.cell_world.specs.Failing.{count_noted, IsDeclared, IsSick, SickTurns, StaysSick}
use Rattle.cell_world.specs.Faulty.{GoesBy, IsStill, is_barred}
use Rattle.cell_world.specs.Going.{IsPlain, OthersRest}
use Rattle.cell_world.specs.Sparing.{IsSpared}
use Rattle.cell_world.specs.Starting.{StandsAs, after_entry, after_order, one_more}
use Rattle.cell_world.specs.Stopping.{HasStopped}
use Rattle.cell_world.specs.Tied.{motion_by}
use Rattle.cell_world.specs.Turning.{after_turn}
use Rattle.cell_world.proofs.Any.{broke_axes, moves_as}
use Rattle.cell_world.proofs.Begins.{from_rest, some_not}
use Rattle.cell_world.proofs.Ends.{SparesEnds, apart_by, broke_light, broke_part, forges_here, no_press}
use Rattle.cell_world.proofs.Entries.{at_before, going_before}
use Rattle.cell_world.proofs.FaultSteps.{after_as, end_axes, gone, read_advanced}
use Rattle.cell_world.proofs.Faulty.{barred_next, next_as, once_gone, reading_hides, within_barred, follows_goes}
use Rattle.cell_world.proofs.Laying.{WorldAsBefore, laying_of}
use Rattle.cell_world.proofs.Hands.{drops_still, grips_still}
use Rattle.cell_world.proofs.Whole.{switch_axis}
use Rattle.cell_world.proofs.Machines.{no_belt}
use Rattle.cell_world.proofs.Plates.{number_of}
use Rattle.cell_world.proofs.Shows.{broke_counts, forges_plates}
use Rattle.cell_world.proofs.Steps.{IsLeft, at_same, axes_at, below_nine, either, forges_left, on_left, same_as, unless}
use Rattle.cell_world.proofs.Steps.{unlooked, each_axis, rests_as}
use Rattle.cell_world.proofs.Stopping.{ReadsSo, Seen as AxisSeen, failed_after, obeyed_after, rest_seen, stands_spared}
use Rattle.cell_world.proofs.Stopping.{stopping_turn}
use Rattle.cell_world.proofs.Spared.{rest_spared}
use Rattle.cell_world.proofs.Turns.{IsCalm, Kind, end_pending, good_then, kind_of, no_sign, plates_as, and_false}
use Rattle.cell_world.proofs.Turns.{proposed_wants, when_no}

-- WHAT A READING MAKES OF THE WORLD

-- nothing, another phase, or the motion's end
data Steps (a : Axis) (to : Pose) (w u : Simulated) : Type 0 where
  stays : w ≡ u → Steps a to w u
  goes : (x : Option Moving) → with_motion a x w ≡ u → Steps a to w u
  comes : (x : Option Moving) → at_its_end a to (with_motion a x w) ≡ u → Steps a to w u

end_watch : (a : Axis) (to : Pose) (u : Simulated) → (at_its_end a to u).watch.is_on ≡ u.watch.is_on
end_watch a to u =
    either (λ (x : Simulated). x.watch.is_on) (same_pose to pose.Top) (forges a (with_pose a to u)) (with_pose a to u)
    u.watch.is_on (forges_left (λ (x : Simulated). x.watch.is_on) on_left a (with_pose a to u)) refl

-- the motion's fault keeps it from showing its end
record IsBarred (a : Axis) (v : Moving) (from to : Pose) (w : Simulated) : Type 0 where
  motion : (axis_at w a).motion ≡ Some v
  path : v.path ≡ Poses from to
  driven : v.stopped ≡ false
  unwatched : w.watch.is_on ≡ false

arrives : (a : Axis) (v : Moving) (from to : Pose) (w : Simulated) → IsBarred a v from to w
    → v.phase ≡ Between zero → Steps a to w (advanced a w)
unfolding advanced arrived
arrives a v from to w t h =
    let m = t.motion in let p = t.path in let d = t.driven in
    let u = with_motion a (Some (gone v)) w in
    let so : advanced a w ≡ looked (Some (On a to)) (at_its_end a to u) = rw (m, h, d, p) refl in
    comes (Some (gone v)) (sym (so ∙ unlooked (Some (On a to)) (at_its_end a to u) (end_watch a to u ∙ t.unwatched)))

advances : (a : Axis) (v : Moving) (from to : Pose) (w : Simulated) (f : Option Fault) (q : Phase)
    → IsBarred a v from to w → v.fault ≡ f → v.phase ≡ q → is_barred f q ≡ true → Steps a to w (advanced a w)
unfolding advanced left_with
advances a v from to w (Some fault.NoMotion) Begun t k h b =
    let m = t.motion in let d = t.driven in goes (Some (gone v)) (rw (m, h, d) refl)
advances a v from to w (Some fault.NoMotion) IsSeen t k h b =
    let m = t.motion in let d = t.driven in goes (Some (gone v)) (rw (m, h, d, k) refl)
advances a v from to w (Some fault.NoMotion) (Between n) t k h b = cc b
advances a v from to w (Some fault.NoMotion) Arrived t k h b = cc b
advances a v from to w (Some fault.KeepsOld) Begun t k h b =
    let m = t.motion in let d = t.driven in goes (Some (gone v)) (rw (m, h, d) refl)
advances a v from to w (Some fault.KeepsOld) IsSeen t k h b =
    let m = t.motion in let d = t.driven in goes (Some (gone v)) (rw (m, h, d, k) refl)
advances a v from to w (Some fault.KeepsOld) (Between zero) t k h b = arrives a v from to w t h
advances a v from to w (Some fault.KeepsOld) (Between (suc n)) t k h b =
    let m = t.motion in let d = t.driven in goes (Some (gone v)) (rw (m, h, d) refl)
advances a v from to w (Some fault.KeepsOld) Arrived t k h b =
    let m = t.motion in let d = t.driven in stays (rw (m, h, d) refl)
advances a v from to w (Some fault.Both) Begun t k h b =
    let m = t.motion in let d = t.driven in goes (Some (gone v)) (rw (m, h, d) refl)
advances a v from to w (Some fault.Both) IsSeen t k h b =
    let m = t.motion in let d = t.driven in goes (Some (gone v)) (rw (m, h, d, k) refl)
advances a v from to w (Some fault.Both) (Between zero) t k h b = arrives a v from to w t h
advances a v from to w (Some fault.Both) (Between (suc n)) t k h b =
    let m = t.motion in let d = t.driven in goes (Some (gone v)) (rw (m, h, d) refl)
advances a v from to w (Some fault.Both) Arrived t k h b =
    let m = t.motion in let d = t.driven in stays (rw (m, h, d) refl)
advances a v from to w (Some (fault.Slow n)) q t k h b = cc b
advances a v from to w (Some (fault.Silent n)) q t k h b = cc b
advances a v from to w (Some fault.LosePlate) q t k h b = cc b
advances a v from to w (Some fault.RefuseCommand) q t k h b = cc b
advances a v from to w None q t k h b = cc b

-- WHAT IT LEAVES

-- what no axis tells and no forging changes
step_part : {X : Type 0} (part : Simulated → X) → IsLeft part
    → ((b : Axis) (x : AxisInWorld) (u : Simulated) → part (with_axis b x u) ≡ part u) → (a : Axis) (to : Pose)
    (w u : Simulated) → Steps a to w u → part u ≡ part w
step_part part l k a to w u (stays h) = ap part (sym h)
step_part part l k a to w u (goes x h) = ap part (sym h) ∙ k a _ w
step_part part l k a to w u (comes x h) =
    let v = with_motion a x w in let y = with_pose a to v in
    ap part (sym h)
    ∙ (either part (same_pose to pose.Top) (forges a y) y (part y) (forges_left part l a y) refl
    ∙ (k a _ v ∙ k a _ w))

step_here : (a : Axis) (to : Pose) (t : Station) (w u : Simulated) → station_number t ≢ station_number station.Press1
    → station_number t ≢ station_number station.Press2 → Steps a to w u → plate_here u t ≡ plate_here w t
step_here a to t w u d e (stays h) = ap (λ (x : Simulated). plate_here x t) (sym h)
step_here a to t w u d e (goes x h) = ap (λ (x : Simulated). plate_here x t) (sym h)
step_here a to t w u d e (comes x h) =
    let y = with_pose a to (with_motion a x w) in
    ap (λ (z : Simulated). plate_here z t) (sym h)
    ∙ either (λ (z : Simulated). plate_here z t) (same_pose to pose.Top) (forges a y) y (plate_here w t)
    (forges_here a t y d e) refl

step_plates : (a : Axis) (to : Pose) (t : Station) (w u : Simulated) → length w.plates ≡ 9 → Steps a to w u
    → plate_at u t ≡ plate_at w t
step_plates a to t w u n (stays h) = ap (λ (x : Simulated). plate_at x t) (sym h)
step_plates a to t w u n (goes x h) = ap (λ (x : Simulated). plate_at x t) (sym h)
step_plates a to t w u n (comes x h) =
    let y = with_pose a to (with_motion a x w) in
    ap (λ (z : Simulated). plate_at z t) (sym h)
    ∙ either (λ (z : Simulated). plate_at z t) (same_pose to pose.Top) (forges a y) y (plate_at w t)
    (forges_plates a t y n) refl

-- the axis stands where it stood, or where it was going to
step_stands : (J : List Entry) (a : Axis) (to : Pose) (w u : Simulated) → length w.axes ≡ 9 → going_of J a ≡ Some to
    → Steps a to w u → StandsAs J a (axis_at w a).pose → StandsAs J a (axis_at u a).pose
step_stands J a to w u nine g (stays h) t = subst (λ (x : Simulated). StandsAs J a (axis_at x a).pose) h t
step_stands J a to w u nine g (goes x h) t =
    let same = ap (λ (y : AxisInWorld). y.pose)
    (at_same w a (record (axis_at w a) { motion = x }) (below_nine a _ nine)) in
    subst (λ (y : Simulated). StandsAs J a (axis_at y a).pose) h (subst (StandsAs J a) (sym same) t)
step_stands J a to w u nine g (comes x h) t =
    let v = with_motion a x w in
    let all : length v.axes ≡ 9 = length-set _ _ _ ∙ nine in
    let there : (axis_at (at_its_end a to v) a).pose ≡ to =
    ap (λ (y : AxisInWorld). y.pose) (axes_at (at_its_end a to v) (with_pose a to v) a (end_axes a to v)
    ∙ at_same v a (record (axis_at v a) { pose = to }) (below_nine a _ all)) in
    subst (λ (y : Simulated). StandsAs J a (axis_at y a).pose) h
    (inr (g ∙ ap (λ (q : Pose). Some q) (sym there)))

broke_stations : (r : SafetyRule) (c : Option Command) (w : Simulated)
    → length (broke r c w).plates ≡ length w.plates
unfolding broke
broke_stations r c w = refl

step_plain : (a : Axis) (to : Pose) (w u : Simulated) → Steps a to w u → IsPlain w → IsPlain u
step_plain a to w u s t =
    record {
      unwatched = step_part (λ (v : Simulated). v.watch.is_on) on_left (λ b x v. refl) a to w u s ∙ t.unwatched;
      axes = step_part (λ (v : Simulated). length v.axes)
          (record {
            broken = λ r c v. ap (λ (l : List AxisInWorld). length l) (broke_axes r c v);
            plates = λ c o n v. refl;
          }) (λ b x v. length-set _ _ _) a to w u s ∙ t.axes;
      stations = step_part (λ (v : Simulated). length v.plates)
          (record { broken = broke_stations; plates = λ c o n v. length-set _ _ _ }) (λ b x v. refl) a to w u s
          ∙ t.stations;
    }

step_spares : (J : List Entry) (a : Axis) (to : Pose) (w u : Simulated) → Steps a to w u → SparesEnds J w u
step_spares J a to w u s =
    record {
      part = step_part laying_of (record { broken = broke_part; plates = λ c o n v. refl }) (λ b x v. refl) a to w u s;
      light = step_part (λ (v : Simulated). v.deposit_light)
          (record { broken = broke_light; plates = λ c o n v. refl }) (λ b x v. refl) a to w u s;
      here = λ t c. let n = no_press J t c in
          step_here a to t w u (apart_by t station.Press1 n.0) (apart_by t station.Press2 n.1) s;
    }

step_counts : (a : Axis) (to : Pose) (w u : Simulated) → Steps a to w u → u.collisions ≡ w.collisions
step_counts a to w u s =
    step_part (λ (v : Simulated). v.collisions) (record { broken = broke_counts; plates = λ c o n v. refl })
    (λ b x v. refl) a to w u s

-- A READING OF A SICK AXIS

abbrev pub Read : Axis → Simulated → Simulated
Read a w = after_reading w (machine_of_axis a)

is_read : (v : Moving) → v.missing ≡ 0 → (v.missing == 0) ≡ true
is_read v h = ap (λ (n : ℕ). n == 0) h

sick_steps : (J : List Entry) (p : Plan) (a : Axis) (s : Mind) (w : Simulated) → (t : IsSick J p a s w)
    → Steps a t.to w (Read a w)
sick_steps J p a s w t =
    let v = t.moving in let g = t.goes in
    subst (λ (u : Simulated). Steps a t.to w u)
    (sym (after_as a w g.switched.switches ∙ read_advanced a v (at_of J a) t.to w g.switched.switches g.others g.motion
    g.path g.driven g.axes (is_read v t.read)))
    (advances a v (at_of J a) t.to w v.fault v.phase
    (record { motion = g.motion; path = g.path; driven = g.driven; unwatched = t.plain.unwatched }) refl refl t.barred)

record ReadOn (J : List Entry) (p : Plan) (a : Axis) (to : Pose) (v : Moving) (w : Simulated) : Type 0 where
  goes : GoesBy (motion_by J p a to) (gone v) (Read a w)
  barred : is_barred v.fault (gone v).phase ≡ true
  hidden : shows_alone to (seen (motion_by J p a to) (shown w (machine_of_axis a))) ≡ false
  others : OthersRest J (Read a w) a

sick_reads_on : (J : List Entry) (p : Plan) (a : Axis) (s : Mind) (w : Simulated) → (t : IsSick J p a s w)
    → ReadOn J p a t.to t.moving w
sick_reads_on J p a s w t =
    let v = t.moving in
    let y = reading_hides 0 (motion_by J p a t.to) v w t.goes
    (within_barred (is_barred v.fault v.phase) 1 _ t.barred) in
    record {
      goes = subst (λ (x : Moving). GoesBy (motion_by J p a t.to) x (Read a w)) (once_gone v (is_read v t.read)) y.goes;
      barred = ap (λ (q : Phase). is_barred v.fault q) (next_as v t.goes.driven)
          ∙ barred_next v.fault v.further v.phase t.barred;
      hidden = y.hidden;
      others = λ b e d. rests_as J J (Read a w) w b refl refl
          ((follows_goes (motion_by J p a t.to) v w t.goes).other b d) (t.others b e d);
    }

pub sick_reads : (J : List Entry) (p : Plan) (a : Axis) (s : Mind) (w : Simulated) → is_belt a ≡ false
    → IsSick J p a s w → ReadsSo J (machine_of_axis a) w
sick_reads J p a s w beltless t =
    let u = Read a w in let st = sick_steps J p a s w t in let on = sick_reads_on J p a s w t in
    record {
      plain = step_plain a t.to w u st t.plain;
      seen = λ b e. each_axis (AxisSeen J u) a b
          (record {
            stands = step_stands J a t.to w u t.goes.axes t.booked st t.stands;
            read = ap (λ (o : Option Moving). is_silent_in o) on.goes.motion
                ∙ ap (λ (n : ℕ). not (n == 0)) t.read;
          })
          (λ d. rest_seen J u b (on.others b e d));
      spares = step_spares J a t.to w u st;
      plates = λ c. step_plates a t.to c w u t.plain.stations st;
      collisions = step_counts a t.to w u st;
    }

-- WHAT ITS WATCH SAYS

abbrev pub IsNotEnd : Verdict → Type 0
IsNotEnd v = v ≡ HasArrived → ⊥

fault_not : (b : Bool) (c : Cause) (v : Verdict) → IsNotEnd v → IsNotEnd (if b then IsFault c else v)
fault_not true c v n e = cc e
fault_not false c v n e = n e

judged_not : (m : Motion) (L : List Seen) → has_arrived m L ≡ false → IsNotEnd (judged m L)
unfolding judged
judged_not m L h e =
    fault_not (is_stuck_at_end m L) cause.StuckSwitch _ (fault_not (is_stuck m L) cause.StuckSwitch _
    (fault_not (is_contradictory L) cause.Contradictory _ (fault_not (is_stray m L) cause.StrayPosition _
    (fault_not (is_silent L) cause.Silent _ (fault_not (has_not_left m L) cause.NoDeparture _
    (fault_not (is_late m L) cause.MissingMotion Pending (λ (i : Pending ≡ HasArrived). cc i)))))))
    (sym (unless (has_arrived m L) HasArrived _ h) ∙ e)

hasnt_arrived : (m : Motion) (L : List Seen) (r : Seen) → shows_alone m.to r ≡ false
    → has_arrived m (L ++ r ∷ []) ≡ false
unfolding has_arrived
hasnt_arrived m L r h = let e = one_snoc (shows_alone m.to) L r ∙ h in rw e refl

-- a reading that doesn't show the end alone doesn't bring it
verdict_not : (m : Motion) (L : List Seen) (r : Seen) → shows_alone m.to r ≡ false → verdict m L ≡ Pending
    → IsNotEnd (verdict m (L ++ r ∷ []))
unfolding verdict
verdict_not m L r h q e =
    judged_not m (L ++ r ∷ []) (hasnt_arrived m L r h)
    (sym (after_snoc (judged m) [] L r ∙ ap (λ (v : Verdict). then_verdict v (judged m (L ++ r ∷ []))) q) ∙ e)

none_yet : (m : Motion) → verdict m [] ≡ Pending
unfolding verdict
none_yet m = refl

-- what it noted with a reading
record Noted (m : Motion) (r : Option Reading) (c : ℕ) (o : Option Following) : Type 0 where
  before : List Seen
  is : o ≡ Some (record { motion = m; readings = before ++ seen m r ∷ [] })
  pending : verdict m before ≡ Pending
  count : length before ≡ c

noted_same : (b : Bool) (f : Following) (m : Motion) (r : Option Reading) → b ≡ true → f.motion ≡ m
    → axis_verdict (Some f) ≡ Pending
    → Noted m r (length f.readings)
    (option_map (with_reading r) (if b then Some f else Some (record { motion = m; readings = [] })))
noted_same true f m r e h v =
    record {
      before = f.readings;
      is = ap (λ (n : Motion). Some (record { motion = n; readings = f.readings ++ seen n r ∷ [] })) h;
      pending = ap (λ (n : Motion). verdict n f.readings) (sym h) ∙ v;
      count = refl;
    }
noted_same false f m r e h v = cc e

noted_by : (f : Option Following) (m : Motion) (r : Option Reading)
    → IfSome f (λ x. (x.motion ≡ m) × (axis_verdict (Some x) ≡ Pending))
    → Noted m r (count_noted f) (option_map (with_reading r) (followed f (Some m)))
noted_by None m r t = record { before = []; is = refl; pending = none_yet m; count = refl }
noted_by (Some f) m r t =
    noted_same (same_motion f.motion m) f m r (ap (λ (n : Motion). same_motion n m) t.0 ∙ same_as m) t.0 t.1

sick_motion : (J : List Entry) (p : Plan) (a : Axis) (s : Mind) (w : Simulated) → is_belt a ≡ false
    → (t : IsSick J p a s w) → motion_of_machine J p (machine_of_axis a) ≡ Some (motion_by J p a t.to)
sick_motion J p a s w beltless t = moves_as J p a t.to w t.goes.switched.switches t.booked t.others

sick_noted : (J : List Entry) (p : Plan) (a : Axis) (s : Mind) (w : Simulated) (r : Option Reading)
    → is_belt a ≡ false → (t : IsSick J p a s w)
    → Noted (motion_by J p a t.to) r (count_noted s.axis) (axis_noted J (machine_of_axis a) p s.axis r)
sick_noted J p a s w r beltless t =
    subst (λ (o : Option Motion). Noted (motion_by J p a t.to) r (count_noted s.axis)
    (option_map (with_reading r) (followed s.axis o)))
    (sym (sick_motion J p a s w beltless t)) (noted_by s.axis (motion_by J p a t.to) r t.followed)

abbrev Found : List Entry → Plan → Axis → Mind → Simulated → Verdict
Found J p a s w = axis_verdict (axis_noted J (machine_of_axis a) p s.axis (shown w (machine_of_axis a)))

sick_not_there : (J : List Entry) (p : Plan) (a : Axis) (s : Mind) (w : Simulated) → is_belt a ≡ false
    → IsSick J p a s w → IsNotEnd (Found J p a s w)
sick_not_there J p a s w beltless t e =
    let r = shown w (machine_of_axis a) in let m = motion_by J p a t.to in
    let n = sick_noted J p a s w r beltless t in
    verdict_not m n.before (seen m r) (sick_reads_on J p a s w t).hidden n.pending
    (sym (ap (λ (o : Option Following). axis_verdict o) n.is) ∙ e)

-- WHAT IS RULED

data Rules (m : Machine) (v : Verdict) (k : Ruling) : Type 0 where
  declares_it : (why : Cause) → k ≡ Books (Declared m why) → Rules m v k
  proposes_on : v ≡ Pending → k ≡ Proposes → Rules m v k

found_by : (J : List Entry) (m : Machine) (o : Option Motion) (v q : Verdict) (g : Option Ruling) → IsNotEnd v
    → g ≡ None
    → Rules m v (first_ruling (fault_found m v ∷ fault_found m q ∷ end_found J o v ∷ g ∷ Some Proposes ∷ []))
found_by J m o (IsFault why) q g n h = declares_it why refl
found_by J m o HasArrived q g n h = absurd (n refl)
found_by J m o Pending (IsFault why) g n h = declares_it why refl
found_by J m o Pending Pending g n h = let e = end_pending J o Pending refl in proposes_on refl (rw (e, h) refl)
found_by J m o Pending HasArrived g n h = let e = end_pending J o Pending refl in proposes_on refl (rw (e, h) refl)

after_four : {a b c d : Option Ruling} (points : List (Option Ruling)) → a ≡ None → b ≡ None → c ≡ None → d ≡ None
    → first_ruling (a ∷ b ∷ c ∷ d ∷ points) ≡ first_ruling points
after_four points ha hb hc hd = rw (ha, hb, hc, hd) refl

sick_ruled : (J : List Entry) (p : Plan) (a : Axis) (s : Mind) (w : Simulated) → is_belt a ≡ false
    → IsSick J p a s w
    → Rules (machine_of_axis a) (Found J p a s w) (ruling J (machine_of_axis a) p s (shown w (machine_of_axis a)))
unfolding ruling
sick_ruled J p a s w beltless t =
    let m = machine_of_axis a in let r = shown w m in
    let g = when (s.memory.sign && shows_sign J m r) (signed J m) in
    subst (λ (k : Ruling). Rules m (Found J p a s w) k)
    (sym (after_four _ (when_no (is_failed J m) Nothing t.healthy)
    (when_no s.memory.command_failed (declares m cause.CommandFault) t.was_obeyed)
    (when_no (is_asked J m) (declares m cause.OperatorStop) t.unasked)
    (when_no s.memory.failed Proposes t.was_healthy)))
    (found_by J m (motion_of_machine J p m) (Found J p a s w) (rest (rest_noted J m s.memory s.rest r)) g
    (sick_not_there J p a s w beltless t)
    (when_no (s.memory.sign && shows_sign J m r) (signed J m)
    (ap (λ (x : Bool). s.memory.sign && x) (no_sign J m r (switch_axis a beltless)) ∙ and_false s.memory.sign)))

-- A TURN

-- where book and world have its axis as before, it is as sick as before
pub sick_as : (J K : List Entry) (p : Plan) (a : Axis) (s : Mind) (w v : Simulated)
    → is_failed K (machine_of_axis a) ≡ is_failed J (machine_of_axis a)
    → is_asked K (machine_of_axis a) ≡ is_asked J (machine_of_axis a) → is_belt a ≡ false
    → IsSpared (machine_of_axis a) J K w v → IsSick J p a s w → IsSick K p a s v
sick_as J K p a s w v h k beltless i t =
    let same : motion_by J p a t.to ≡ motion_by K p a t.to =
    ap (λ (q : Pose). record { axis = a; from = q; to = t.to; limits = (motion_by J p a t.to).limits })
    (sym (i.at a refl)) in
    let it = i.axes a refl in
    record {
      to = t.to;
      moving = t.moving;
      healthy = h ∙ t.healthy;
      unasked = k ∙ t.unasked;
      was_healthy = t.was_healthy;
      was_obeyed = t.was_obeyed;
      plain = i.plain;
      booked = i.going a refl ∙ t.booked;
      goes = subst (λ (m : Motion). GoesBy m t.moving v) same
          (record {
            switched = t.goes.switched;
            axes = i.plain.axes;
            motion = ap (λ (x : AxisInWorld). x.motion) it ∙ t.goes.motion;
            path = t.goes.path;
            driven = t.goes.driven;
            others = λ b e d. subst (λ (x : AxisInWorld). IsStill x.motion) (sym (i.axes b e)) (t.goes.others b e d);
          });
      barred = t.barred;
      read = t.read;
      stands = stands_spared J K a (axis_at w a).pose (axis_at v a).pose (i.at a refl) (i.going a refl)
          (ap (λ (x : AxisInWorld). x.pose) it) t.stands;
      followed = subst (λ (m : Motion). IfSome s.axis (λ f. (f.motion ≡ m) × (axis_verdict (Some f) ≡ Pending))) same
          t.followed;
      early = t.early;
      others = λ b e d. rest_spared J K (machine_of_axis a) w v i b e (t.others b e d);
    }

-- what is kept of it
some_if : {A : Type 0} (b : Bool) (o : Option A) (P : A → Type 0) → IfSome o P → IfSome (if b then None else o) P
some_if true o P t = tt
some_if false o P t = t

pub axis_then : (J : List Entry) (p : Plan) (m : Machine) (s : Mind) (r : Option Reading) (e : Option Entry)
    (P : Following → Type 0) → IfSome (axis_noted J m p s.axis r) P → IfSome (mind_after J m p s r e).axis P
unfolding mind_after
axis_then J p m s r e P t =
    some_if (begins_anew J m s.memory || ends_motion e) (axis_noted J m p s.axis r) P t

sick_followed : (J : List Entry) (p : Plan) (a : Axis) (s : Mind) (w : Simulated) → is_belt a ≡ false
    → (t : IsSick J p a s w) → Found J p a s w ≡ Pending
    → IfSome (axis_noted J (machine_of_axis a) p s.axis (shown w (machine_of_axis a)))
    (λ f. (f.motion ≡ motion_by J p a t.to) × (axis_verdict (Some f) ≡ Pending))
sick_followed J p a s w beltless t h =
    let n = sick_noted J p a s w (shown w (machine_of_axis a)) beltless t in
    subst (λ (o : Option Following). IfSome o (λ f. (f.motion ≡ motion_by J p a t.to)
    × (axis_verdict (Some f) ≡ Pending))) (sym n.is)
    (refl, sym (ap (λ (o : Option Following). axis_verdict o) n.is) ∙ h)

-- a reading by which its watch finds nothing is one more, and isn't yet that of its limit
unfault : (b : Bool) (c : Cause) (v : Verdict) → (if b then IsFault c else v) ≡ Pending → v ≡ Pending
unfault true c v e = cc e
unfault false c v e = e

unended : (b : Bool) (v : Verdict) → (if b then HasArrived else v) ≡ Pending → v ≡ Pending
unended true v e = cc e
unended false v e = e

unlate : (b : Bool) → (if b then IsFault cause.MissingMotion else Pending) ≡ Pending → b ≡ false
unlate true e = cc e
unlate false e = refl

not_late : (m : Motion) (L : List Seen) → judged m L ≡ Pending → is_late m L ≡ false
unfolding judged
not_late m L e =
    unlate (is_late m L) (unfault (has_not_left m L) cause.NoDeparture _ (unfault (is_silent L) cause.Silent _
    (unfault (is_stray m L) cause.StrayPosition _ (unfault (is_contradictory L) cause.Contradictory _
    (unfault (is_stuck m L) cause.StuckSwitch _ (unfault (is_stuck_at_end m L) cause.StuckSwitch _
    (unended (has_arrived m L) _ e)))))))

other_length : (m : Motion) (L : List Seen) → is_late m L ≡ false → length L ≢ m.limits.limit
unfolding is_late
other_length m L h = grind (arith, nat_tests, h)

judged_so : (m : Motion) (L : List Seen) (r : Seen) → verdict m L ≡ Pending → verdict m (L ++ r ∷ []) ≡ Pending
    → judged m (L ++ r ∷ []) ≡ Pending
unfolding verdict
judged_so m L r q e =
    sym (after_snoc (judged m) [] L r ∙ ap (λ (v : Verdict). then_verdict v (judged m (L ++ r ∷ []))) q) ∙ e

still_early : (m : Motion) (L : List Seen) (r : Seen) → verdict m L ≡ Pending → verdict m (L ++ r ∷ []) ≡ Pending
    → length L < m.limits.limit → length L + 1 < m.limits.limit
still_early m L r q e h =
    let grown : length (L ++ r ∷ []) ≡ length L + 1 = length_snoc L r in
    let other : length (L ++ r ∷ []) ≢ m.limits.limit =
    other_length m (L ++ r ∷ []) (not_late m (L ++ r ∷ []) (judged_so m L r q e)) in
    let apart : length L + 1 ≢ m.limits.limit = λ i. other (grown ∙ i) in
    omega (arith, h, apart)

axis_is : (J : List Entry) (p : Plan) (m : Machine) (s : Mind) (r : Option Reading) (e : Option Entry)
    → s.memory.failed ≡ false → ends_motion e ≡ false → (mind_after J m p s r e).axis ≡ axis_noted J m p s.axis r
unfolding mind_after
axis_is J p m s r e h k =
    unless (begins_anew J m s.memory || ends_motion e) None (axis_noted J m p s.axis r)
    (ap (λ (x : Bool). (x && (not (is_failed J m) && (not s.memory.command_failed && not (is_asked J m))))
    || ends_motion e) h ∙ k)

sick_grows : (J : List Entry) (p : Plan) (a : Axis) (s : Mind) (w : Simulated) (e : Option Entry) → is_belt a ≡ false
    → IsSick J p a s w → ends_motion e ≡ false
    → count_noted (mind_after J (machine_of_axis a) p s (shown w (machine_of_axis a)) e).axis ≡ count_noted s.axis + 1
sick_grows J p a s w e beltless t k =
    let m = machine_of_axis a in let n = sick_noted J p a s w (shown w m) beltless t in
    ap (λ (o : Option Following). count_noted o) (axis_is J p m s (shown w m) e t.was_healthy k ∙ n.is)
    ∙ (length_snoc n.before (seen (motion_by J p a t.to) (shown w m)) ∙ ap (λ (i : ℕ). i + 1) n.count)

sick_early : (J : List Entry) (p : Plan) (a : Axis) (s : Mind) (w : Simulated) → is_belt a ≡ false
    → IsSick J p a s w → Found J p a s w ≡ Pending → count_noted s.axis + 1 < (limits_of p a).limit
sick_early J p a s w beltless t h =
    let m = motion_by J p a t.to in let r = shown w (machine_of_axis a) in
    let n = sick_noted J p a s w r beltless t in
    subst (λ (i : ℕ). i + 1 < (limits_of p a).limit) n.count
    (still_early m n.before (seen m r) n.pending (sym (ap (λ (o : Option Following). axis_verdict o) n.is) ∙ h)
    (subst (λ (i : ℕ). i < (limits_of p a).limit) (sym n.count) t.early))

-- it leaves the axis sick
abbrev Next : List Entry → Plan → Axis → Mind → Simulated → Option Entry → Mind
Next J p a s w e = mind_after J (machine_of_axis a) p s (shown w (machine_of_axis a)) e

sick_still : (J : List Entry) (p : Plan) (a : Axis) (s : Mind) (w : Simulated) (e : Option Entry) → is_belt a ≡ false
    → IsSick J p a s w → Found J p a s w ≡ Pending → ends_motion e ≡ false
    → is_failed (J ++ option_to_list e) (machine_of_axis a) ≡ is_failed J (machine_of_axis a)
    → IsSick J p a (Next J p a s w e) (Read a w)
sick_still J p a s w e beltless t h k f =
    let m = machine_of_axis a in let on = sick_reads_on J p a s w t in
    let reads = sick_reads J p a s w beltless t in
    record {
      to = t.to;
      moving = gone t.moving;
      healthy = t.healthy;
      unasked = t.unasked;
      was_healthy = failed_after J p m s (shown w m) e ∙ (f ∙ t.healthy);
      was_obeyed = obeyed_after J p m s (shown w m) e t.was_obeyed;
      plain = reads.plain;
      booked = t.booked;
      goes = on.goes;
      barred = on.barred;
      read = t.read;
      stands = (reads.seen a refl).stands;
      followed = axis_then J p m s (shown w m) e (λ f. (f.motion ≡ motion_by J p a t.to)
          × (axis_verdict (Some f) ≡ Pending)) (sick_followed J p a s w beltless t h);
      early = subst (λ (i : ℕ). i < (limits_of p a).limit) (sym (sick_grows J p a s w e beltless t k))
          (sick_early J p a s w beltless t h);
      others = on.others;
    }

-- what a turn leaves of the cell
pub record SickTurn (J : List Entry) (p : Plan) (a : Axis) (s : Mind) (w : Simulated) (e : Option Entry) : Type 0
  where
    pub state : StaysSick J p a s w e ⊎ IsDeclared J p a s w e
    pub before : WorldAsBefore J (J ++ option_to_list e) w (after_turn w (machine_of_axis a) e)
    pub spares : SparesEnds J w (after_turn w (machine_of_axis a) e)
    pub collisions : (after_turn w (machine_of_axis a) e).collisions ≡ w.collisions

-- where it is declared failed
pub record DeclaredTurn (J : List Entry) (p : Plan) (a : Axis) (s : Mind) (w : Simulated) (why : Cause)
    (e : Option Entry) : Type 0
  where
    pub entry : e ≡ Some (Declared (machine_of_axis a) why)
    pub stopped : HasStopped (J ++ option_to_list e) (machine_of_axis a) (Next J p a s w e)
        (after_turn w (machine_of_axis a) e)
    pub before : WorldAsBefore J (J ++ option_to_list e) w (after_turn w (machine_of_axis a) e)
    pub spares : SparesEnds J w (after_turn w (machine_of_axis a) e)
    pub collisions : (after_turn w (machine_of_axis a) e).collisions ≡ w.collisions

pub declared_so : (l : BookLimits) (J : List Entry) (p : Plan) (a : Axis) (s : Mind) (w : Simulated)
    (e : Option Entry) (why : Cause) → is_belt a ≡ false → legal l J ≡ true → ReadsSo J (machine_of_axis a) w
    → e ≡ Some (Declared (machine_of_axis a) why) → IfSome e (λ x. first_of l J x ≡ None)
    → DeclaredTurn J p a s w why e
declared_so l J p a s w e why beltless law reads h free =
    let m = machine_of_axis a in
    subst (λ (o : Option Entry). DeclaredTurn J p a s w why o) (sym h)
    (let y = stopping_turn l J p m s w why (switch_axis a beltless) law reads
    (subst (λ (o : Option Entry). IfSome o (λ x. first_of l J x ≡ None)) h free) in
    record {
      entry = refl;
      stopped = y.stopped;
      before = y.before;
      spares = y.spares;
      collisions = y.collisions;
    })

declared_turn : (l : BookLimits) (J : List Entry) (p : Plan) (a : Axis) (s : Mind) (w : Simulated) (e : Option Entry)
    (why : Cause) → is_belt a ≡ false → legal l J ≡ true → ReadsSo J (machine_of_axis a) w
    → e ≡ Some (Declared (machine_of_axis a) why) → IfSome e (λ x. first_of l J x ≡ None)
    → SickTurn J p a s w e
declared_turn l J p a s w e why beltless law reads h free =
    let y = declared_so l J p a s w e why beltless law reads h free in
    record {
      state = inr (record { why = why; entry = y.entry; stopped = y.stopped });
      before = y.before;
      spares = y.spares;
      collisions = y.collisions;
    }

quiet_turn : (J : List Entry) (p : Plan) (a : Axis) (s : Mind) (w : Simulated) → is_belt a ≡ false
    → IsSick J p a s w → Found J p a s w ≡ Pending → SickTurn J p a s w None
quiet_turn J p a s w beltless t h =
    let m = machine_of_axis a in let same = append-nil J in let u = Read a w in
    let reads = sick_reads J p a s w beltless t in
    record {
      state = inl (record {
        sick = subst (λ (K : List Entry). IsSick K p a (Next J p a s w None) u) (sym same)
            (sick_still J p a s w None beltless t h refl (ap (λ (K : List Entry). is_failed K m) same));
        grown = sick_grows J p a s w None beltless t refl;
        moves_nothing = tt;
      });
      before = subst (λ (K : List Entry). WorldAsBefore J K w u) (sym same)
          (record {
            part = reads.spares.part;
            light = reads.spares.light;
            laid = λ g. ap number_of (reads.spares.here station.FeedIn tt);
            taken = λ g. ap number_of (reads.spares.here station.DepEnd tt);
            booked = λ c i. reads.plates c ∙ i;
          });
      spares = reads.spares;
      collisions = reads.collisions;
    }

-- an entry that speaks of no axis and no plate, and has no command
calm_turn : (J : List Entry) (p : Plan) (a : Axis) (s : Mind) (w : Simulated) (x : Entry) → is_belt a ≡ false
    → IsSick J p a s w → Found J p a s w ≡ Pending → IsCalm (machine_of_axis a) x
    → ((b : Axis) → rests b x ≡ None) → ((b : Axis) → sends b x ≡ None) → command_of x ≡ None
    → ends_motion (Some x) ≡ false → Good J → Good (one_more J x)
    → (step x (after J)).plate ≡ (after J).plate → SickTurn J p a s w (Some x)
calm_turn J p a s w x beltless t h calm r d none no_end g k st =
    let m = machine_of_axis a in let K = one_more J x in let u = Read a w in let v = after_entry u x in
    let so : v ≡ u = ap (λ (o : Option Command). after_order u o) none in
    let reads = sick_reads J p a s w beltless t in
    let healthy : is_failed K m ≡ is_failed J m =
    view_snoc (fails m) false J x ∙ ap (λ (o : Option Bool). unwrap_or o (is_failed J m)) calm.unfailed in
    let unasked : is_asked K m ≡ is_asked J m =
    view_snoc (asks m) false J x ∙ ap (λ (o : Option Bool). unwrap_or o (is_asked J m)) calm.unasked in
    let spares : IsSpared m J K u u = record {
      plain = reads.plain;
      long = refl;
      at = λ b i. at_before J x b (r b);
      going = λ b i. going_before J x b (d b);
      axes = λ b i. refl;
    } in
    let before : WorldAsBefore J K w u = record {
      part = reads.spares.part;
      light = reads.spares.light;
      laid = λ c. ap number_of (reads.spares.here station.FeedIn tt);
      taken = λ c. ap number_of (reads.spares.here station.DepEnd tt);
      booked = λ c i. plates_as J x u u c g k st refl (reads.plates c ∙ i);
    } in
    record {
      state = inl (record {
        sick = subst (λ (y : Simulated). IsSick K p a (Next J p a s w (Some x)) y) (sym so)
            (sick_as J K p a (Next J p a s w (Some x)) u u healthy unasked beltless spares
            (sick_still J p a s w (Some x) beltless t h no_end healthy));
        grown = sick_grows J p a s w (Some x) beltless t no_end;
        moves_nothing = none;
      });
      before = subst (λ (y : Simulated). WorldAsBefore J K w y) (sym so) before;
      spares = subst (λ (y : Simulated). SparesEnds J w y) (sym so) reads.spares;
      collisions = ap (λ (y : Simulated). y.collisions) so ∙ reads.collisions;
    }

kind_turn : (l : BookLimits) (J : List Entry) (p : Plan) (a : Axis) (s : Mind) (w : Simulated) (x : Entry)
    → is_belt a ≡ false → legal l J ≡ true → IsSick J p a s w → Found J p a s w ≡ Pending → Good J
    → Good (one_more J x) → first_of l J x ≡ None → Kind (machine_of_axis a) x → SickTurn J p a s w (Some x)
kind_turn l J p a s w (Started b to) beltless law t h g k free e =
    let may = from_rest l J b to (no_belt b (machine_of_axis a) e (switch_axis a beltless)) law free in
    absurd (some_not (going_of J a) t.to t.booked (may.rest a (sym e)))
kind_turn l J p a s w (Claimed n z) beltless law t h g k free e =
    calm_turn J p a s w (Claimed n z) beltless t h (record { unfailed = refl; unasked = refl }) (λ b. refl)
    (λ b. refl) refl refl g k refl
kind_turn l J p a s w (Yielded n z) beltless law t h g k free e =
    calm_turn J p a s w (Yielded n z) beltless t h (record { unfailed = refl; unasked = refl }) (λ b. refl)
    (λ b. refl) refl refl g k refl
kind_turn l J p a s w (Gripped x j u) beltless law t h g k free e =
    absurd (some_not (going_of J a) t.to t.booked (grips_still l J x j u g free a e))
kind_turn l J p a s w (Dropped x j u) beltless law t h g k free e =
    absurd (some_not (going_of J a) t.to t.booked (drops_still l J x j u g free a e))
kind_turn l J p a s w x beltless law t h g k free e = absurd e

goes_on_turn : (l : BookLimits) (J : List Entry) (p : Plan) (a : Axis) (s : Mind) (w : Simulated) (e : Option Entry)
    → is_belt a ≡ false → legal l J ≡ true → IsSick J p a s w → Found J p a s w ≡ Pending
    → IsProposed l J (machine_of_axis a) p.plates e → IfSome e (λ x. first_of l J x ≡ None) → SickTurn J p a s w e
goes_on_turn l J p a s w None beltless law t h d free = quiet_turn J p a s w beltless t h
goes_on_turn l J p a s w (Some x) beltless law t h d free =
    let m = machine_of_axis a in let g = good_when_legal l J law in
    kind_turn l J p a s w x beltless law t h g (good_then l J x g free) free
    (kind_of l (situation_of J) p.plates m x (switch_axis a beltless) (proposed_wants l J p.plates m x d))

turn_by : (l : BookLimits) (J : List Entry) (p : Plan) (a : Axis) (s : Mind) (w : Simulated) (e : Option Entry)
    (k : Ruling) → is_belt a ≡ false → legal l J ≡ true → IsSick J p a s w
    → Rules (machine_of_axis a) (Found J p a s w) k → IsRuled l J (machine_of_axis a) p.plates k e
    → IfSome e (λ x. first_of l J x ≡ None) → SickTurn J p a s w e
turn_by l J p a s w e k beltless law t (declares_it why h) d free =
    declared_turn l J p a s w e why beltless law (sick_reads J p a s w beltless t)
    (subst (λ (y : Ruling). IsRuled l J (machine_of_axis a) p.plates y e) h d) free
turn_by l J p a s w e k beltless law t (proposes_on v h) d free =
    goes_on_turn l J p a s w e beltless law t v
    (subst (λ (y : Ruling). IsRuled l J (machine_of_axis a) p.plates y e) h d) free

pub sick_turn : (l : BookLimits) (J : List Entry) (p : Plan) (a : Axis) (s : Mind) (w : Simulated) (e : Option Entry)
    → is_belt a ≡ false → legal l J ≡ true → IsSick J p a s w
    → IsDecided l J (machine_of_axis a) p s (shown w (machine_of_axis a)) e → IfSome e (λ x. first_of l J x ≡ None)
    → SickTurn J p a s w e
sick_turn l J p a s w e beltless law t d free =
    turn_by l J p a s w e (ruling J (machine_of_axis a) p s (shown w (machine_of_axis a))) beltless law t
    (sick_ruled J p a s w beltless t) d free

pub sick_turns : SickTurns
sick_turns l J p a s w e law t d free =
    let y = sick_turn l J p a s w e t.goes.switched.switches law t d free in
    record { state = y.state; plates = y.before.booked; collisions = y.collisions }
