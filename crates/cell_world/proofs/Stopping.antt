-- The whole cell, where the operator stops and repairs machines without a belt
use Rattle.std.proofs.Common.{◌≡◌, ◌≢◌, inl, inr, Bool, true, false, Option, Some, None, List, [], ◌∷◌, ◌++◌, refl}
use Rattle.std.proofs.Common.{sym, ap, ◌∙◌, subst, IfSome}
use Rattle.std.proofs.lemmas.List.{append-nil}
use Rattle.std.specs.Option.{option_map}
use Rattle.std.specs.Prelude.{◌&&◌, ◌||◌, if◌then◌else◌, is_none, option_to_list, unwrap_or}
use Rattle.cell_types.specs.declared.words.Axis.{Axis}
use Rattle.cell_types.specs.declared.words.Cause.{Cause}
use Rattle.cell_types.specs.declared.words.Cause.TheVariants as cause
use Rattle.cell_types.specs.declared.words.Entry.{Entry}
use Rattle.cell_types.specs.declared.words.Entry.TheVariants.{Declared, Repaired, StopAsked}
use Rattle.cell_types.specs.declared.words.Machine.{Machine}
use Rattle.cell_types.specs.declared.words.Machine.TheVariants as machine
use Rattle.cell_types.specs.declared.words.Pose.{Pose}
use Rattle.cell_types.specs.declared.words.Station.{Station}
use Rattle.cell_types.specs.declared.words.Station.TheVariants as station
use Rattle.cell_types.specs.After.{after}
use Rattle.cell_types.specs.Cell.{axes_of, home, is_pose_of, machine_of_axis}
use Rattle.cell_types.specs.Entries.{machine_of_entry}
use Rattle.cell_types.specs.Same.{same_machine}
use Rattle.cell_rules.specs.declared.limits.BookLimits.{BookLimits}
use Rattle.cell_rules.specs.Last.{when}
use Rattle.cell_rules.specs.Legal.{allowed, first_of, legal}
use Rattle.cell_rules.specs.declared.refusal.Refusal.{Refusal}
use Rattle.cell_rules.specs.Views.{asks, at_of, fails, going_of, is_asked, is_failed}
use Rattle.cell_rules.proofs.Safe.Bridge.{Good, good_passed, good_when_legal}
use Rattle.cell_rules.proofs.Safe.Facts.{machine_same, not_false}
use Rattle.cell_rules.proofs.Safe.Views.{view_snoc}
use Rattle.cell_diagnosis.specs.RestRules.{rest}
use Rattle.cell_diagnosis.specs.declared.reading.Reading.{Reading}
use Rattle.cell_diagnosis.specs.declared.verdict.Verdict.TheVariants.{Pending}
use Rattle.cell_ports.specs.declared.plan.Plan.{Plan}
use Rattle.cell_turns.specs.declared.turns.decide.Ruling.{Ruling}
use Rattle.cell_turns.specs.declared.turns.decide.Ruling.TheVariants.{Books, Nothing, Proposes}
use Rattle.cell_turns.specs.Following.{Following}
use Rattle.cell_turns.specs.Minds.{Mind, first_mind}
use Rattle.cell_turns.specs.Observed.{axis_noted, rest_noted}
use Rattle.cell_turns.specs.Rulings.{declares, first_ruling, ruling}
use Rattle.cell_turns.specs.Turns.{IsDecided, IsProposed, IsRuled, begins_anew, ends_motion, mind_after}
use Rattle.cell_sim.specs.declared.motion.Moving.{Moving}
use Rattle.cell_sim.specs.Commands.{axis_stopped}
use Rattle.cell_sim.specs.Hands.{axis_homed}
use Rattle.cell_sim.specs.Moves.{moves}
use Rattle.cell_sim.specs.Parts.{axis_at, in_turn, plate_at, plate_here}
use Rattle.cell_sim.specs.Readings.{after_reading, after_round, is_silent_in, shown}
use Rattle.cell_sim.specs.Simulated.{Simulated}
use Rattle.cell_world.specs.Agreeing.{has_belt}
use Rattle.cell_world.specs.BeltTurning.{BeltAsBooked}
use Rattle.cell_world.specs.Going.{IsAtRest, IsPlain}
use Rattle.cell_world.specs.Sparing.{IsSpared}
use Rattle.cell_world.specs.Starting.{MachineRests, RobotMayStand, StandsAs, after_entry, one_more}
use Rattle.cell_world.specs.Stopping.{AskingKeeps, CellWithStops, HasStopped, NoneStopped, StoppedRoundKept}
use Rattle.cell_world.specs.Stopping.{IsRepaired, RepairingKeeps, StopsKept, Works, WorksOrStopped}
use Rattle.cell_world.specs.Belts.{Conveying, EndsAsBefore, dest_of, from_of, light_of, to_deposit_end, to_feed_end}
use Rattle.cell_world.specs.Belts.{to_table}
use Rattle.cell_world.specs.Tied.{RestsBy}
use Rattle.cell_world.specs.Switched.{with_mind}
use Rattle.cell_world.specs.Tie.{IsTied, WentOn}
use Rattle.cell_world.specs.Turning.{AsBooked, TurnBegins, after_turn}
use Rattle.cell_world.specs.Whole.{IsTurnOf}
use Rattle.cell_world.proofs.BeltTurns.{belt_turn_does}
use Rattle.cell_world.proofs.BeltWays.{EndsStay, belt_stays}
use Rattle.cell_world.proofs.Ends.{SparesEnds, read_spares_ends, spares_same, spares_then}
use Rattle.cell_world.proofs.Entries.{at_before, at_now, going_before, going_now}
use Rattle.cell_world.proofs.Four.{apart}
use Rattle.cell_world.proofs.Four.{each_mind, kept_as, legal_then, same_machines, turn_healthy, turn_spared}
use Rattle.cell_world.proofs.Four.{turn_unasked}
use Rattle.cell_world.proofs.Halts.{all_as_still, all_still, read_still, stop_does, stopped_part}
use Rattle.cell_world.proofs.Halts.{IsHome, all_home, home_does, homed_plain, other_home, stopped_plain}
use Rattle.cell_world.proofs.Hand.{homed_part}
use Rattle.cell_world.proofs.Laying.{WorldAsBefore, laying_of, stations_after}
use Rattle.cell_world.proofs.Long.{fair_then, turn_long}
use Rattle.cell_world.proofs.Machines.{machine_goes, nothing_noted, rest_after, tied_stands}
use Rattle.cell_world.proofs.Opening.{home_pose, none_noted}
use Rattle.cell_world.proofs.Plates.{number_of}
use Rattle.cell_world.proofs.Rounds.{round_ends, round_fair, round_spares, round_stations}
use Rattle.cell_world.proofs.Shows.{leaves_collisions, leaves_plates}
use Rattle.cell_world.proofs.Spared.{rest_spared, spared_stays}
use Rattle.cell_world.proofs.Steps.{each_axis, not_true, rest_silent}
use Rattle.cell_world.proofs.Turns.{and_false, good_then, plates_as, proposed_does, tied_plain, turn_does, when_no}
use Rattle.cell_world.proofs.Wanted.{wanted_kept, wanted_more}
use Rattle.cell_world.proofs.Whole.{ends_stay, other_kind, other_stay, stations_kept, world_before}

-- A MACHINE THAT WORKS

works_of : {T : Type 0} (J : List Entry) (m : Machine) (s : Mind) → AsBooked J m s T → Works J m s T
works_of J m s t =
    record {
      healthy = t.healthy;
      was_healthy = t.was_healthy;
      was_obeyed = t.was_obeyed;
      tied = t.tied;
      agreed = t.agreed;
    }

booked_of : {T : Type 0} (J : List Entry) (m : Machine) (s : Mind) → Works J m s T → is_asked J m ≡ false
    → AsBooked J m s T
booked_of J m s t h =
    record {
      healthy = t.healthy;
      unasked = h;
      was_healthy = t.was_healthy;
      was_obeyed = t.was_obeyed;
      tied = t.tied;
      agreed = t.agreed;
    }

works_as : {T U : Type 0} (J K : List Entry) (n : Machine) (s : Mind) → is_failed K n ≡ is_failed J n → (T → U)
    → Works J n s T → Works K n s U
works_as J K n s h u t =
    record {
      healthy = h ∙ t.healthy;
      was_healthy = t.was_healthy;
      was_obeyed = t.was_obeyed;
      tied = u t.tied;
      agreed = t.agreed;
    }

-- WHAT IS RULED

by_third : {a b c : Option Ruling} (d v q e g : Option Ruling) (k : Ruling) → a ≡ None → b ≡ None → c ≡ Some k
    → first_ruling (a ∷ b ∷ c ∷ d ∷ v ∷ q ∷ e ∷ g ∷ Some Proposes ∷ []) ≡ k
by_third d v q e g k ha hb hc = rw (ha, hb, hc) refl

by_first : {a : Option Ruling} (b c d v q e g : Option Ruling) (k : Ruling) → a ≡ Some k
    → first_ruling (a ∷ b ∷ c ∷ d ∷ v ∷ q ∷ e ∷ g ∷ Some Proposes ∷ []) ≡ k
by_first b c d v q e g k ha = rw ha refl

pub ruled_stop : (J : List Entry) (p : Plan) (m : Machine) (s : Mind) (r : Option Reading) → is_failed J m ≡ false
    → s.memory.command_failed ≡ false → is_asked J m ≡ true
    → ruling J m p s r ≡ Books (Declared m cause.OperatorStop)
unfolding ruling
ruled_stop J p m s r healthy obeyed h =
    by_third _ _ _ _ _ (declares m cause.OperatorStop) (when_no (is_failed J m) Nothing healthy)
    (when_no s.memory.command_failed (declares m cause.CommandFault) obeyed)
    (ap (λ (x : Bool). when x (declares m cause.OperatorStop)) h)

pub ruled_nothing : (J : List Entry) (p : Plan) (m : Machine) (s : Mind) (r : Option Reading) → is_failed J m ≡ true
    → ruling J m p s r ≡ Nothing
unfolding ruling
ruled_nothing J p m s r h = by_first _ _ _ _ _ _ _ Nothing (ap (λ (x : Bool). when x Nothing) h)

pub by_fourth : {a b c d : Option Ruling} (v q e g : Option Ruling) (k : Ruling) → a ≡ None → b ≡ None → c ≡ None
    → d ≡ Some k → first_ruling (a ∷ b ∷ c ∷ d ∷ v ∷ q ∷ e ∷ g ∷ Some Proposes ∷ []) ≡ k
by_fourth v q e g k ha hb hc hd = rw (ha, hb, hc, hd) refl

ruled_anew : (J : List Entry) (p : Plan) (m : Machine) (s : Mind) (w : Simulated) (r : Option Reading)
    → IsRepaired J m s w → is_asked J m ≡ false → ruling J m p s r ≡ Proposes
unfolding ruling
ruled_anew J p m s w r t h =
    by_fourth _ _ _ _ Proposes (when_no (is_failed J m) Nothing t.healthy)
    (when_no s.memory.command_failed (declares m cause.CommandFault) t.was_obeyed)
    (when_no (is_asked J m) (declares m cause.OperatorStop) h)
    (ap (λ (x : Bool). when x Proposes) t.was_failed)

-- WHAT IS KEPT OF A TURN

pub failed_after : (J : List Entry) (p : Plan) (m : Machine) (s : Mind) (r : Option Reading) (e : Option Entry)
    → (mind_after J m p s r e).memory.failed ≡ is_failed (J ++ option_to_list e) m
unfolding mind_after
failed_after J p m s r e = refl

pub obeyed_after : (J : List Entry) (p : Plan) (m : Machine) (s : Mind) (r : Option Reading) (e : Option Entry)
    → s.memory.command_failed ≡ false → (mind_after J m p s r e).memory.command_failed ≡ false
unfolding mind_after
obeyed_after J p m s r e h = ap (λ (x : Bool). is_none e && x) h ∙ and_false (is_none e)

-- WHAT A TURN OF A MACHINE WITH SWITCHES LEAVES

pub record SwitchTurn (J : List Entry) (p : Plan) (m : Machine) (s : Mind) (w : Simulated) (e : Option Entry) : Type 0
  where
    pub member : WorksOrStopped (J ++ option_to_list e) p m (mind_after J m p s (shown w m) e) (after_turn w m e)
    pub before : WorldAsBefore J (J ++ option_to_list e) w (after_turn w m e)
    pub spares : SparesEnds J w (after_turn w m e)
    pub collisions : (after_turn w m e).collisions ≡ w.collisions

-- of one that isn't asked to stop
working_turn : (l : BookLimits) (J : List Entry) (p : Plan) (m : Machine) (s : Mind) (w : Simulated)
    (e : Option Entry) → has_belt m ≡ false → TurnBegins l J p m s w → IsDecided l J m p s (shown w m) e
    → IfSome e (λ x. first_of l J x ≡ None) → SwitchTurn J p m s w e
working_turn l J p m s w e b t d free =
    let left = turn_does l J p m s w e b t d free in
    record {
      member = inl (works_of (J ++ option_to_list e) m (mind_after J m p s (shown w m) e) left.0.as_booked);
      before = world_before J (J ++ option_to_list e) p m (mind_after J m p s (shown w m) e) w (after_turn w m e) left.0
          left.1;
      spares = left.1;
      collisions = left.0.collisions;
    }

-- of one that is
pub record Seen (J : List Entry) (w : Simulated) (a : Axis) : Type 0 where
  pub stands : StandsAs J a (axis_at w a).pose
  pub read : is_silent_in (axis_at w a).motion ≡ false

pub rest_seen : (J : List Entry) (w : Simulated) (a : Axis) → IsAtRest J w a → Seen J w a
rest_seen J w a t =
    record { stands = inl t.rests.pose; read = rest_silent (at_of J a) (axis_at w a).motion t.rests.motion }

went_seen : (J : List Entry) (p : Plan) (m : Machine) (f : Option Following) (w : Simulated) → WentOn J p m f w
    → (a : Axis) → machine_of_axis a ≡ m → Seen J w a
went_seen J p m f w (inl (i, inl t)) a e = rest_seen J w a (t.rest a e)
went_seen J p m f w (inl (i, inr t)) a e =
    each_axis (Seen J w) t.mover a
    (record {
      stands = inl t.goes.goes.pose;
      read = ap (λ (o : Option Moving). is_silent_in o) t.goes.goes.motion;
    })
    (λ d. rest_seen J w a (t.goes.others a (e ∙ sym t.of) d))
went_seen J p m f w (inr c) a e =
    each_axis (Seen J w) c.mover a
    (record {
      stands = inr (c.came.booked ∙ ap (λ (q : Pose). Some q) (sym c.came.came.pose));
      read = rest_silent c.to (axis_at w c.mover).motion c.came.came.motion;
    })
    (λ d. rest_seen J w a (c.came.others a (e ∙ sym c.of) d))

went_plain : (J : List Entry) (p : Plan) (m : Machine) (f : Option Following) (w : Simulated) → WentOn J p m f w
    → IsPlain w
went_plain J p m f w (inl (i, t)) = tied_plain J p m f w t
went_plain J p m f w (inr c) = c.came.plain

stands_more : (J : List Entry) (m : Machine) (why : Cause) (a : Axis) (q : Pose) → StandsAs J a q
    → StandsAs (one_more J (Declared m why)) a q
stands_more J m why a q (inl h) = inl (h ∙ sym (at_before J (Declared m why) a refl))
stands_more J m why a q (inr g) = inr (going_before J (Declared m why) a refl ∙ g)

pub declared_failed : (J : List Entry) (m : Machine) (why : Cause) → is_failed (one_more J (Declared m why)) m ≡ true
declared_failed J m why =
    view_snoc (fails m) false J (Declared m why)
    ∙ ap (λ (b : Bool). unwrap_or (when b true) (is_failed J m)) (same_machines m)

-- what a reading leaves of a machine that is to stop
pub record ReadsSo (J : List Entry) (m : Machine) (w : Simulated) : Type 0 where
  pub plain : IsPlain (after_reading w m)
  pub seen : (a : Axis) → machine_of_axis a ≡ m → Seen J (after_reading w m) a
  pub spares : SparesEnds J w (after_reading w m)
  pub plates : (u : Station) → plate_at (after_reading w m) u ≡ plate_at w u
  pub collisions : (after_reading w m).collisions ≡ w.collisions

works_reads : (J : List Entry) (p : Plan) (m : Machine) (f : Option Following) (w : Simulated) → has_belt m ≡ false
    → IsTied J p m f w → ReadsSo J m w
works_reads J p m f w b t =
    let went = machine_goes J p m f w b t in
    record {
      plain = went_plain J p m _ (after_reading w m) went;
      seen = went_seen J p m _ (after_reading w m) went;
      spares = read_spares_ends J p m f w b t;
      plates = leaves_plates J p m f w b t;
      collisions = leaves_collisions J p m f w b t;
    }

repaired_reads : (J : List Entry) (m : Machine) (s : Mind) (w : Simulated) → has_belt m ≡ false
    → IsRepaired J m s w → ReadsSo J m w
repaired_reads J m s w b t =
    let so = rest_after J m w b t.rest in
    record {
      plain = subst IsPlain (sym so) t.plain;
      seen = λ a e. subst (λ (v : Simulated). Seen J v a) (sym so) (rest_seen J w a (t.rest a e));
      spares = spares_same J w (after_reading w m) so;
      plates = λ u. ap (λ (v : Simulated). plate_at v u) so;
      collisions = ap (λ (v : Simulated). v.collisions) so;
    }

-- and what is left where it is declared failed
pub record StopTurn (J : List Entry) (p : Plan) (m : Machine) (s : Mind) (w : Simulated) (x : Entry) : Type 0 where
  pub stopped : HasStopped (one_more J x) m (mind_after J m p s (shown w m) (Some x)) (after_turn w m (Some x))
  pub before : WorldAsBefore J (one_more J x) w (after_turn w m (Some x))
  pub spares : SparesEnds J w (after_turn w m (Some x))
  pub collisions : (after_turn w m (Some x)).collisions ≡ w.collisions

obeyed_then : (J : List Entry) (p : Plan) (m : Machine) (s : Mind) (r : Option Reading) (x : Entry)
    → (mind_after J m p s r (Some x)).memory.command_failed ≡ false
unfolding mind_after
obeyed_then J p m s r x = refl

pub stopping_turn : (l : BookLimits) (J : List Entry) (p : Plan) (m : Machine) (s : Mind) (w : Simulated) (why : Cause)
    → has_belt m ≡ false → legal l J ≡ true → ReadsSo J m w → first_of l J (Declared m why) ≡ None
    → StopTurn J p m s w (Declared m why)
stopping_turn l J p m s w why b law t free =
    let x = Declared m why in let K = one_more J x in
    let r = after_reading w m in let u = in_turn axis_stopped (axes_of m) r in
    let s' = mind_after J m p s (shown w m) (Some x) in
    let so : after_entry r x ≡ u = stop_does m r b t.plain in
    let g = good_when_legal l J law in
    let k = good_then l J x g free in
    let still : SparesEnds J r u = record {
      part = stopped_part laying_of (λ a y v. refl) (axes_of m) r;
      light = stopped_part (λ (v : Simulated). v.deposit_light) (λ a y v. refl) (axes_of m) r;
      here = λ c i. stopped_part (λ (v : Simulated). plate_here v c) (λ a y v. refl) (axes_of m) r;
    } in
    let spares = spares_then J w r u t.spares still in
    let halted : HasStopped K m s' u = record {
      failed = declared_failed J m why;
      was_failed = failed_after J p m s (shown w m) (Some x) ∙ declared_failed J m why;
      was_obeyed = obeyed_then J p m s (shown w m) x;
      plain = stopped_plain (axes_of m) r t.plain;
      halted = λ a e. let seen = t.seen a e in let next = all_as_still (axes_of m) a r t.plain in
          record {
            stands = subst (λ (q : Pose). StandsAs K a q) (sym next.pose)
                (stands_more J m why a (axis_at r a).pose seen.stands);
            still = all_still m a r t.plain e;
            read = next.read ∙ seen.read;
          };
    } in
    let before : WorldAsBefore J K w u = record {
      part = spares.part;
      light = spares.light;
      laid = λ c. ap number_of (spares.here station.FeedIn tt);
      taken = λ c. ap number_of (spares.here station.DepEnd tt);
      booked = λ c h. plates_as J x r u c g k refl
          (stopped_part (λ (v : Simulated). plate_at v c) (λ a y v. refl) (axes_of m) r) (t.plates c ∙ h);
    } in
    let counts = stopped_part (λ (v : Simulated). v.collisions) (λ a y v. refl) (axes_of m) r ∙ t.collisions in
    record {
      stopped = subst (λ (v : Simulated). HasStopped K m s' v) (sym so) halted;
      before = subst (λ (v : Simulated). WorldAsBefore J K w v) (sym so) before;
      spares = subst (λ (v : Simulated). SparesEnds J w v) (sym so) spares;
      collisions = ap (λ (v : Simulated). v.collisions) so ∙ counts;
    }

-- of one that has stopped
pub stopped_turn : (J : List Entry) (p : Plan) (m : Machine) (s : Mind) (w : Simulated) → has_belt m ≡ false
    → HasStopped J m s w → SwitchTurn J p m s w None
stopped_turn J p m s w b t =
    let so = read_still m w b (λ a e. ((t.halted a e).still, (t.halted a e).read)) in
    let same = append-nil J in
    let stays : HasStopped J m (mind_after J m p s (shown w m) None) w = record {
      failed = t.failed;
      was_failed = failed_after J p m s (shown w m) None
          ∙ (ap (λ (K : List Entry). is_failed K m) same ∙ t.failed);
      was_obeyed = obeyed_after J p m s (shown w m) None t.was_obeyed;
      plain = t.plain;
      halted = t.halted;
    } in
    record {
      member = inr (inl (subst (λ (K : List Entry). HasStopped K m (mind_after J m p s (shown w m) None)
          (after_reading w m)) (sym same)
          (subst (λ (v : Simulated). HasStopped J m (mind_after J m p s (shown w m) None) v) (sym so) stays)));
      before = subst (λ (K : List Entry). WorldAsBefore J K w (after_reading w m)) (sym same)
          (subst (λ (v : Simulated). WorldAsBefore J J w v) (sym so)
          (record { part = refl; light = refl; laid = λ c. refl; taken = λ c. refl; booked = λ c h. h }));
      spares = spares_same J w (after_reading w m) so;
      collisions = ap (λ (v : Simulated). v.collisions) so;
    }

-- of one that was repaired: it is as one that begins anew
none_if : (b : Bool) (o : Option Following) → o ≡ None → (if b then None else o) ≡ None
none_if true o h = refl
none_if false o h = h

anew : (J : List Entry) (m : Machine) (s : Mind) (w : Simulated) → IsRepaired J m s w → is_asked J m ≡ false
    → begins_anew J m s.memory ≡ true
anew J m s w t h = let a = t.was_failed in let b = t.healthy in let c = t.was_obeyed in rw (a, b, c, h) refl

pub first_axis : (J : List Entry) (p : Plan) (m : Machine) (w : Simulated) (r : Option Reading) (e : Option Entry)
    → axis_noted J m p None r ≡ None → (mind_after J m p (first_mind J m) r e).axis ≡ None
unfolding mind_after
first_axis J p m w r e h =
    none_if (begins_anew J m (first_mind J m).memory || ends_motion e) (axis_noted J m p None r) h

pub anew_axis : (J : List Entry) (p : Plan) (m : Machine) (s : Mind) (r : Option Reading) (e : Option Entry)
    → begins_anew J m s.memory ≡ true → (mind_after J m p s r e).axis ≡ None
unfolding mind_after
anew_axis J p m s r e h =
    ap (λ (x : Bool). if x || ends_motion e then None else axis_noted J m p s.axis r) h

pub anew_rest : (J : List Entry) (p : Plan) (m : Machine) (s : Mind) (r : Option Reading) (e : Option Entry)
    → begins_anew J m s.memory ≡ true → rest (mind_after J m p s r e).rest ≡ Pending
unfolding mind_after
anew_rest J p m s r e h =
    ap (λ (x : Bool). rest (if x then [] else rest_noted J m s.memory s.rest r)) h ∙ none_noted

repaired_turn : (l : BookLimits) (J : List Entry) (p : Plan) (m : Machine) (s : Mind) (w : Simulated)
    (e : Option Entry) → has_belt m ≡ false → IsRepaired J m s w → is_asked J m ≡ false
    → ((t : Mind) → AsBooked J m t (IsTied J p m t.axis w) → TurnBegins l J p m t w)
    → IsProposed l J m p.plates e → IfSome e (λ x. first_of l J x ≡ None) → SwitchTurn J p m s w e
repaired_turn l J p m s w e b t h begins d free =
    let f = first_mind J m in let r = shown w m in let K = J ++ option_to_list e in
    let rests : MachineRests J m None w = record { plain = t.plain; rest = t.rest; unnoted = refl } in
    let as_first : AsBooked J m f (IsTied J p m f.axis w) = record {
      healthy = t.healthy;
      unasked = h;
      was_healthy = t.healthy;
      was_obeyed = refl;
      tied = inl rests;
      agreed = none_noted;
    } in
    let left = proposed_does l J p m f w e b (begins f as_first) rests d free in
    let new = anew J m s w t h in
    let nothing = nothing_noted J p m None w r b rests in
    let tied = subst (λ (x : Option Following). IsTied K p m x (after_turn w m e))
    (first_axis J p m w r e nothing ∙ sym (anew_axis J p m s r e new)) left.0.as_booked.tied in
    record {
      member = inl (record {
        healthy = left.0.as_booked.healthy;
        was_healthy = failed_after J p m s r e ∙ left.0.as_booked.healthy;
        was_obeyed = obeyed_after J p m s r e t.was_obeyed;
        tied = tied;
        agreed = anew_rest J p m s r e new;
      });
      before = world_before J K p m (mind_after J m p f r e) w (after_turn w m e) left.0 left.1;
      spares = left.1;
      collisions = left.0.collisions;
    }

-- whichever it is
abbrev Begins : BookLimits → List Entry → Plan → Machine → Simulated → Type 0
Begins l J p m w = (t : Mind) → AsBooked J m t (IsTied J p m t.axis w) → TurnBegins l J p m t w

stops_by : (l : BookLimits) (J : List Entry) (p : Plan) (m : Machine) (s : Mind) (w : Simulated) (e : Option Entry)
    → has_belt m ≡ false → legal l J ≡ true → is_failed J m ≡ false → s.memory.command_failed ≡ false
    → is_asked J m ≡ true → ReadsSo J m w → IsDecided l J m p s (shown w m) e
    → IfSome e (λ x. first_of l J x ≡ None) → SwitchTurn J p m s w e
stops_by l J p m s w e b law healthy obeyed h t d free =
    let is : e ≡ Some (Declared m cause.OperatorStop) =
    subst (λ (k : Ruling). IsRuled l J m p.plates k e) (ruled_stop J p m s (shown w m) healthy obeyed h) d in
    let y = stopping_turn l J p m s w cause.OperatorStop b law t
    (subst (λ (o : Option Entry). IfSome o (λ x. first_of l J x ≡ None)) is free) in
    subst (λ (o : Option Entry). SwitchTurn J p m s w o) (sym is)
    (record { member = inr (inl y.stopped); before = y.before; spares = y.spares; collisions = y.collisions })

works_turn : (l : BookLimits) (J : List Entry) (p : Plan) (m : Machine) (s : Mind) (w : Simulated) (e : Option Entry)
    (a : Bool) → is_asked J m ≡ a → has_belt m ≡ false → Works J m s (IsTied J p m s.axis w) → Begins l J p m w
    → legal l J ≡ true → IsDecided l J m p s (shown w m) e → IfSome e (λ x. first_of l J x ≡ None)
    → SwitchTurn J p m s w e
works_turn l J p m s w e false h b t begins law d free =
    working_turn l J p m s w e b (begins s (booked_of J m s t h)) d free
works_turn l J p m s w e true h b t begins law d free =
    stops_by l J p m s w e b law t.healthy t.was_obeyed h (works_reads J p m s.axis w b t.tied) d free

anew_turn : (l : BookLimits) (J : List Entry) (p : Plan) (m : Machine) (s : Mind) (w : Simulated) (e : Option Entry)
    (a : Bool) → is_asked J m ≡ a → has_belt m ≡ false → IsRepaired J m s w → Begins l J p m w
    → legal l J ≡ true → IsDecided l J m p s (shown w m) e → IfSome e (λ x. first_of l J x ≡ None)
    → SwitchTurn J p m s w e
anew_turn l J p m s w e false h b t begins law d free =
    repaired_turn l J p m s w e b t h begins
    (subst (λ (k : Ruling). IsRuled l J m p.plates k e) (ruled_anew J p m s w (shown w m) t h) d) free
anew_turn l J p m s w e true h b t begins law d free =
    stops_by l J p m s w e b law t.healthy t.was_obeyed h (repaired_reads J m s w b t) d free

switch_turn : (l : BookLimits) (J : List Entry) (p : Plan) (m : Machine) (s : Mind) (w : Simulated) (e : Option Entry)
    → has_belt m ≡ false → WorksOrStopped J p m s w → Begins l J p m w → legal l J ≡ true
    → IsDecided l J m p s (shown w m) e → IfSome e (λ x. first_of l J x ≡ None) → SwitchTurn J p m s w e
switch_turn l J p m s w e b (inl t) begins law d free =
    works_turn l J p m s w e (is_asked J m) refl b t begins law d free
switch_turn l J p m s w e b (inr (inl t)) begins law d free =
    let is : e ≡ None =
    subst (λ (k : Ruling). IsRuled l J m p.plates k e) (ruled_nothing J p m s (shown w m) t.failed) d in
    subst (λ (o : Option Entry). SwitchTurn J p m s w o) (sym is) (stopped_turn J p m s w b t)
switch_turn l J p m s w e b (inr (inr t)) begins law d free =
    anew_turn l J p m s w e (is_asked J m) refl b t begins law d free

-- THE WHOLE CELL

member_plain : (J : List Entry) (p : Plan) (m : Machine) (s : Mind) (w : Simulated) → WorksOrStopped J p m s w
    → IsPlain w
member_plain J p m s w (inl t) = tied_plain J p m s.axis w t.tied
member_plain J p m s w (inr (inl t)) = t.plain
member_plain J p m s w (inr (inr t)) = t.plain

member_stands : (J : List Entry) (p : Plan) (m : Machine) (s : Mind) (w : Simulated) → WorksOrStopped J p m s w
    → (a : Axis) → machine_of_axis a ≡ m → StandsAs J a (axis_at w a).pose
member_stands J p m s w (inl t) a e = inl (tied_stands J p m s.axis w t.tied a e)
member_stands J p m s w (inr (inl t)) a e = (t.halted a e).stands
member_stands J p m s w (inr (inr t)) a e = inl (t.rest a e).rests.pose

pub plain_of : (l : BookLimits) (J : List Entry) (p : Plan) (minds : Machine → Mind) (w : Simulated)
    → CellWithStops l J p minds w → IsPlain w
plain_of l J p minds w t = member_plain J p machine.Robot (minds machine.Robot) w (t.switches machine.Robot refl)

robot_of : (l : BookLimits) (J : List Entry) (p : Plan) (minds : Machine → Mind) (w : Simulated)
    → CellWithStops l J p minds w → RobotMayStand J w
robot_of l J p minds w t = member_stands J p machine.Robot (minds machine.Robot) w (t.switches machine.Robot refl)

-- what is left of a machine whose axes are as before, in the book and in the world
pub stands_spared : (J K : List Entry) (a : Axis) (p q : Pose) → at_of K a ≡ at_of J a → going_of K a ≡ going_of J a
    → q ≡ p → StandsAs J a p → StandsAs K a q
stands_spared J K a p q h k i (inl x) = inl (i ∙ (x ∙ sym h))
stands_spared J K a p q h k i (inr x) = inr (k ∙ (x ∙ ap (λ (y : Pose). Some y) (sym i)))

pub stopped_spared : (J K : List Entry) (n : Machine) (i : Mind) (w v : Simulated) → is_failed K n ≡ is_failed J n
    → IsSpared n J K w v → HasStopped J n i w → HasStopped K n i v
stopped_spared J K n i w v h s t =
    record {
      failed = h ∙ t.failed;
      was_failed = t.was_failed;
      was_obeyed = t.was_obeyed;
      plain = s.plain;
      halted = λ a e. let y = t.halted a e in let x = s.axes a e in
          record {
            stands = stands_spared J K a (axis_at w a).pose (axis_at v a).pose (s.at a e) (s.going a e)
                (ap (λ z. z.pose) x) y.stands;
            still = ap (λ z. moves z.motion) x ∙ y.still;
            read = ap (λ z. is_silent_in z.motion) x ∙ y.read;
          };
    }

pub member_spared : (J K : List Entry) (p : Plan) (n : Machine) (s : Mind) (w v : Simulated)
    → is_failed K n ≡ is_failed J n → IsSpared n J K w v → WorksOrStopped J p n s w → WorksOrStopped K p n s v
member_spared J K p n s w v h i (inl t) =
    inl (works_as J K n s h (λ k. spared_stays J K p n s.axis w v i k) t)
member_spared J K p n s w v h i (inr (inl t)) = inr (inl (stopped_spared J K n s w v h i t))
member_spared J K p n s w v h i (inr (inr t)) =
    inr (inr (record {
      healthy = h ∙ t.healthy;
      was_failed = t.was_failed;
      was_obeyed = t.was_obeyed;
      plain = i.plain;
      rest = λ a e. rest_spared J K n w v i a e (t.rest a e);
    }))

belt_spared_by : (J : List Entry) (p : Plan) (m n : Machine) (s : Mind) (w : Simulated) (e : Option Entry)
    → has_belt n ≡ true → m ≢ n → IfSome e (λ x. machine_of_entry x ≡ Some m) → IsPlain w
    → EndsStay J p n s.axis w (after_turn w m e) → BeltAsBooked J p n s w
    → BeltAsBooked (J ++ option_to_list e) p n s (after_turn w m e)
belt_spared_by J p m n s w e b d own plain ends t =
    let K = J ++ option_to_list e in let v = after_turn w m e in
    kept_as J K n s (turn_healthy J m n e d own) (turn_unasked J m n e d own)
    (λ i. belt_stays J K p n s.axis w v b (turn_spared J w m n e plain d own) ends i) t

abbrev Left : BookLimits → List Entry → Plan → (Machine → Mind) → Simulated → Machine → Option Entry → Type 0
Left l J p minds w m e =
    CellWithStops l (J ++ option_to_list e) p (with_mind m (mind_after J m p (minds m) (shown w m) e) minds)
    (after_turn w m e)
    × ((after_turn w m e).collisions ≡ w.collisions)

cell_by : (l : BookLimits) (J : List Entry) (p : Plan) (minds : Machine → Mind) (w : Simulated) (m : Machine)
    (e : Option Entry) (b : Bool) → has_belt m ≡ b → CellWithStops l J p minds w → IsTurnOf l J p m (minds m) w e
    → Left l J p minds w m e
cell_by l J p minds w m e false b t o =
    let K = J ++ option_to_list e in let v = after_turn w m e in let s = mind_after J m p (minds m) (shown w m) e in
    let plain = plain_of l J p minds w t in
    let left = switch_turn l J p m (minds m) w e b (t.switches m b)
    (λ i c. record {
      legal = t.legal;
      fair = t.fair;
      as_booked = c;
      plates = λ u h f. t.stations.within u h;
      robot = robot_of l J p minds w t;
    }) t.legal o.decided o.allowed in (
      record {
        legal = legal_then l J e t.legal o.allowed;
        fair = fair_then p w v (turn_long w m e) t.fair;
        wanted = wanted_kept l J p m (minds m) (shown w m) e o.decided t.stations.laying.unexpected t.wanted;
        switches = λ n c. each_mind (λ x y. WorksOrStopped K p x y v) m n s minds (same_machine m n) refl
            (λ i. subst (λ (x : Machine). WorksOrStopped K p x s v) i left.member)
            (λ d. member_spared J K p n (minds n) w v (turn_healthy J m n e d o.own)
            (turn_spared J w m n e plain d o.own) (t.switches n c));
        belts = λ n c. each_mind (λ x y. BeltAsBooked K p x y v) m n s minds (same_machine m n) refl
            (λ i. absurd (other_kind n m c b (sym i)))
            (λ d. belt_spared_by J p m n (minds n) w e c d o.own plain
            (ends_stay J p n (minds n).axis w v t.stations left.spares) (t.belts n c));
        stations = stations_kept J p m e w v b o.own left.before t.stations;
      },
      left.collisions,
    )
cell_by l J p minds w m e true b t o =
    let K = J ++ option_to_list e in let v = after_turn w m e in let s = mind_after J m p (minds m) (shown w m) e in
    let plain = plain_of l J p minds w t in
    let left = belt_turn_does l J p m (minds m) w e b
    (record {
      legal = t.legal;
      fair = t.fair;
      as_booked = t.belts m b;
      stations = t.stations;
      robot = robot_of l J p minds w t;
    }) o.decided o.allowed in (
      record {
        legal = legal_then l J e t.legal o.allowed;
        fair = fair_then p w v (turn_long w m e) t.fair;
        wanted = wanted_kept l J p m (minds m) (shown w m) e o.decided t.stations.laying.unexpected t.wanted;
        switches = λ n c. each_mind (λ x y. WorksOrStopped K p x y v) m n s minds (same_machine m n) refl
            (λ i. absurd (other_kind m n b c i))
            (λ d. member_spared J K p n (minds n) w v (turn_healthy J m n e d o.own)
            (turn_spared J w m n e plain d o.own) (t.switches n c));
        belts = λ n c. each_mind (λ x y. BeltAsBooked K p x y v) m n s minds (same_machine m n) refl
            (λ i. subst (λ (x : Machine). BeltAsBooked K p x s v) i left.0.as_booked)
            (λ d. belt_spared_by J p m n (minds n) w e c d o.own plain
            (other_stay J p m n (minds n).axis w v d left.1) (t.belts n c));
        stations = left.0.stations;
      },
      left.0.collisions,
    )

pub stops_kept : StopsKept
stops_kept l J p minds w m e t o = cell_by l J p minds w m e (has_belt m) refl t o

pub none_stopped : NoneStopped
none_stopped l J p minds w t wanted =
    record {
      legal = t.legal;
      fair = t.fair;
      wanted = wanted;
      switches = λ m b. inl (works_of J m (minds m) (t.switches m b));
      belts = t.belts;
      stations = t.stations;
    }

-- WHERE THE OPERATOR ASKS ONE TO STOP

asked_spares : (J : List Entry) (m n : Machine) (w : Simulated) → IsPlain w
    → IsSpared n J (one_more J (StopAsked m)) w w
asked_spares J m n w t =
    let x = StopAsked m in
    record {
      plain = t;
      long = refl;
      at = λ a i. at_before J x a refl;
      going = λ a i. going_before J x a refl;
      axes = λ a i. refl;
    }

asked_fails_none : (J : List Entry) (m n : Machine) → is_failed (one_more J (StopAsked m)) n ≡ is_failed J n
asked_fails_none J m n = view_snoc (fails n) false J (StopAsked m)

other_machine : (m n : Machine) → (m ≡ n → ⊥) → same_machine m n ≡ false
other_machine m n d = not_true (same_machine m n) (λ h. d (machine_same m n h))

asks_no_other : (J : List Entry) (m n : Machine) → same_machine m n ≡ false
    → is_asked (one_more J (StopAsked m)) n ≡ is_asked J n
asks_no_other J m n h =
    view_snoc (asks n) false J (StopAsked m)
    ∙ ap (λ (b : Bool). unwrap_or (when b true) (is_asked J n)) h

pub asking_keeps : AskingKeeps
asking_keeps l J p minds w m b free t =
    let x = StopAsked m in let K = one_more J x in
    let plain = plain_of l J p minds w t in
    let g = good_when_legal l J t.legal in let k = good_then l J x g free in
    record {
      legal = legal_then l J (Some x) t.legal free;
      fair = t.fair;
      wanted = wanted_more J p x refl refl t.wanted;
      switches = λ n c. member_spared J K p n (minds n) w w (asked_fails_none J m n) (asked_spares J m n w plain)
          (t.switches n c);
      belts = λ n c. kept_as J K n (minds n) (asked_fails_none J m n)
          (asks_no_other J m n (other_machine m n (λ i. other_kind n m c b (sym i))))
          (λ i. belt_stays J K p n (minds n).axis w w c (asked_spares J m n w plain)
          (λ d q h j o. record { light = refl; from_end = refl; dest_end = refl }) i) (t.belts n c);
      stations = stations_after J p x w w (record { lamps = λ c. refl; admitted = refl; expected = refl })
          (record {
            part = refl;
            light = refl;
            laid = λ c. refl;
            taken = λ c. refl;
            booked = λ c h. plates_as J x w w c g k refl refl h;
          }) t.stations;
    }

-- WHERE HE REPAIRS ONE

-- the book repairs only a machine that failed
repairs_failed : (l : BookLimits) (J : List Entry) (m : Machine) → Good J → first_of l J (Repaired m) ≡ None
    → is_failed J m ≡ true
repairs_failed l J m g free =
    let ok : allowed l J (Repaired m) ≡ true = ap (λ (o : Option Refusal). is_none o) free in
    let test = (good_passed l J (Repaired m) g ok).1.0 in
    g.agrees.failed m ∙ not_false ((after J).failed m) test

pub stopped_only : (J : List Entry) (p : Plan) (m : Machine) (s : Mind) (w : Simulated) → is_failed J m ≡ true
    → WorksOrStopped J p m s w → HasStopped J m s w
stopped_only J p m s w h (inl t) = let x : true ≡ false = sym h ∙ t.healthy in cc x
stopped_only J p m s w h (inr (inl t)) = t
stopped_only J p m s w h (inr (inr t)) = let x : true ≡ false = sym h ∙ t.healthy in cc x

abbrev to_rest : Option Pose → Option (Option Pose)
to_rest o = option_map (λ _. None) o

repaired_it : (a : Axis) (m : Machine) → machine_of_axis a ≡ m → same_machine (machine_of_axis a) m ≡ true
repaired_it a m e = ap (λ (n : Machine). same_machine (machine_of_axis a) n) (sym e) ∙ same_machines (machine_of_axis a)

pub at_home : (J : List Entry) (m : Machine) (a : Axis) → machine_of_axis a ≡ m
    → at_of (one_more J (Repaired m)) a ≡ home a
at_home J m a e = at_now J (Repaired m) a (home a) (ap (λ (b : Bool). when b (home a)) (repaired_it a m e))

pub still_home : (J : List Entry) (m : Machine) (a : Axis) → machine_of_axis a ≡ m
    → going_of (one_more J (Repaired m)) a ≡ None
still_home J m a e =
    going_now J (Repaired m) a None
    (ap (λ (b : Bool). to_rest (when b (home a))) (repaired_it a m e))

home_rests : (J : List Entry) (m : Machine) (a : Axis) (w : Simulated) → machine_of_axis a ≡ m
    → IsHome a (axis_at w a) → IsAtRest (one_more J (Repaired m)) w a
home_rests J m a w e t =
    let at = at_home J m a e in
    record {
      booked = still_home J m a e;
      own_pose = ap (λ (q : Pose). is_pose_of a q) at ∙ home_pose a;
      rests = record {
        pose = t.pose ∙ sym at;
        motion = subst (λ (o : Option Moving). RestsBy (at_of (one_more J (Repaired m)) a) o) (sym t.still) tt;
      };
    }

not_its : (a : Axis) (m n : Machine) → machine_of_axis a ≡ n → (m ≡ n → ⊥) → same_machine (machine_of_axis a) m ≡ false
not_its a m n i d = other_machine (machine_of_axis a) m (λ e. d (sym e ∙ i))

home_spares : (J : List Entry) (m n : Machine) (w : Simulated) → IsPlain w → (m ≡ n → ⊥)
    → IsSpared n J (one_more J (Repaired m)) w (in_turn axis_homed (axes_of m) w)
home_spares J m n w t d =
    let x = Repaired m in
    record {
      plain = homed_plain (axes_of m) w t;
      long = homed_part (λ (u : Simulated). u.durations) (λ a y u. refl) (axes_of m) w;
      at = λ a i. at_before J x a (ap (λ (b : Bool). when b (home a)) (not_its a m n i d));
      going = λ a i. going_before J x a
          (ap (λ (b : Bool). to_rest (when b (home a))) (not_its a m n i d));
      axes = λ a i. other_home m a w (λ e. d (sym e ∙ i));
    }

pub repaired_healthy : (J : List Entry) (m : Machine) → is_failed (one_more J (Repaired m)) m ≡ false
repaired_healthy J m =
    view_snoc (fails m) false J (Repaired m)
    ∙ ap (λ (b : Bool). unwrap_or (when b false) (is_failed J m)) (same_machines m)

repairs_no_other : (J : List Entry) (m n : Machine) → same_machine m n ≡ false
    → (is_failed (one_more J (Repaired m)) n ≡ is_failed J n) × (is_asked (one_more J (Repaired m)) n ≡ is_asked J n)
repairs_no_other J m n h = (
  view_snoc (fails n) false J (Repaired m) ∙ ap (λ (b : Bool). unwrap_or (when b false) (is_failed J n)) h,
  view_snoc (asks n) false J (Repaired m) ∙ ap (λ (b : Bool). unwrap_or (when b false) (is_asked J n)) h,
)

homed_light : (c : Conveying) (m : Machine) (w : Simulated)
    → light_of c (in_turn axis_homed (axes_of m) w) ≡ light_of c w
homed_light to_feed_end m w = homed_part (λ (u : Simulated). u.feed_light) (λ a y u. refl) (axes_of m) w
homed_light to_table m w = homed_part (λ (u : Simulated). u.feed_light) (λ a y u. refl) (axes_of m) w
homed_light to_deposit_end m w = homed_part (λ (u : Simulated). u.deposit_light) (λ a y u. refl) (axes_of m) w

homed_ends : (c : Conveying) (m : Machine) (w : Simulated) → EndsAsBefore c w (in_turn axis_homed (axes_of m) w)
homed_ends c m w =
    record {
      light = homed_light c m w;
      from_end = homed_part (λ (u : Simulated). plate_here u (from_of c)) (λ a y u. refl) (axes_of m) w;
      dest_end = homed_part (λ (u : Simulated). plate_here u (dest_of c)) (λ a y u. refl) (axes_of m) w;
    }

repaired_member : (J : List Entry) (p : Plan) (m n : Machine) (s : Mind) (w : Simulated) (b : Bool)
    → same_machine m n ≡ b → IsPlain w → is_failed J m ≡ true → WorksOrStopped J p n s w
    → WorksOrStopped (one_more J (Repaired m)) p n s (in_turn axis_homed (axes_of m) w)
repaired_member J p m n s w true h plain failed t =
    let e = machine_same m n h in
    let was = stopped_only J p n s w (subst (λ (x : Machine). is_failed J x ≡ true) e failed) t in
    subst (λ (x : Machine). WorksOrStopped (one_more J (Repaired x)) p n s (in_turn axis_homed (axes_of x) w)) (sym e)
    (inr (inr (record {
      healthy = repaired_healthy J n;
      was_failed = was.was_failed;
      was_obeyed = was.was_obeyed;
      plain = homed_plain (axes_of n) w plain;
      rest = λ a i. home_rests J n a (in_turn axis_homed (axes_of n) w) i (all_home n a w plain i);
    })))
repaired_member J p m n s w false h plain failed t =
    let d : m ≡ n → ⊥ = apart m n h in
    member_spared J (one_more J (Repaired m)) p n s w (in_turn axis_homed (axes_of m) w)
    (repairs_no_other J m n h).0 (home_spares J m n w plain d) t

pub repairing_keeps : RepairingKeeps
repairing_keeps l J p minds w m b free t =
    let x = Repaired m in let K = one_more J x in let v = in_turn axis_homed (axes_of m) w in
    let plain = plain_of l J p minds w t in
    let g = good_when_legal l J t.legal in let k = good_then l J x g free in
    let failed = repairs_failed l J m g free in
    subst (λ (u : Simulated). CellWithStops l K p minds u) (sym (home_does m w plain))
    (record {
      legal = legal_then l J (Some x) t.legal free;
      fair = fair_then p w v (homed_part (λ (u : Simulated). u.durations) (λ a y u. refl) (axes_of m) w) t.fair;
      wanted = wanted_more J p x refl refl t.wanted;
      switches = λ n c. repaired_member J p m n (minds n) w (same_machine m n) refl plain failed (t.switches n c);
      belts = λ n c. let d : m ≡ n → ⊥ = λ i. other_kind n m c b (sym i) in
          kept_as J K n (minds n) (repairs_no_other J m n (other_machine m n d)).0
          (repairs_no_other J m n (other_machine m n d)).1
          (λ i. belt_stays J K p n (minds n).axis w v c (home_spares J m n w plain d)
          (λ q z h j o. homed_ends q m w) i) (t.belts n c);
      stations = stations_after J p x w v (record { lamps = λ c. refl; admitted = refl; expected = refl })
          (record {
            part = homed_part laying_of (λ a y u. refl) (axes_of m) w;
            light = homed_part (λ (u : Simulated). u.deposit_light) (λ a y u. refl) (axes_of m) w;
            laid = λ c. homed_part (λ (u : Simulated). plate_at u station.FeedIn) (λ a y u. refl) (axes_of m) w;
            taken = λ c. homed_part (λ (u : Simulated). plate_at u station.DepEnd) (λ a y u. refl) (axes_of m) w;
            booked = λ c h. plates_as J x w v c g k refl
                (homed_part (λ (u : Simulated). plate_at u c) (λ a y u. refl) (axes_of m) w) h;
          }) t.stations;
    })

-- THE END OF A ROUND

pub stopped_round_kept : StoppedRoundKept
stopped_round_kept l J p minds w t =
    let v = after_round w in let plain = plain_of l J p minds w t in
    record {
      legal = t.legal;
      fair = round_fair p w t.fair;
      wanted = t.wanted;
      switches = λ n c. member_spared J J p n (minds n) w v refl (round_spares J n w plain) (t.switches n c);
      belts = λ n c. kept_as J J n (minds n) refl refl
          (λ i. belt_stays J J p n (minds n).axis w v c (round_spares J n w plain)
          (λ d q h j o. round_ends d w) i) (t.belts n c);
      stations = round_stations J p w t.stations;
    }
