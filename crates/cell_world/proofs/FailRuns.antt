-- The whole cell, through the moves of a run in which machines fail by faults that last
use Rattle.std.specs.List.{list_any}
use Rattle.std.specs.Prelude.{option_to_list}
use Rattle.std.proofs.Common.{◌⊎◌, ◌≡◌, ◌≢◌, inl, inr, Bool, true, false, not, ◌||◌, Option, Some, None, List, [], ◌∷◌}
use Rattle.std.proofs.Common.{◌++◌, refl, sym, ap, ◌∙◌, subst, IfSome, Ok, Err}
use Rattle.std.proofs.lemmas.List.{append-nil}
use Rattle.cell_types.specs.declared.words.Axis.{Axis}
use Rattle.cell_types.specs.declared.words.Entry.{Entry}
use Rattle.cell_types.specs.declared.words.Entry.TheVariants.{Declared, StopAsked}
use Rattle.cell_types.specs.declared.words.Machine.{Machine}
use Rattle.cell_types.specs.Cell.{machine_of_axis}
use Rattle.cell_types.specs.Entries.{machine_of_entry}
use Rattle.cell_rules.specs.declared.limits.BookLimits.{BookLimits}
use Rattle.cell_rules.specs.History.{History}
use Rattle.cell_rules.specs.Legal.{first_of}
use Rattle.cell_rules.specs.Views.{is_failed}
use Rattle.cell_measures.specs.declared.durations.Durations.{Durations}
use Rattle.cell_diagnosis.specs.declared.reading.Reading.{Reading}
use Rattle.cell_diagnosis.proofs.EndLaws.{any_snoc}
use Rattle.cell_ports.specs.declared.plan.Plan.{Plan}
use Rattle.cell_turns.specs.Acts.{act_of}
use Rattle.cell_turns.specs.Minds.{Mind, first_mind}
use Rattle.cell_turns.specs.Six.{at, each, put}
use Rattle.cell_turns.specs.Turns.{IsDecided}
use Rattle.cell_plant.specs.declared.keeper.Unkept.{Unkept}
use Rattle.cell_plant.specs.Asked.{Shown}
use Rattle.cell_workers.specs.declared.ends.End.{End}
use Rattle.cell_workers.specs.declared.ends.End.TheVariants as end
use Rattle.operator_desk.specs.Next.{next_of}
use Rattle.operator_desk.specs.declared.action.Action.{Action}
use Rattle.operator_desk.specs.declared.line.Line.{Line}
use Rattle.operator_desk.specs.Lines.{line_of}
use Rattle.cell_rounds.specs.Moves.{Leads, Terms, terms_of}
use Rattle.cell_rounds.specs.Moves.Leads.{goes, stays}
use Rattle.cell_rounds.specs.Stands.{Between, Closing, Noting, Point, Serving, Stand, Turning, start, Noted}
use Rattle.cell_rounds.specs.Runs.{Halts, Has, Unbooked, end_of}
use Rattle.cell_rounds.specs.Runs.Unbooked.{noted, reading, act}
use Rattle.cell_rounds.specs.Runs.Halts.{breaks, lacks, fills, rests as comes_to_rest, tires}
use Rattle.cell_rounds.specs.declared.progress.Halt.{Halt}
use Rattle.cell_rows.specs.Rows.{rows_of}
use Rattle.cell_rows.specs.Scripts.{lines_of}
use Rattle.cell_sim.specs.declared.fault.PlannedFault.{PlannedFault}
use Rattle.cell_sim.specs.Readings.{after_reading, shown}
use Rattle.cell_sim.specs.Simulated.{Simulated, one_each}
use Rattle.cell_sim.specs.Script.{next_fault}
use Rattle.sim_plant.specs.Answers.{AnswersSo, SimCell}
use Rattle.cell_runs.specs.Cells.{AllKept}
use Rattle.cell_runs.specs.Runs.{Kept, Simulates, kept, limits_of, opening_of}
use Rattle.cell_runs.specs.declared.inputs.Inputs.{Inputs}
use Rattle.cell_world.specs.Agreeing.{has_belt}
use Rattle.cell_world.specs.BeltTurning.{BeltAsBooked}
use Rattle.cell_world.specs.FailCell.{AllLast, CellWithFailing, Fails, FailsAt, has_fault}
use Rattle.cell_world.specs.FailRuns.{IsBookedBeside, IsCalmBeside, RunWithFailing, disturbs_other, opened_with}
use Rattle.cell_world.specs.FailRuns.{EndWithFailing, FaultyRunIsWorld, FaultyTextIsWorld, LeavesBeside}
use Rattle.cell_world.specs.FailRuns.{NoneCollidesBeside}
use Rattle.cell_world.specs.FailStarts.{after_turn_with, mind_with}
use Rattle.cell_world.specs.OneRun.{Moment, moment_of, next_at, served}
use Rattle.cell_world.specs.Running.{Allows}
use Rattle.cell_world.specs.Starting.{one_more}
use Rattle.cell_world.specs.Switched.{with_mind}
use Rattle.cell_world.specs.Turning.{IsAsBooked}
use Rattle.cell_world.proofs.FailCell.{no_other_fails, none_failed_yet, failing_kept, failing_round_kept, plain_with}
use Rattle.cell_world.proofs.Moves.{each_at, hands_done, mind_put}
use Rattle.cell_world.proofs.OneRun.{IsOrdinary, MayGoOn, decided_is, is_ordinary, move_follows, starts_ordinary}
use Rattle.cell_world.proofs.OneRun.{not_ordinary}
use Rattle.cell_world.proofs.Owned.{decided_owned}
use Rattle.cell_world.proofs.Rounds.{round_collisions}
use Rattle.cell_world.proofs.Stopping.{declared_failed}
use Rattle.cell_world.proofs.Whole.{cell_opening}
use Rattle.cell_world.proofs.BeltReads.{read_counts}
use Rattle.cell_world.proofs.Failing.{sick_reads}
use Rattle.cell_world.proofs.FailStarts.{lost_reads}
use Rattle.cell_world.proofs.Fair.{same_read, settings_are_fair}
use Rattle.cell_world.proofs.Halts.{read_still}
use Rattle.cell_world.proofs.Hand.{hand_counts}
use Rattle.cell_world.proofs.Machines.{no_belt}
use Rattle.cell_world.proofs.Shows.{leaves_collisions}
use Rattle.cell_world.proofs.Simulating.{ran_so, written}

-- WHAT THE JOURNAL DECLARES

planned_by : (b : Bool) (J : List Entry) (m : Machine) → (b ≡ false → is_failed J m ≡ false) → is_failed J m ≡ true
    → b ≡ true
planned_by true J m h failed = refl
planned_by false J m h failed = let c : true ≡ false = sym failed ∙ h refl in cc c

entry_calm : (faults : List PlannedFault) (l : BookLimits) (J : List Entry) (p : Plan) (minds : Machine → Mind)
    (w : Simulated) (m : Machine) (x : Entry) → machine_of_entry x ≡ Some m
    → CellWithFailing faults l (one_more J x) p minds w → disturbs_other faults x ≡ false
entry_calm faults l J p minds w m (Declared k why) own t =
    let K = one_more J (Declared k why) in
    ap (λ (b : Bool). not b)
    (planned_by (has_fault faults k) K k (λ h. (no_other_fails faults l K p minds w t).0 k h) (declared_failed J k why))
entry_calm faults l J p minds w m (StopAsked k) own t = cc own
entry_calm faults l J p minds w m x own t = refl

calm_then : (faults : List PlannedFault) (l : BookLimits) (J : List Entry) (p : Plan) (minds : Machine → Mind)
    (w : Simulated) (m : Machine) (e : Option Entry) → IfSome e (λ x. machine_of_entry x ≡ Some m)
    → CellWithFailing faults l (J ++ option_to_list e) p minds w → IsCalmBeside faults J
    → IsCalmBeside faults (J ++ option_to_list e)
calm_then faults l J p minds w m None own t h =
    ap (λ (K : List Entry). list_any (disturbs_other faults) K) (append-nil J) ∙ h
calm_then faults l J p minds w m (Some x) own t h =
    any_snoc (disturbs_other faults) J x
    ∙ (ap (λ (b : Bool). b || disturbs_other faults x) h ∙ entry_calm faults l J p minds w m x own t)

-- WHAT HOLDS AT A MOMENT

pub record Held (T : Terms) (faults : List PlannedFault) (x : Moment) : Type 0 where
  pub booked : IsBookedBeside faults T.limits x.now.journal T.plan (at x.now.minds) x.world
  pub unscripted : x.desk.lines ≡ []

other_minds : (faults : List PlannedFault) (l : BookLimits) (J : List Entry) (p : Plan) (minds others : Machine → Mind)
    (w : Simulated) → ((n : Machine) → minds n ≡ others n) → CellWithFailing faults l J p minds w
    → CellWithFailing faults l J p others w
other_minds faults l J p minds others w h t =
    record {
      legal = t.legal;
      fair = t.fair;
      unasked = t.unasked;
      switches = λ n b. subst (λ (x : Mind). IsAsBooked J p n x w ⊎ Fails faults J p n x w) (h n) (t.switches n b);
      belts = λ n b. subst (λ (x : Mind). BeltAsBooked J p n x w) (h n) (t.belts n b);
      stations = t.stations;
    }

-- a turn
abbrev Then : Terms → List PlannedFault → Machine → Option Entry → Moment → Type 0
Then T faults m e x =
    IsBookedBeside faults T.limits (x.now.journal ++ option_to_list e) T.plan
    (at (put x.now.minds m (mind_with faults x.now.journal m T.plan (at x.now.minds m) x.world e)))
    (after_turn_with faults x.world m e)

turn_held : (T : Terms) (faults : List PlannedFault) (m : Machine) (e : Option Entry) (x : Moment)
    → AllLast faults → Held T faults x
    → IsDecided T.limits x.now.journal m T.plan (at x.now.minds m) (shown x.world m) e
    → IfSome e (λ y. first_of T.limits x.now.journal y ≡ None) → Then T faults m e x
turn_held T faults m e x are h d free =
    let J = x.now.journal in let minds = at x.now.minds in let w = x.world in
    let l = T.limits in let p = T.plan in
    let own = decided_owned l J m p (minds m) (shown w m) e h.booked.cell.legal d in
    let y = failing_kept faults l J p minds w m e are h.booked.cell
    (record { decided = d; allowed = free; own = own }) in
    let s = mind_with faults J m p (minds m) w e in
    let cell = other_minds faults l (J ++ option_to_list e) p (with_mind m s minds) (at (put x.now.minds m s))
    (after_turn_with faults w m e) (λ n. mind_put x.now.minds m n s) y.0 in
    record {
      cell = cell;
      calm = calm_then faults l J p (at (put x.now.minds m s)) (after_turn_with faults w m e) m e own cell
          h.booked.calm;
      collisions = y.1 ∙ h.booked.collisions;
    }

-- without a script the operator does nothing
serves_none : (T : Terms) (faults : List PlannedFault) (x : Moment) (o : Option Action) → o ≡ None → Held T faults x
    → Held T faults (served x o)
serves_none T faults x None h t = record { booked = t.booked; unscripted = t.unscripted }
serves_none T faults x (Some y) h t = cc h

nothing_due : (lines : List Line) (h : History) → lines ≡ [] → next_of lines h ≡ None
nothing_due lines h e = ap (λ (ls : List Line). next_of ls h) e

next_held : (T : Terms) (faults : List PlannedFault) (q : Point) (x : Moment) → AllLast faults
    → is_ordinary q ≡ true → MayGoOn T q x → Held T faults x → Held T faults (next_at T faults q x)
next_held T faults Between x are o may h = record { booked = h.booked; unscripted = h.unscripted }
next_held T faults (Noting n) x are o may h = record { booked = h.booked; unscripted = h.unscripted }
next_held T faults (Turning (m ∷ rest)) x are o (e, d, free) h =
    record {
      booked = subst (λ (y : Option Entry). Then T faults m y x)
          (decided_is T.limits T.plan m (shown x.world m) x.now e d) (turn_held T faults m e x are h d free);
      unscripted = h.unscripted;
    }
next_held T faults (Turning []) x are o may h =
    serves_none T faults x (next_of x.desk.lines (record { limits = T.limits; entries = x.now.journal }))
    (nothing_due x.desk.lines (record { limits = T.limits; entries = x.now.journal }) h.unscripted) h
next_held T faults (Serving n) x are o may h = record { booked = h.booked; unscripted = h.unscripted }
next_held T faults Closing x are o may h =
    record {
      booked = record {
        cell = failing_round_kept faults T.limits x.now.journal T.plan (at x.now.minds) x.world h.booked.cell;
        calm = h.booked.calm;
        collisions = round_collisions x.world ∙ h.booked.collisions;
      };
      unscripted = h.unscripted;
    }
next_held T faults q x are o may h = cc o

-- THE RUN

pub record HeldAt (T : Terms) (faults : List PlannedFault) (s : Stand SimCell Unkept) : Type 0 where
  pub ordinary : IsOrdinary faults s
  pub held : Held T faults (moment_of s)

leads_held : (T : Terms) (faults : List PlannedFault) (s t : Stand SimCell Unkept) → AllLast faults
    → HeldAt T faults s → Leads AnswersSo AllKept T s t → HeldAt T faults t
leads_held T faults s _ are h stays = h
leads_held T faults s u are h (goes {t = t} before move) =
    let was = leads_held T faults s t are h before in
    let f = move_follows T faults t u was.ordinary move in
    record {
      ordinary = f.ordinary;
      held = subst (λ (x : Moment). Held T faults x) (sym f.is)
          (next_held T faults t.place.point (moment_of t) are was.ordinary.point f.may was.held);
    }

first_held : (T : Terms) (ds : Durations) (faults : List PlannedFault) (k : Unkept) → Allows T.plan ds
    → HeldAt T faults (start (opened_with T.plan ds faults) k [] [] None)
first_held T ds faults k fair =
    let w = (opened_with T.plan ds faults).world in
    let cell = cell_opening T.limits T.plan ds fair in
    record {
      ordinary = starts_ordinary (opened_with T.plan ds faults) k [] [];
      held = record {
        booked = record {
          cell = other_minds faults T.limits [] T.plan (λ m. first_mind [] m) (at (each (λ m. first_mind [] m))) w
              (each_at (λ m. first_mind [] m))
              (none_failed_yet faults T.limits [] T.plan (λ m. first_mind [] m) w cell);
          calm = refl;
          collisions = refl;
        };
        unscripted = refl;
      };
    }

pub come_with : (T : Terms) (ds : Durations) (faults : List PlannedFault) (k : Unkept)
    (s : Stand SimCell Unkept) → AllLast faults → Allows T.plan ds
    → Leads AnswersSo AllKept T (start (opened_with T.plan ds faults) k [] [] None) s → HeldAt T faults s
come_with T ds faults k s are fair leads =
    leads_held T faults (start (opened_with T.plan ds faults) k [] [] None) s are
    (first_held T ds faults k fair) leads

pub run_with_failing : RunWithFailing
run_with_failing T ds faults s are fair (k, leads) =
    (come_with T ds faults k s are fair leads).held.booked

-- THE END

pub at_stand : (T : Terms) (faults : List PlannedFault) (t : Stand SimCell Unkept) (new : SimCell)
    (j : Unkept) (J : List Entry) → HeldAt T faults t → Has t new j J
    → IsBookedBeside faults T.limits J T.plan (at t.now.minds) new.world
at_stand T faults t new j J h (cell, keeper, journal) =
    subst (λ (x : List Entry). IsBookedBeside faults T.limits x T.plan (at t.now.minds) new.world) journal
    (subst (λ (x : SimCell). IsBookedBeside faults T.limits t.now.journal T.plan (at t.now.minds) x.world) cell
    h.held.booked)

ended : (T : Terms) (faults : List PlannedFault) (s : Stand SimCell Unkept) (h : Halt) (new : SimCell)
    (j : Unkept) (J : List Entry) → ((t : Stand SimCell Unkept) → Leads AnswersSo AllKept T s t → HeldAt T faults t)
    → Halts AnswersSo AllKept T s h new j J → end_of h ≢ end.Memory → end_of h ≢ end.Full
    → (minds : Machine → Mind) × IsBookedBeside faults T.limits J T.plan minds new.world
ended T faults s h new j J c (breaks t leads here has) memory full =
    (at t.now.minds, at_stand T faults t new j J (c t leads) has)
ended T faults s h new j J c (lacks t leads is unbooked has) memory full = absurd (memory (ap end_of is))
ended T faults s h new j J c (fills t leads is away has) memory full = absurd (full (ap end_of is))
ended T faults s h new j J c (comes_to_rest t e leads is rest has) memory full =
    (at t.now.minds, at_stand T faults t new j J (c t leads) has)
ended T faults s h new j J c (tires t leads is here rounds has) memory full =
    (at t.now.minds, at_stand T faults t new j J (c t leads) has)

-- a reading counts no collision
fails_counts : (J : List Entry) (p : Plan) (a : Axis) (s : Mind) (w : Simulated) → has_belt (machine_of_axis a) ≡ false
    → FailsAt J p a s w → (after_reading w (machine_of_axis a)).collisions ≡ w.collisions
fails_counts J p a s w b (inl t) = (sick_reads J p a s w t.goes.switched.switches t).collisions
fails_counts J p a s w b (inr (inl t)) = (lost_reads J a s w (no_belt a (machine_of_axis a) refl b) t).collisions
fails_counts J p a s w b (inr (inr t)) =
    ap (λ (v : Simulated). v.collisions) (read_still (machine_of_axis a) w b
    (λ c e. ((t.halted c e).still, (t.halted c e).read)))

may_fail_counts : (faults : List PlannedFault) (J : List Entry) (p : Plan) (m : Machine) (s : Mind) (w : Simulated)
    → has_belt m ≡ false → IsAsBooked J p m s w ⊎ Fails faults J p m s w
    → (after_reading w m).collisions ≡ w.collisions
may_fail_counts faults J p m s w b (inl t) = leaves_collisions J p m s.axis w b t.tied
may_fail_counts faults J p m s w b (inr (a, of, planned, t)) =
    subst (λ (n : Machine). has_belt n ≡ false → (after_reading w n).collisions ≡ w.collisions) of
    (λ c. fails_counts J p a s w c t) b

read_by : (faults : List PlannedFault) (l : BookLimits) (J : List Entry) (p : Plan) (minds : Machine → Mind)
    (w : Simulated) (m : Machine) (b : Bool) → has_belt m ≡ b → CellWithFailing faults l J p minds w
    → (after_reading w m).collisions ≡ w.collisions
read_by faults l J p minds w m true h t = read_counts J p m (minds m).axis w h (t.belts m h).tied
read_by faults l J p minds w m false h t = may_fail_counts faults J p m (minds m) w h (t.switches m h)

read_clear : (T : Terms) (faults : List PlannedFault) (t : Stand SimCell Unkept) (new : SimCell)
    (m : Machine) (r : Option Reading) → HeldAt T faults t → AnswersSo t.cell new (Shown m r)
    → new.world.collisions ≡ 0
read_clear T faults t new m r h told =
    let y = h.held.booked in
    ap (λ (w : Simulated). w.collisions) told.1.1
    ∙ (read_by faults T.limits t.now.journal T.plan (at t.now.minds) t.cell.world m (has_belt m) refl y.cell
    ∙ y.collisions)

unbooked_clear : (T : Terms) (faults : List PlannedFault) (t : Stand SimCell Unkept) (new : SimCell)
    → HeldAt T faults t → Unbooked AnswersSo T.limits t new → new.world.collisions ≡ 0
unbooked_clear T faults t new h (noted n done here same) =
    absurd (not_ordinary t.place.point (Noted n done) here h.ordinary.point refl)
unbooked_clear T faults t new h (reading m rest r here told) = read_clear T faults t new m r h told
unbooked_clear T faults t new h (act e due his hands) =
    let y = h.held.booked in
    ap (λ (w : Simulated). w.collisions) (hands_done (act_of e) t.cell new hands).world
    ∙ (hand_counts (act_of e) t.cell.world
    (plain_with faults T.limits t.now.journal T.plan (at t.now.minds) t.cell.world y.cell) ∙ y.collisions)

abbrev Clear : List PlannedFault → SimCell → List Entry → Type 0
Clear faults new J = (new.world.collisions ≡ 0) × IsCalmBeside faults J

stand_clear : (T : Terms) (faults : List PlannedFault) (t : Stand SimCell Unkept) (new : SimCell)
    (j : Unkept) (J : List Entry) → HeldAt T faults t → Has t new j J → Clear faults new J
stand_clear T faults t new j J h has =
    let y = at_stand T faults t new j J h has in (y.collisions, y.calm)

calm_there : (T : Terms) (faults : List PlannedFault) (t : Stand SimCell Unkept) (j : Unkept)
    (J : List Entry) → HeldAt T faults t → Has t t.cell j J → IsCalmBeside faults J
calm_there T faults t j J h has = (at_stand T faults t t.cell j J h has).calm

clear : (T : Terms) (faults : List PlannedFault) (s : Stand SimCell Unkept) (h : Halt) (new : SimCell)
    (j : Unkept) (J : List Entry) → ((t : Stand SimCell Unkept) → Leads AnswersSo AllKept T s t → HeldAt T faults t)
    → Halts AnswersSo AllKept T s h new j J → Clear faults new J
clear T faults s h new j J c (breaks t leads here has) = stand_clear T faults t new j J (c t leads) has
clear T faults s h new j J c (lacks t leads is unbooked has) =
    (unbooked_clear T faults t new (c t leads) unbooked, calm_there T faults t j J (c t leads) has)
clear T faults s h new j J c (fills t leads is away has) = (
  read_clear T faults t new away.machine away.reading (c t leads) away.shown,
  calm_there T faults t j J (c t leads) has,
)
clear T faults s h new j J c (comes_to_rest t e leads is rest has) =
    stand_clear T faults t new j J (c t leads) has
clear T faults s h new j J c (tires t leads is here rounds has) =
    stand_clear T faults t new j J (c t leads) has

pub end_with_failing : EndWithFailing
end_with_failing l p ds faults new J e are fair (h, k, j, is, halts) memory full =
    let T = terms_of l p false in
    ended T faults (start (opened_with p ds faults) k [] [] None) h new j J
    (λ t leads. come_with T ds faults k t are fair leads) halts (λ i. memory (is ∙ i)) (λ i. full (is ∙ i))

pub none_collides_beside : NoneCollidesBeside
none_collides_beside l p ds faults new J e are fair (h, k, j, is, halts) =
    let T = terms_of l p false in
    clear T faults (start (opened_with p ds faults) k [] [] None) h new j J
    (λ t leads. come_with T ds faults k t are fair leads) halts

-- THE TEXTS

simulated : (i : Inputs) (ds : Durations) (faults : List PlannedFault) (J : List Entry) (e : End)
    → i.durations ≡ ds → i.faults ≡ faults → i.script ≡ [] → AllLast faults
    → Allows i.plan ds → Simulates i (opening_of i) [] J e → LeavesBeside ds faults (kept J e i.plan)
simulated i ds faults J e long same quiet are fair (left, sim) =
    let p = i.plan in let l = limits_of p in
    let ran = ran_so i ds faults [] J e left long same quiet sim.ran in
    let clear = none_collides_beside l p ds faults left J e are fair ran in
    record {
      left = left;
      ran = ran;
      collisions = clear.0;
      calm = clear.1;
      booked = λ memory full. end_with_failing l p ds faults left J e are fair ran memory full;
    }

pub faulty_text_is_world : FaultyTextIsWorld
faulty_text_is_world ds planned settings faults operator journal old new status run are these quiet
    (Ok i, read, writes) =
    written (λ (r : Kept). Allows r.plan ds → LeavesBeside ds planned r) i journal old new status run
    (λ J e leads fair. simulated i ds planned J e read.1
    (same_read (lines_of next_fault (rows_of faults)) i.faults planned read.0.1 these)
    (same_read (lines_of line_of (rows_of operator)) i.script [] read.0.2 quiet) are fair leads) writes
faulty_text_is_world ds planned settings faults operator journal old new status run are these quiet
    (Err e, read, writes) =
    subst (λ (r : Option Kept). IfSome r (λ (x : Kept). Allows x.plan ds → LeavesBeside ds planned x))
    (sym writes.1) tt

pub faulty_run_is_world : FaultyRunIsWorld
faulty_run_is_world planned settings faults operator journal old new status run are these quiet
    (Ok i, read, writes) =
    written (LeavesBeside one_each planned) i journal old new status run
    (λ J e leads. simulated i one_each planned J e read.1
    (same_read (lines_of next_fault (rows_of faults)) i.faults planned read.0.1 these)
    (same_read (lines_of line_of (rows_of operator)) i.script [] read.0.2 quiet) are
    (settings_are_fair settings i.plan read.0.0) leads) writes
faulty_run_is_world planned settings faults operator journal old new status run are these quiet
    (Err e, read, writes) =
    subst (λ (r : Option Kept). IfSome r (LeavesBeside one_each planned)) (sym writes.1) tt
