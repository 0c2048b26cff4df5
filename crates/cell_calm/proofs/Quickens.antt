-- A turn of a cell in which machines may fail that books nothing leaves less due of its machine, or finds it idle
use Rattle.std.proofs.Common.{◌≡◌, ◌≤◌, ◌+◌, ◌⊎◌, inl, inr, ℕ, Bool, true, false, not, Option, Some, None}
use Rattle.std.proofs.Common.{List, length, refl, sym, ap, ◌∙◌, subst, append-nil, arith}
use Rattle.std.specs.Prelude.{nat_le}
use Rattle.cell_types.specs.declared.words.Axis.{Axis}
use Rattle.cell_types.specs.declared.words.Cause.TheVariants as cause
use Rattle.cell_types.specs.declared.words.Entry.{Entry}
use Rattle.cell_types.specs.declared.words.Entry.TheVariants.{Declared}
use Rattle.cell_types.specs.declared.words.Machine.{Machine}
use Rattle.cell_types.specs.declared.words.Machine.TheVariants as machine
use Rattle.cell_types.specs.declared.words.Pose.{Pose}
use Rattle.cell_types.specs.declared.words.Station.TheVariants as station
use Rattle.cell_types.specs.Cell.{machine_of_axis}
use Rattle.cell_rules.specs.Legal.{legal}
use Rattle.cell_rules.specs.Views.{going_of}
use Rattle.cell_rules.specs.declared.limits.BookLimits.{BookLimits}
use Rattle.cell_diagnosis.specs.Readings.{bit}
use Rattle.cell_diagnosis.specs.declared.reading.Reading.{Reading}
use Rattle.cell_diagnosis.specs.declared.verdict.Verdict.TheVariants.{Pending}
use Rattle.cell_diagnosis.specs.RestFacts.{Noted}
use Rattle.cell_diagnosis.specs.RestRules.{rest}
use Rattle.cell_ports.specs.declared.plan.Plan.{Plan}
use Rattle.cell_turns.specs.Minds.{Mind}
use Rattle.cell_turns.specs.Moving.{limits_of, motion_of_machine}
use Rattle.cell_turns.specs.Signs.{shows_sign}
use Rattle.cell_turns.specs.Turns.{IsDecided, mind_after}
use Rattle.cell_turns.specs.Visits.{is_unvisited}
use Rattle.cell_workers.specs.Ends.{is_lit}
use Rattle.cell_sim.specs.Parts.{axis_at}
use Rattle.cell_sim.specs.Readings.{shown}
use Rattle.cell_sim.specs.Simulated.{Simulated}
use Rattle.cell_sim.specs.declared.fault.PlannedFault.{PlannedFault}
use Rattle.cell_world.specs.Agreeing.{has_belt}
use Rattle.cell_world.specs.Belts.{BeltRests, Conveying, belt_of, machine_of, name_of, to_deposit_end, to_feed_end}
use Rattle.cell_world.specs.Belts.{to_table}
use Rattle.cell_world.specs.BeltTurning.{BeltAsBooked, BeltCarries, IsBeltTied, StationsAsBooked, way_of}
use Rattle.cell_world.specs.FailCell.{AllLast, CellWithFailing, Fails, FailsAt, has_fault}
use Rattle.cell_world.specs.Failing.{IsDeclared, StaysSick}
use Rattle.cell_world.specs.Switched.{with_mind}
use Rattle.cell_world.specs.Tie.{IsTied, MachineGoes, PlatesBooked}
use Rattle.cell_world.specs.Tied.{Given, further_of, motion_by}
use Rattle.cell_world.specs.Turning.{IsAsBooked, after_turn}
use Rattle.cell_world.specs.Starting.{MachineRests, StandsAs, further_in}
use Rattle.cell_world.proofs.Any.{moves_as}
use Rattle.cell_world.proofs.Belts.{moves_as as belt_moves_as}
use Rattle.cell_world.proofs.BeltReads.{no_motion as belt_still, tied_agrees, way_is}
use Rattle.cell_world.proofs.FailCell.{failing_kept}
use Rattle.cell_world.proofs.FailStarts.{lost_turns}
use Rattle.cell_world.proofs.Failing.{sick_turns}
use Rattle.cell_world.proofs.Long.{further_then, reading_long}
use Rattle.cell_world.proofs.Machines.{no_belt, no_motion, tied_stands}
use Rattle.cell_world.proofs.Shows.{reading_agrees}
use Rattle.cell_world.proofs.Steps.{each_axis}
use Rattle.cell_world.proofs.Turns.{and_false, no_sign, turn_keeps}
use Rattle.cell_calm.proofs.Noting.{Quickens, failed_quickens, going_quickens, idle_quickens, lit_quickens}
use Rattle.cell_calm.proofs.Noting.{moving_quickens, quiet_next, rest_next}
use Rattle.cell_calm.proofs.Tame.{Tame}
use Rattle.cell_calm.proofs.Signs.{IsShown, sign_shown}

-- what goes doesn't rest
both_ways : {X : Type 0} (o : Option X) (x : X) → o ≡ None → o ≡ Some x → ⊥
both_ways o x h g = let c : None ≡ Some x = sym h ∙ g in cc c

-- A MACHINE WITH SWITCHES

its_plates : (J : List Entry) (p : Plan) (m : Machine) (w : Simulated) → has_belt m ≡ false → StationsAsBooked J p w
    → PlatesBooked J m w
its_plates J p m w b t station.FeedIn of = let c : true ≡ false = ap has_belt of ∙ b in cc c
its_plates J p m w b t station.DepEnd of = let c : true ≡ false = ap has_belt of ∙ b in cc c
its_plates J p m w b t s of = t.within s refl

unlit : (J : List Entry) (m : Machine) → has_belt m ≡ false → is_lit J m ≡ false
unlit J machine.Feed b = cc b
unlit J machine.Deposit b = cc b
unlit J m b = refl

its_motion : (J : List Entry) (p : Plan) (m : Machine) (s : Mind) (w : Simulated) → has_belt m ≡ false
    → (t : MachineGoes J p m s.axis w) → motion_of_machine J p m ≡ Some (motion_by J p t.mover t.to)
its_motion J p m s w b t =
    subst (λ (n : Machine). motion_of_machine J p n ≡ Some (motion_by J p t.mover t.to)) t.of
    (moves_as J p t.mover t.to w (no_belt t.mover m t.of b) t.goes.booked t.goes.others)

-- a light that isn't green lets no sign be seen
unsigned : (J : List Entry) (m : Machine) (r : Option Reading) → is_lit J m ≡ false → shows_sign J m r ≡ false
unsigned J machine.Feed None h = refl
unsigned J machine.Feed (Some r) h = rw h (and_false (bit r.presence 0))
unsigned J machine.Deposit None h = refl
unsigned J machine.Deposit (Some r) h = rw h (and_false (not (bit r.presence 1)))
unsigned J m r h = refl

module _ (J : List Entry) (p : Plan) (m : Machine) (s : Mind) (w v : Simulated) (most : ℕ)
    (bound : (a : Axis) (to : Pose) → further_in v a to + 3 ≤ most) where
  abbrev next : Mind
  next = mind_after J m p s (shown w m) None

  at_most : (g : Given) (a : Axis) (to : Pose) → further_of g ≡ further_in v a to → further_of g + 3 ≤ most
  at_most g a to long = subst (λ (n : ℕ). n + 3 ≤ most) (sym long) (bound a to)

  switch_goes : has_belt m ≡ false → IsAsBooked J p m s w → MachineGoes J p m s.axis w
      → IsTied J p m next.axis v → Quickens most J p m s next
  switch_goes b h t (inl rests) =
      absurd (both_ways (going_of J t.mover) t.to (rests.rest t.mover t.of).booked t.goes.booked)
  switch_goes b h t (inr u) =
      going_quickens most J p m s (shown w m) (motion_by J p t.mover t.to) (motion_by J p u.mover u.to) t.given u.given
      h.healthy h.was_healthy (its_motion J p m s w b t) t.goes.noted u.goes.noted
      (at_most u.given u.mover u.to u.long)

  switch_rests : has_belt m ≡ false → IsAsBooked J p m s w → MachineRests J m s.axis w → StationsAsBooked J p w
      → Quickens most J p m s next
  switch_rests b h t st =
      let r = shown w m in
      idle_quickens most J p m s next h.healthy (no_motion J p m w b t.rest) (unlit J m b)
      (quiet_next J m p s r h.was_healthy
      (reading_agrees J p m s.axis w (is_unvisited J m s.memory) b (inl t) (its_plates J p m w b st))
      (no_sign J m r b))

  pub switch_quickens : has_belt m ≡ false → IsAsBooked J p m s w → StationsAsBooked J p w → IsAsBooked J p m next v
      → Quickens most J p m s next
  switch_quickens b t st u = by_tie t.tied
    where
      by_tie : IsTied J p m s.axis w → Quickens most J p m s next
      by_tie (inl rests) = switch_rests b t rests st
      by_tie (inr goes) = switch_goes b t goes u.tied

  -- A BELT'S MACHINE

  belt_motion : (t : BeltCarries J p m s.axis w)
      → motion_of_machine J p m ≡ Some (motion_by J p (belt_of t.way) (name_of t.way))
  belt_motion t =
      subst (λ (n : Machine). motion_of_machine J p n ≡ Some (motion_by J p (belt_of t.way) (name_of t.way))) t.of
      (belt_moves_as J p t.way t.goes.booked)

  same_belt : (c : Conveying) → machine_of c ≡ m → belt_of (way_of m) ≡ belt_of c
  same_belt to_feed_end of = ap (λ (n : Machine). belt_of (way_of n)) (sym of)
  same_belt to_table of = ap (λ (n : Machine). belt_of (way_of n)) (sym of)
  same_belt to_deposit_end of = ap (λ (n : Machine). belt_of (way_of n)) (sym of)

  belt_goes : BeltAsBooked J p m s w → BeltCarries J p m s.axis w → IsBeltTied J p m next.axis v
      → Quickens most J p m s next
  belt_goes h t (inl rests) =
      absurd (both_ways (going_of J (belt_of t.way)) (name_of t.way)
      (subst (λ (a : Axis). going_of J a ≡ None) (same_belt t.way t.of) rests.booked) t.goes.booked)
  belt_goes h t (inr u) =
      going_quickens most J p m s (shown w m) (motion_by J p (belt_of t.way) (name_of t.way))
      (motion_by J p (belt_of u.way) (name_of u.way)) t.given u.given h.healthy h.was_healthy (belt_motion t)
      t.goes.noted u.goes.noted (at_most u.given (belt_of u.way) (name_of u.way) u.long)

  belt_rests : (lit : Bool) → is_lit J m ≡ lit → has_belt m ≡ true → BeltAsBooked J p m s w
      → BeltRests J (way_of m) s.axis w → StationsAsBooked J p w
      → (lit ≡ true → IsShown J m s (shown w m)) → Quickens most J p m s next
  belt_rests true is b h t st signs =
      let sign = signs refl in
      lit_quickens most J p m s (shown w m) h.healthy h.was_healthy
      (subst (λ (n : Machine). motion_of_machine J p n ≡ None) (way_is m b) (belt_still J p (way_of m) t.booked)) is
      sign.before sign.now
  belt_rests false is b h t st signs =
      let r = shown w m in
      idle_quickens most J p m s next h.healthy
      (subst (λ (n : Machine). motion_of_machine J p n ≡ None) (way_is m b) (belt_still J p (way_of m) t.booked)) is
      (quiet_next J m p s r h.was_healthy
      (tied_agrees J p m s.axis w (is_unvisited J m s.memory) b st (inl t)) (unsigned J m r is))

  pub belt_quickens : has_belt m ≡ true → BeltAsBooked J p m s w → StationsAsBooked J p w → BeltAsBooked J p m next v
      → (BeltRests J (way_of m) s.axis w → is_lit J m ≡ true → IsShown J m s (shown w m)) → Quickens most J p m s next
  belt_quickens b t st u signs = by_tie t.tied
    where
      by_tie : IsBeltTied J p m s.axis w → Quickens most J p m s next
      by_tie (inl rests) = belt_rests (is_lit J m) refl b t rests st (signs rests)
      by_tie (inr goes) = belt_goes t goes u.tied

-- A MACHINE THAT FAILS

-- its axis is sick, and one reading more is noted; its command was lost, and it would be declared failed; or it was
at_quickens : (l : BookLimits) (J : List Entry) (p : Plan) (a : Axis) (s : Mind) (w : Simulated) (most : ℕ)
    → (limits_of p a).limit ≤ most → has_belt (machine_of_axis a) ≡ false → legal l J ≡ true → FailsAt J p a s w
    → IsDecided l J (machine_of_axis a) p s (shown w (machine_of_axis a)) None
    → Quickens most J p (machine_of_axis a) s
    (mind_after J (machine_of_axis a) p s (shown w (machine_of_axis a)) None)
at_quickens l J p a s w most few b law (inl t) d =
    stays (sick_turns l J p a s w None law t d tt).state
  where
    left : Mind
    left = mind_after J (machine_of_axis a) p s (shown w (machine_of_axis a)) None

    stays : StaysSick J p a s w None ⊎ IsDeclared J p a s w None → Quickens most J p (machine_of_axis a) s left
    stays (inl y) =
        let early = y.sick.early in
        moving_quickens most J p (machine_of_axis a) s left (motion_by J p a t.to) t.healthy
        (moves_as J p a t.to w t.goes.switched.switches t.booked t.others) y.grown (omega (arith, early, few))
    stays (inr y) = let no : None ≡ Some (Declared (machine_of_axis a) y.why) = y.entry in cc no
at_quickens l J p a s w most few b law (inr (inl t)) d =
    let no : None ≡ Some (Declared (machine_of_axis a) cause.CommandFault) =
    (lost_turns l J p a s w None (no_belt a (machine_of_axis a) refl b) law t d tt).entry in
    cc no
at_quickens l J p a s w most few b law (inr (inr t)) d =
    failed_quickens most J p (machine_of_axis a) s
    (mind_after J (machine_of_axis a) p s (shown w (machine_of_axis a)) None) t.failed

-- no watch of a machine that may fail waits for more readings
abbrev pub AreBrief : List PlannedFault → Plan → ℕ → Type 0
AreBrief faults p most = (a : Axis) → has_fault faults (machine_of_axis a) ≡ true → (limits_of p a).limit ≤ most

fails_quickens : (faults : List PlannedFault) (l : BookLimits) (J : List Entry) (p : Plan) (m : Machine) (s : Mind)
    (w : Simulated) (most : ℕ) → AreBrief faults p most → has_belt m ≡ false → legal l J ≡ true
    → Fails faults J p m s w → IsDecided l J m p s (shown w m) None
    → Quickens most J p m s (mind_after J m p s (shown w m) None)
fails_quickens faults l J p m s w most brief b law (a, of, planned, t) d =
    subst (λ (n : Machine). has_belt n ≡ false → has_fault faults n ≡ true → IsDecided l J n p s (shown w n) None
    → Quickens most J p n s (mind_after J n p s (shown w n) None)) of
    (λ c h i. at_quickens l J p a s w most (brief a h) c law t i) b planned d

-- THE ROBOT

fails_stand : (J : List Entry) (p : Plan) (a b : Axis) (s : Mind) (w : Simulated) → FailsAt J p a s w
    → machine_of_axis b ≡ machine_of_axis a → StandsAs J b (axis_at w b).pose
fails_stand J p a b s w (inl t) e =
    each_axis (λ (c : Axis). StandsAs J c (axis_at w c).pose) a b t.stands (λ d. inl (t.others b e d).rests.pose)
fails_stand J p a b s w (inr (inl t)) e = (t.halted b e).stands
fails_stand J p a b s w (inr (inr t)) e = (t.halted b e).stands

may_stand : (faults : List PlannedFault) (J : List Entry) (p : Plan) (m : Machine) (s : Mind) (w : Simulated)
    → IsAsBooked J p m s w ⊎ Fails faults J p m s w → (b : Axis) → machine_of_axis b ≡ m
    → StandsAs J b (axis_at w b).pose
may_stand faults J p m s w (inl t) b e = inl (tied_stands J p m s.axis w t.tied b e)
may_stand faults J p m s w (inr (a, of, planned, t)) b e = fails_stand J p a b s w t (e ∙ sym of)

-- A TURN

pub with_same : (m : Machine) (s : Mind) (minds : Machine → Mind) → with_mind m s minds m ≡ s
with_same machine.Feed s minds = refl
with_same machine.Table s minds = refl
with_same machine.Robot s minds = refl
with_same machine.Press1 s minds = refl
with_same machine.Press2 s minds = refl
with_same machine.Deposit s minds = refl

module _ (faults : List PlannedFault) (l : BookLimits) (J : List Entry) (p : Plan) (minds : Machine → Mind)
    (w : Simulated) (m : Machine) (most : ℕ) (are : AllLast faults) (brief : AreBrief faults p most)
    (short : (a : Axis) (to : Pose) → further_in w a to + 3 ≤ most) (t : CellWithFailing faults l J p minds w)
    (decided : IsDecided l J m p (minds m) (shown w m) None) where
  abbrev next_mind : Mind
  next_mind = mind_after J m p (minds m) (shown w m) None

  abbrev seen : Simulated
  seen = after_turn w m None

  bound : (a : Axis) (to : Pose) → further_in seen a to + 3 ≤ most
  bound a to =
      subst (λ (n : ℕ). n + 3 ≤ most) (sym (further_then w seen a to (reading_long w m))) (short a to)

  switch_by : has_belt m ≡ false → IsAsBooked J p m (minds m) w ⊎ Fails faults J p m (minds m) w
      → Quickens most J p m (minds m) next_mind
  switch_by b (inl c) =
      let left = (turn_keeps l J p m (minds m) w None b (record {
        legal = t.legal;
        fair = t.fair;
        as_booked = c;
        plates = λ u h f. t.stations.within u h;
        robot = may_stand faults J p machine.Robot (minds machine.Robot) w (t.switches machine.Robot refl);
      }) decided tt).as_booked in
      switch_quickens J p m (minds m) w seen most bound b c t.stations (rw append-nil at left)
  switch_by b (inr f) = fails_quickens faults l J p m (minds m) w most brief b t.legal f decided

  belt_by : has_belt m ≡ true → Tame (has_fault faults) l p.plates J → nat_le l.entries (length J) ≡ false
      → Quickens most J p m (minds m) next_mind
  belt_by b c room =
      let kept = (failing_kept faults l J p minds w m None are t
      (record { decided = decided; allowed = tt; own = tt })).0 in
      let left : CellWithFailing faults l J p (with_mind m next_mind minds) seen = rw append-nil at kept in
      let after = subst (λ (x : Mind). BeltAsBooked J p m x seen) (with_same m next_mind minds) (left.belts m b) in
      belt_quickens J p m (minds m) w seen most bound b (t.belts m b) t.stations after
      (λ rests lit. sign_shown (has_fault faults) l J p (minds m) w c t.stations room m b (t.belts m b) rests
      (subst (λ (L : List Noted). rest L ≡ Pending)
      (rest_next J m p (minds m) (shown w m) (t.belts m b).was_healthy) after.agreed) decided lit)

  pub quickens : Tame (has_fault faults) l p.plates J → nat_le l.entries (length J) ≡ false
      → Quickens most J p m (minds m) next_mind
  quickens c room = by_belt (has_belt m) refl
    where
      by_belt : (b : Bool) → has_belt m ≡ b → Quickens most J p m (minds m) next_mind
      by_belt false b = switch_by b (t.switches m b)
      by_belt true b = belt_by b c room
