-- What holds of runs in rounds in which nothing fails, or one press may
use Rattle.std.proofs.Common.{◌≡◌, ◌≤◌, ◌<◌, ℕ, ◌+◌, Bool, true, false, ◌||◌, List, [], ◌∷◌, ◌++◌, Option, Some, None}
use Rattle.std.proofs.Common.{length, refl, sym, ap, subst, ◌∙◌, arith}
use Rattle.std.specs.Prelude.{map, nat_le, nat_lt}
use Rattle.std.specs.List.{list_any}
use Rattle.std.proofs.lemmas.Bool.Decides.{nat_tests}
use Rattle.cell_types.specs.declared.words.Machine.{Machine}
use Rattle.cell_types.specs.declared.words.Machine.TheVariants as machine
use Rattle.cell_types.specs.declared.words.Entry.{Entry}
use Rattle.cell_types.specs.After.{after}
use Rattle.cell_types.specs.Same.{same_machine}
use Rattle.cell_rules.specs.Views.{count_of}
use Rattle.cell_rules.specs.declared.limits.BookLimits.{BookLimits}
use Rattle.cell_rules.proofs.Safe.Told.{told_when_legal}
use Rattle.cell_ports.specs.declared.plan.Plan.{Plan}
use Rattle.cell_useful.specs.Moves.{is_finished}
use Rattle.cell_progress.specs.Orders.{IsOnePress, cell_of}
use Rattle.cell_turns.specs.declared.schedule.Step.{Step}
use Rattle.cell_turns.specs.declared.schedule.Step.TheVariants.{Hand, Turn}
use Rattle.cell_turns.specs.Schedules.{now}
use Rattle.cell_turns.specs.Schedules.Leads.{stays}
use Rattle.cell_turns.proofs.Joined.{leads_join}
use Rattle.cell_workers.specs.declared.ends.End.{End}
use Rattle.cell_workers.specs.declared.ends.End.TheVariants as end
use Rattle.operator_desk.specs.declared.line.Line.{Line}
use Rattle.cell_runs.specs.Rounds.{ComesToRest, IsRun, Place, Rounds, machines, place, start, turn_of, turns_of}
use Rattle.cell_runs.specs.Rounds.Rounds.{none as no_round, more as one_more}
use Rattle.cell_runs.proofs.Schedules.{Led, operates_lead, run_leads, then_led}
use Rattle.cell_calm.specs.Calm.{HasRoom, HasRoomToFail, fails_only, is_calm, none_may}
use Rattle.cell_calm.specs.Healthy.{AllForged}
use Rattle.cell_calm.proofs.Counted.{all_forged}
use Rattle.cell_calm.proofs.Finished.{delivered_done, done_delivered, finished}
use Rattle.cell_calm.proofs.Nothing.{Rests}
use Rattle.cell_calm.proofs.Orders.{failing_delivered, none_one, order_delivered}
use Rattle.cell_calm.proofs.Possible.{tame_led}
use Rattle.cell_calm.proofs.Refused.{calm_room, failing_room, never_refused}
use Rattle.cell_calm.proofs.Resting.{Paused, grows, is_turn, resting, unchanged}
use Rattle.cell_calm.proofs.Tame.{Calm, Tame}

rounds_led : (l : BookLimits) (p : Plan) (s t : Place) (n : ℕ) → Rounds l p s n t → Led l p s.now t.now
rounds_led l p s _ _ no_round = ([], 0, stays)
rounds_led l p s u _ (one_more {n = n} {t = t} h r) =
    then_led l p s.now t.now u.now (rounds_led l p s t n h)
    (then_led l p t.now r.turned u.now (r.steps, r.failed, r.leads)
    (operates_lead l p (place r.turned t.lines t.lost) u r.operates))

-- each machine takes a turn in a round

abbrev is_for : Machine → Option Machine → Bool
is_for m (Some n) = same_machine n m
is_for m None = false

turn_among : (m : Machine) (steps : List Step) → list_any (is_turn m) steps ≡ list_any (is_for m) (map turn_of steps)
turn_among m [] = refl
turn_among m (Turn n r ∷ xs) = ap (λ b. same_machine n m || b) (turn_among m xs)
turn_among m (Hand e ∷ xs) = turn_among m xs

each_for : (m : Machine) → list_any (is_for m) (turns_of machines) ≡ true
each_for machine.Feed = refl
each_for machine.Table = refl
each_for machine.Robot = refl
each_for machine.Press1 = refl
each_for machine.Press2 = refl
each_for machine.Deposit = refl

module _ (may : Machine → Bool) (l : BookLimits) (p : Plan)
    (room : (J : List Entry) → Tame may l p.plates J → nat_le l.entries (length J) ≡ false)
    (plates : p.plates ≤ l.plates) (script : List Line) (J : List Entry) (tame : fails_only may J ≡ true) where
  -- the journal of a run
  run_tame : (e : End) → IsRun l p script J e → Tame may l p.plates J
  run_tame e r =
      let h = run_leads l p script J e r in
      tame_led may l p (start script).now h.0 h.1 h.2 (now J h.3) refl h.4 tame

  pub full_never : IsRun l p script J end.Full → ⊥
  full_never r =
      let last = r.ended.last in
      let a = rounds_led l p (start script) last r.ended.rounds r.ended.led in
      let h = r.ended.ends in
      let b = h.2 in
      let none = never_refused may l p room plates (start script).now (a.0 ++ b.steps) (0 + h.0) (a.1 + b.failed)
      (now J b.minds) refl
      (leads_join l p (start script).now last.now (now J b.minds) a.0 b.steps 0 h.0 a.1 b.failed a.2 b.leads) tame in
      none_refused h.0 h.1 none
    where
      none_refused : (n : ℕ) → 0 < n → 0 + n ≡ 0 → ⊥
      none_refused n h g = omega arith

  rests : (s : Place) → Tame may l p.plates J → ComesToRest l p s J → Rests p.plates (after J)
  rests s c h =
      let round = h.round in
      let by_hand = operates_lead l p (place round.turned s.lines s.lost) h.last round.operates in
      let long = grows l p round.turned by_hand.0 0 by_hand.1 h.last.now by_hand.2 in
      let kept = unchanged l p s.now round.steps 0 round.failed round.turned round.leads refl
      (within (length round.turned.journal) (length h.last.now.journal) (length J) (length s.now.journal) long
      (ap length h.journal) (ap length h.unchanged)) in
      resting may l p J c h.last.now.minds h.idle (room J c)
      (λ m. subst (λ (K : List Entry). Paused l p K m) (sym h.unchanged)
      (kept.paused m (turn_among m round.steps ∙ ap (list_any (is_for m)) round.turns ∙ each_for m)))
    where
      within : (a b d e : ℕ) → a ≤ b → b ≡ d → d ≡ e → a ≤ e
      within a b d e h i j = omega arith

  pub done_forged : IsRun l p script J end.Finished → AllForged p.plates J
  done_forged r =
      let c = run_tame end.Finished r in let done = r.ended.ends.1 in
      record {
        admitted = done.admitted;
        forged = all_forged may l p.plates J c done;
        delivered = (told_when_legal l J c.legal).delivered ∙ done_delivered may l p.plates J c done;
      }

  -- where one press may fail at most
  module _ (one : IsOnePress may) where
    comes_to_end : (s : Place) → Tame may l p.plates J → ComesToRest l p s J
        → is_finished p.plates false (cell_of (after J)) ≡ true
    comes_to_end s c h = finished may one l p.plates J p.plates_in_range.1 c (rests s c h)

    ends_done : IsRun l p script J end.Finished
        → (is_finished p.plates false (cell_of (after J)) ≡ true) × AllForged p.plates J
    ends_done r = (comes_to_end r.ended.last (run_tame end.Finished r) r.ended.ends.0, done_forged r)

module _ (l : BookLimits) (p : Plan) (room : HasRoom l p.plates)
    (script : List Line) (J : List Entry) (calm : is_calm J ≡ true) where
  pub run_calm : (e : End) → IsRun l p script J e → Calm l p.plates J
  run_calm e r = run_tame none_may l p (calm_room l p room) room.plates script J calm e r

  pub never_full : IsRun l p script J end.Full → ⊥
  never_full r = full_never none_may l p (calm_room l p room) room.plates script J calm r

  pub never_stalled : IsRun l p script J end.Stalled → ⊥
  never_stalled r =
      let c = run_calm end.Stalled r in
      let h = r.ended.ends in
      h.1 (delivered_done none_may l p.plates J c (order_delivered p.plates J p.plates_in_range.1 c.possible
      (comes_to_end none_may l p (calm_room l p room) room.plates script J calm none_one r.ended.last c h.0)))

  pub finished_whole : IsRun l p script J end.Finished
      → (is_finished p.plates false (cell_of (after J)) ≡ true) × AllForged p.plates J
  finished_whole r = ends_done none_may l p (calm_room l p room) room.plates script J calm none_one r

-- all but one
but_one : (n d : ℕ) → n ≤ d + 1 → d ≤ n → (d ≡ n → ⊥) → d + 1 ≡ n
but_one n d h g never = go (nat_lt d n) refl
  where
    go : (b : Bool) → nat_lt d n ≡ b → d + 1 ≡ n
    go true e = grind (arith, nat_tests)
    go false e = absurd (never (grind (arith, nat_tests)))

module _ (may : Machine → Bool) (one : IsOnePress may) (l : BookLimits) (p : Plan) (room : HasRoomToFail l p.plates)
    (script : List Line) (J : List Entry) (tame : fails_only may J ≡ true) where
  abbrev within : (K : List Entry) → Tame may l p.plates K → nat_le l.entries (length K) ≡ false
  within = failing_room may l p one room

  pub failing_never_full : IsRun l p script J end.Full → ⊥
  failing_never_full r = full_never may l p within room.plates script J tame r

  pub failing_finished : IsRun l p script J end.Finished
      → (is_finished p.plates false (cell_of (after J)) ≡ true) × AllForged p.plates J
  failing_finished r = ends_done may l p within room.plates script J tame one r

  -- where one press may fail, a run that stalls has delivered all plates but one
  pub failing_stalled : IsRun l p script J end.Stalled
      → (is_finished p.plates false (cell_of (after J)) ≡ true) × ((count_of J).delivered + 1 ≡ p.plates)
  failing_stalled r =
      let c = run_tame may l p within room.plates script J tame end.Stalled r in
      let h = r.ended.ends in
      let f = comes_to_end may l p within room.plates script J tame one r.ended.last c h.0 in
      let d = failing_delivered may one p.plates J p.plates_in_range.1 c.possible f in
      let left = but_one p.plates (after J).delivered d.0 d.1 (λ all. h.1 (delivered_done may l p.plates J c all)) in
      (f, ap (λ (n : ℕ). n + 1) (told_when_legal l J c.legal).delivered ∙ left)
