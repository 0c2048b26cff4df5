-- The journal of each run in which only some machines fail is an order of events
use Rattle.std.proofs.Common.{◌≡◌, ℕ, Bool, true, false, not, List, [], ◌∷◌, ◌++◌, Option, Some, None, IfSome}
use Rattle.std.proofs.Common.{length, sym, ap, subst, ◌∙◌, append-nil}
use Rattle.std.specs.Prelude.{nat_le, option_to_list, is_none}
use Rattle.std.specs.List.{Contains}
use Rattle.cell_types.specs.declared.words.Machine.{Machine}
use Rattle.cell_types.specs.declared.words.Actor.TheVariants as actor
use Rattle.cell_types.specs.declared.words.Entry.{Entry}
use Rattle.cell_types.specs.declared.words.Entry.TheVariants.{Declared, Expected, Quarantined, Repaired, StopAsked}
use Rattle.cell_types.specs.After.{Snapshot, after, after_from, opening, step}
use Rattle.cell_types.specs.Cell.{machine_of_station}
use Rattle.cell_types.specs.Entries.{actor_of}
use Rattle.cell_types.proofs.Left.{after_snoc}
use Rattle.cell_rules.specs.First.{first, tests}
use Rattle.cell_rules.specs.Legal.{first_of}
use Rattle.cell_rules.specs.Situations.{Situation, situation_of}
use Rattle.cell_rules.specs.SituationIn.{situation_in}
use Rattle.cell_rules.specs.declared.limits.BookLimits.{BookLimits}
use Rattle.cell_rules.proofs.Lengths.{not_full_law}
use Rattle.cell_rules.proofs.Safe.Bridge.{legal_snoc}
use Rattle.cell_rules.proofs.Safe.Facts.{none_refused}
use Rattle.cell_rules.proofs.Safe.Told.{told_when_legal}
use Rattle.cell_diagnosis.specs.declared.reading.Reading.{Reading}
use Rattle.cell_ports.specs.declared.plan.Plan.{Plan}
use Rattle.cell_progress.specs.Orders.{IsPossible, cell_of, may_after, may_then}
use Rattle.cell_turns.specs.declared.schedule.Step.{Step}
use Rattle.cell_turns.specs.Minds.{Mind}
use Rattle.cell_turns.specs.Schedules.{Leads, Now}
use Rattle.cell_turns.specs.Schedules.Leads.{fails, hands, refuses, spares, stays, turns}
use Rattle.cell_turns.specs.Six.{at}
use Rattle.cell_turns.specs.Turns.{IsDecided}
use Rattle.cell_calm.specs.Calm.{disturbs_but, fails_only, is_calm, none_may, plain, plain_entry}
use Rattle.cell_calm.proofs.Decided.{decided_goes}
use Rattle.cell_calm.proofs.Ends.{Goes}
use Rattle.cell_calm.proofs.Entering.{unserved}
use Rattle.cell_calm.proofs.Orders.{IsOrder}
use Rattle.cell_calm.proofs.Plain.{from_plain, may_snoc, plain_calm, plain_snoc, tame_front}
use Rattle.cell_calm.proofs.Still.{Still, is_of_failure, left_step, still_step}
use Rattle.cell_calm.proofs.Tame.{Tame, may_yet, tame_start}

-- one more entry that can happen
possible_more : (plan : ℕ) (may : Machine → Bool) (s : Snapshot) (es : List Entry) (e : Entry)
    → IsPossible plan false may s es → Contains (unserved (may_then es may) plan (cell_of (after_from s es))) e
    → IsPossible plan false may s (es ++ e ∷ [])
possible_more plan may s [] e p h = (h, tt)
possible_more plan may s (x ∷ es) e p h = (p.0, possible_more plan (may_after x may) (step x s) es e p.1 h)

not_both : (b : Bool) → b ≡ false → not b ≡ false → ⊥
not_both b h g = cc

module _ (may : Machine → Bool) (l : BookLimits) where
  tame_more : (plan : ℕ) (J : List Entry) (e : Entry) → first_of l J e ≡ None
      → Goes may (may_yet may J) plan (after J) e → Tame may l plan J → Tame may l plan (J ++ e ∷ [])
  tame_more plan J e allowed goes c =
      let s = after J in let now = may_yet may J in record {
        legal = legal_snoc l [] J e c.legal (ap is_none allowed);
        still = rw (after_snoc opening J e) (still_step may plan s e goes.keeps c.still);
        left = rw (plain_snoc J e, may_snoc (plain J) (plain_entry e) may, after_snoc opening J e)
            (left_step may now plan s e goes.keeps c.left);
        possible = rw (plain_snoc J e) (possible_more plan may opening (plain J) (plain_entry e) c.possible
            (subst (λ (t : Snapshot). Contains (unserved now plan (cell_of t)) (plain_entry e))
            (sym (from_plain opening J)) goes.possible));
      }

  -- an allowed entry finds room, if it isn't of a failure
  room_before : (J : List Entry) (e : Entry) → first_of l J e ≡ None → is_of_failure e ≡ false
      → nat_le l.entries (length J) ≡ false
  room_before J (Declared m why) h sound = cc
  room_before J e h sound = not_full_law l (situation_of J) e h

  pub tame_turn : (p : Plan) (J : List Entry) (m : Machine) (mind : Mind) (r : Option Reading) (booked : Option Entry)
      → IsDecided l J m p mind r booked → IfSome booked (λ e. first_of l J e ≡ None)
      → fails_only may (J ++ option_to_list booked) ≡ true → (fails_only may J ≡ true → Tame may l p.plates J)
      → Tame may l p.plates (J ++ option_to_list booked)
  tame_turn p J m mind r None decided allowed tame f =
      rw append-nil (f (rw append-nil at tame))
  tame_turn p J m mind r (Some e) decided allowed tame f =
      let front = tame_front may J e tame in
      let c = f front.0 in
      tame_more p.plates J e allowed
      (decided_goes may l p J c m mind r e (room_before J e allowed) decided front.1) c

  -- the operator has nothing to do but for machines that may fail: no other has failed, and no plate is in quarantine
  his_never : (plan : ℕ) (s : Snapshot) (e : Entry) → Still may plan s → actor_of e ≡ actor.Operator
      → first l (situation_in s) e ≡ None → disturbs_but may e ≡ false → ⊥
  his_never plan s (Quarantined k src) still his h tame =
      not_both (s.failed (machine_of_station src)) (still.healthy (machine_of_station src) tame)
      (none_refused (tests l (situation_in s) (Quarantined k src)) h).1.0
  his_never plan s (Repaired m) still his h tame =
      not_both (s.failed m) (still.healthy m tame) (none_refused (tests l (situation_in s) (Repaired m)) h).1.0
  his_never plan s (Expected k) still his h tame =
      let waits : is_none (s.waits k) ≡ false = (none_refused (tests l (situation_in s) (Expected k)) h).1.0 in
      let none = still.unwaiting k in
      absurd (differ (sym (ap is_none none) ∙ waits))
    where
      differ : true ≡ false → ⊥
      differ q = cc
  his_never plan s (StopAsked m) still his h tame = cc
  his_never plan s _ still his h tame = cc

  -- a schedule from the empty journal in whose journal only these machines fail
  pub tame_led : (p : Plan) (s : Now) (steps : List Step) (refused failed : ℕ) (t : Now)
      → s.journal ≡ [] → Leads l p s steps refused failed t → fails_only may t.journal ≡ true
      → Tame may l p.plates t.journal
  tame_led p s _ _ _ _ start stays tame = subst (Tame may l p.plates) (sym start) (tame_start may l p.plates)
  tame_led p s _ _ _ u start (turns {t = t} {steps = xs} {refused = i} {failed = j} m r b d) tame =
      subst (Tame may l p.plates) (sym d.journal)
      (tame_turn p t.journal m (at t.minds m) r d.booked d.decided d.allowed
      (subst (λ (K : List Entry). fails_only may K ≡ true) d.journal tame) (tame_led p s xs i j t start b))
  tame_led p s _ _ _ t start (refuses {steps = xs} {refused = i} {failed = j} m r why b d) tame =
      tame_led p s xs i j t start b tame
  tame_led p s _ _ _ _ start (hands {t = t} {steps = xs} {refused = i} {failed = j} e b d) tame =
      let front = tame_front may t.journal e tame in
      let c = tame_led p s xs i j t start b front.0 in
      absurd (his_never p.plates (after t.journal) e c.still d.actor
      (subst (λ (c : Situation). first l c e ≡ None) (told_when_legal l t.journal c.legal).cell d.allowed) front.1)
  tame_led p s _ _ _ t start (spares {steps = xs} {refused = i} {failed = j} e b d) tame =
      tame_led p s xs i j t start b tame
  tame_led p s _ _ _ t start (fails {steps = xs} {refused = i} {failed = j} e b d w) tame =
      tame_led p s xs i j t start b tame

-- a calm order of events is one as it stands
pub as_it_stands : (plan : ℕ) (J : List Entry) → is_calm J ≡ true → IsOrder none_may plan J
    → IsPossible plan false none_may opening J
as_it_stands plan J calm h =
    subst (λ (es : List Entry). IsPossible plan false none_may opening es) (plain_calm J calm) h
