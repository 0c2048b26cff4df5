-- A run on one thread as one schedule
use Rattle.std.proofs.Common.{ℕ, ◌+◌, List, [], ◌∷◌, ◌++◌, subst, sym}
use Rattle.std.proofs.Math.Nat.{zero-add}
use Rattle.cell_types.specs.declared.words.Entry.{Entry}
use Rattle.cell_rules.specs.declared.limits.BookLimits.{BookLimits}
use Rattle.cell_ports.specs.declared.plan.Plan.{Plan}
use Rattle.cell_turns.specs.declared.schedule.Step.{Step}
use Rattle.cell_turns.specs.declared.schedule.Step.TheVariants.{Hand}
use Rattle.cell_turns.specs.declared.six.Six.{Six}
use Rattle.cell_turns.specs.Minds.{Mind}
use Rattle.cell_turns.specs.Schedules.{Now, now, Leads}
use Rattle.cell_turns.specs.Schedules.Leads.{stays}
use Rattle.cell_turns.proofs.Joined.{leads_join}
use Rattle.cell_workers.specs.declared.ends.End.{End}
use Rattle.cell_workers.specs.declared.ends.End.TheVariants as end
use Rattle.operator_desk.specs.Next.{entry_of}
use Rattle.cell_runs.proofs.OneRound.{leads_grow}
use Rattle.cell_runs.specs.Rounds.{Place, place, Operates, Round, Rounds, ComesToRest, Breaks, Ends, RunsAreSchedules}
use Rattle.cell_runs.specs.Rounds.{RunsFromAreSchedules, RunsGoOn, round_steps, start_from}
use Rattle.cell_runs.specs.Rounds.Operates.{rests, waits, books, fails}
use Rattle.cell_runs.specs.Rounds.Rounds.{none as no_round, more as one_more}

-- some steps lead from one state to another, and none of them is a refused turn
abbrev pub Led : BookLimits → Plan → Now → Now → Type 0
Led l p s t = (steps : List Step) × (failed : ℕ) × Leads l p s steps 0 failed t

-- he takes one step at most: none while he rests or waits, else the one by hand, booked or failed
pub operates_lead : (l : BookLimits) (p : Plan) (s t : Place) → Operates l p s t → Led l p s.now t.now
operates_lead l p _ _ rests = ([], 0, stays)
operates_lead l p _ _ (waits h) = ([], 0, stays)
operates_lead l p _ _ (books {failed = f} a h b grew) = (Hand (entry_of a) ∷ [], f, b)
operates_lead l p _ _ (fails {failed = f} a h b same) = (Hand (entry_of a) ∷ [], f, b)

pub then_led : (l : BookLimits) (p : Plan) (s t u : Now) → Led l p s t → Led l p t u → Led l p s u
then_led l p s t u (xs, f, a) (ys, g, b) = (xs ++ ys, f + g, leads_join l p s t u xs ys 0 0 f g a b)

round_leads : (l : BookLimits) (p : Plan) (s t : Place) → Round l p s t → Led l p s.now t.now
round_leads l p s t r = then_led l p s.now r.turned t.now (r.steps, r.failed, r.leads)
    (operates_lead l p (place r.turned s.lines s.lost) t r.operates)

rounds_lead : (l : BookLimits) (p : Plan) (s t : Place) (n : ℕ) → Rounds l p s n t → Led l p s.now t.now
rounds_lead l p s _ _ no_round = ([], 0, stays)
rounds_lead l p s u _ (one_more {n = n} {t = t} h r) =
    then_led l p s.now t.now u.now (rounds_lead l p s t n h) (round_leads l p t u r)

-- some steps lead to a journal
abbrev pub Reached : BookLimits → Plan → Now → List Entry → Type 0
Reached l p s J = (steps : List Step) × (refused : ℕ) × (failed : ℕ) × (minds : Six Mind)
    × Leads l p s steps refused failed (now J minds)

-- only the round that breaks off can have refused a turn, so the count of those is its own
then_breaks : (l : BookLimits) (p : Plan) (s t : Now) (J : List Entry) (r : ℕ) → Led l p s t
    → Breaks l p round_steps t J r → Reached l p s J
then_breaks l p s t J r (xs, f, a) b = (
  xs ++ b.steps,
  r,
  f + b.failed,
  b.minds,
  subst (λ (k : ℕ). Leads l p s (xs ++ b.steps) k (f + b.failed) (now J b.minds)) (zero-add r)
      (leads_join l p s t (now J b.minds) xs b.steps 0 r f b.failed a b.leads),
)

-- the last round counts too, though it booked nothing
then_rests : (l : BookLimits) (p : Plan) (s : Now) (t : Place) (J : List Entry) → Led l p s t.now → ComesToRest l p t J
    → Reached l p s J
then_rests l p s t J a b =
    let (steps, failed, leads) = then_led l p s t.now b.last.now a (round_leads l p t b.last b.round) in (
      steps,
      0,
      failed,
      b.last.now.minds,
      subst (λ (K : List Entry). Leads l p s steps 0 failed (now K b.last.now.minds))
          b.journal leads,
    )

-- at the limit on turns no round was begun beside the whole ones
then_ends : (l : BookLimits) (p : Plan) (s : Now) (n : ℕ) (t : Place) (J : List Entry) (e : End) → Led l p s t.now
    → Ends l p n t J e → Reached l p s J
then_ends l p s n t J end.Finished a h = then_rests l p s t J a h.0
then_ends l p s n t J end.Stalled a h = then_rests l p s t J a h.0
then_ends l p s n t J end.TurnLimit (steps, failed, leads) h = (
  steps,
  0,
  failed,
  t.now.minds,
  subst (λ (K : List Entry). Leads l p s steps 0 failed (now K t.now.minds)) (sym h.1)
      leads,
)
then_ends l p s n t J end.Full a h = then_breaks l p s t.now J h.0 a h.2
then_ends l p s n t J end.Memory a h = then_breaks l p s t.now J h.0 a h.1

-- so what is shown of all schedules holds of runs in rounds
pub run_from_leads : RunsFromAreSchedules
run_from_leads l p before script J e r =
    let is = r.ended in
    then_ends l p _ is.rounds is.last J e (rounds_lead l p _ is.last is.rounds is.led) is.ends

pub run_leads : RunsAreSchedules
run_leads l p script J e r = run_from_leads l p [] script J e r

-- and what is booked comes behind the journal from which a run goes on
pub run_goes_on : RunsGoOn
run_goes_on l p before script J e r =
    let (steps, refused, failed, minds, leads) = run_from_leads l p before script J e r in
    leads_grow l p (start_from before script).now (now J minds) steps refused failed leads
