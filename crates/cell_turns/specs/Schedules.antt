-- Schedules: which states the steps lead to, and what they did
use Rattle.std.specs.Prelude.{ℕ, ◌≡◌, ◌+◌, Bool, true, false, Option, None, List, [], ◌∷◌, ◌++◌, filter, option_to_list}
use Rattle.std.specs.Prelude.{is_some, IfSome, if◌then◌else◌}
use Rattle.std.specs.Option.{option_and_then}
use Rattle.cell_types.specs.declared.words.Machine.{Machine}
use Rattle.cell_types.specs.declared.words.Actor.{Actor}
use Rattle.cell_types.specs.declared.words.Actor.TheVariants as actor
use Rattle.cell_types.specs.declared.words.Entry.{Entry}
use Rattle.cell_types.specs.Entries.{actor_of, command_of}
use Rattle.cell_types.specs.Same.{same_machine}
use Rattle.cell_rules.specs.Views.{count_of}
use Rattle.cell_rules.specs.declared.limits.BookLimits.{BookLimits}
use Rattle.cell_rules.specs.declared.refusal.Refusal.{Refusal}
use Rattle.cell_rules.specs.History.{History}
use Rattle.cell_rules.specs.Legal.{first_of}
use Rattle.cell_ledger.specs.Counts.{plus}
use Rattle.cell_ledger.specs.Held.{Held, held}
use Rattle.cell_diagnosis.specs.declared.reading.Reading.{Reading}
use Rattle.cell_ports.specs.declared.plan.Plan.{Plan}
use Rattle.cell_ports.specs.declared.port.Act.{Act}
use Rattle.cell_turns.specs.declared.schedule.Step.{Step}
use Rattle.cell_turns.specs.declared.schedule.Step.TheVariants.{Turn, Hand}
use Rattle.cell_turns.specs.declared.six.Six.{Six}
use Rattle.cell_turns.specs.declared.watch.Watch.{Watch}
use Rattle.cell_turns.specs.Six.{at, put}
use Rattle.cell_ports.specs.Logs.{Log, ActLog}
use Rattle.cell_turns.specs.Sent.{SendsUnread}
use Rattle.cell_turns.specs.Acts.{act_of, DidMore}
use Rattle.cell_turns.specs.Handing.{IsHis, IsSpared}
use Rattle.cell_turns.specs.Minds.{Mind, FitsMind, has_failed_command, with_failure}
use Rattle.cell_turns.specs.Turns.{IsDecided, IsTurnedAway, mind_after}

-- a journal, and for each machine what its watch stands for
pub record Now : Type 0 where
  pub journal : List Entry
  pub minds : Six Mind

abbrev pub now : List Entry → Six Mind → Now
now journal minds = record { journal = journal; minds = minds }

-- after the command of a turn's entry was sent, or failed
abbrev pub mind_sent : Bool → Mind → Mind
mind_sent lost s = if lost then with_failure s else s

-- a turn of m at this reading that isn't refused: its entry, and whether the port failed on its command
pub record TurnsTo (l : BookLimits) (p : Plan) (m : Machine) (r : Option Reading) (s t : Now) : Type 0 where
  pub booked : Option Entry
  pub lost : Bool
  pub decided : IsDecided l s.journal m p (at s.minds m) r booked
  pub allowed : IfSome booked (λ e. first_of l s.journal e ≡ None)
  pub commanded : lost ≡ true → is_some (option_and_then command_of booked) ≡ true
  pub journal : t.journal ≡ s.journal ++ option_to_list booked
  pub minds : t.minds ≡ put s.minds m (mind_sent lost (mind_after s.journal m p (at s.minds m) r booked))

-- the steps lead from one state to another, `refused` turns were refused and `failed` acts by hand failed. An entry by
-- hand is booked exactly where it is the operator's, is allowed, and his hands didn't fail; a refused turn changes
-- nothing.
pub data Leads (l : BookLimits) (p : Plan) : Now → List Step → ℕ → ℕ → Now → Type 0 where
  stays : {s : Now} → Leads l p s [] 0 0 s
  turns : {s t u : Now} {steps : List Step} {refused failed : ℕ} (m : Machine) (r : Option Reading)
      → Leads l p s steps refused failed t → TurnsTo l p m r t u → Leads l p s (steps ++ Turn m r ∷ []) refused failed u
  refuses : {s t : Now} {steps : List Step} {refused failed : ℕ} (m : Machine) (r : Option Reading) (why : Refusal)
      → Leads l p s steps refused failed t → IsTurnedAway l t.journal m p (at t.minds m) r why
      → Leads l p s (steps ++ Turn m r ∷ []) (refused + 1) failed t
  hands : {s t : Now} {steps : List Step} {refused failed : ℕ} (e : Entry) → Leads l p s steps refused failed t
      → IsHis l t.journal e → Leads l p s (steps ++ Hand e ∷ []) refused failed (now (t.journal ++ e ∷ []) t.minds)
  spares : {s t : Now} {steps : List Step} {refused failed : ℕ} (e : Entry) → Leads l p s steps refused failed t
      → IsSpared l t.journal e → Leads l p s (steps ++ Hand e ∷ []) refused failed t
  fails : {s t : Now} {steps : List Step} {refused failed : ℕ} (e : Entry) → Leads l p s steps refused failed t
      → IsHis l t.journal e → is_some (act_of e) ≡ true → Leads l p s (steps ++ Hand e ∷ []) refused (failed + 1) t

-- all six watches fit
pub record FitAll (ws : Six Watch) (minds : Six Mind) : Type 0 where
  pub each : (m : Machine) → FitsMind (at ws m) (at minds m)

-- what the steps so far led to
pub record Led (l : BookLimits) (p : Plan) (s : Now) (steps : List Step) (refused failed : ℕ) (journal : List Entry)
    (ws : Six Watch) : Type 0 where
  pub minds : Six Mind
  pub leads : Leads l p s steps refused failed (now journal minds)
  pub fits : FitAll ws minds

-- whatever the watches fitted, the steps lead from there to here, and so many of the operator's acts failed as his port
-- tells, where it tells
pub record Scheduled (p : Plan) (steps : List Step) (refused : ℕ) (before after : History) (ws ws' : Six Watch)
    (told : Bool) (acts acts' : ActLog) : Type 0 where
  pub failed : ℕ
  pub limits : after.limits ≡ before.limits
  pub led : (minds : Six Mind) → FitAll ws minds
      → Led before.limits p (now before.entries minds) steps refused failed after.entries ws'
  pub failures : told ≡ true → acts'.failures ≡ acts.failures + failed

abbrev pub same_actor : Actor → Actor → Bool
same_actor (actor.Machine m) (actor.Machine n) = same_machine m n
same_actor actor.Operator actor.Operator = true
same_actor _ _ = false

-- an actor's entries
abbrev pub entries_of : Actor → List Entry → List Entry
entries_of a es = filter (λ e. same_actor a (actor_of e)) es

-- what was booked: the journal has it besides, the lists have it by actor, and the shares count it
pub record Grown (before after : History) (h h' : Held) (machines : Six (List Entry)) (operator : List Entry) : Type 0
  where
    pub added : List Entry
    pub journal : after ≡ record { limits = before.limits; entries = before.entries ++ added }
    pub by_machine : (m : Machine) → at machines m ≡ entries_of (actor.Machine m) added
    pub by_operator : operator ≡ entries_of actor.Operator added
    pub shares : h' ≡ held h.parts (plus h.counts (count_of added))

-- each port that still tells was sent the commands of its machine's list, and wasn't read
abbrev pub AllSent : {P : Type 0} → (P → Bool) → (P → Log) → Six P → Six P → Six Watch → Six Watch → Six (List Entry)
    → Type 0
AllSent tells log ports ports' ws ws' lists =
    (m : Machine) → tells (at ports' m) ≡ true
    → SendsUnread (log (at ports m)) (has_failed_command (at ws m)) (log (at ports' m)) (at lists m)
    (has_failed_command (at ws' m))

-- the act that a step wants of the operator
abbrev pub act_at : Step → Option Act
act_at (Turn m r) = None
act_at (Hand e) = act_of e

-- where memory can be refused: at a turn, and at an entry by hand that is the operator's and allowed
abbrev pub CanStop : BookLimits → List Entry → Step → Type 0
CanStop l J (Turn m r) = Unit {0}
CanStop l J (Hand e) = IsHis l J e

-- memory was refused at one of the steps: what the steps before it did stands, and of its own at most the operator's
-- act
pub record Stopped {P : Type 0} (tells : P → Bool) (log : P → Log) (p : Plan) (steps : List Step) (ports ports' : Six P)
    (before after : History) (h h' : Held) (ws ws' : Six Watch) (told : Bool) (acts acts' : ActLog) : Type 0 where
  pub taken : List Step
  pub next : Step
  pub left : List Step
  pub in_order : steps ≡ taken ++ next ∷ left
  pub refused : ℕ
  pub machines : Six (List Entry)
  pub operator : List Entry
  pub grown : Grown before after h h' machines operator
  pub sent : AllSent tells log ports ports' ws ws' machines
  pub scheduled : Scheduled p taken refused before after ws ws' told acts acts'
  pub stops : CanStop after.limits after.entries next
  pub did : told ≡ true → DidMore (act_at next) acts acts' operator
