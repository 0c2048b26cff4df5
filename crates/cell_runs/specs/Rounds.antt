-- A run in rounds on one thread: where its rounds lead, and how it ends
use Rattle.std.specs.Prelude.{◌≡◌, ◌⊎◌, ℕ, ◌+◌, ◌<◌, Bool, true, false, Option, Some, None, List, [], ◌∷◌, ◌++◌, map}
use Rattle.cell_types.specs.declared.words.Entry.{Entry}
use Rattle.cell_types.specs.declared.words.Machine.{Machine}
use Rattle.cell_types.specs.declared.words.Machine.TheVariants as machine
use Rattle.cell_rules.specs.declared.limits.BookLimits.{BookLimits}
use Rattle.cell_rules.specs.History.{History}
use Rattle.cell_rules.specs.Legal.{legal}
use Rattle.cell_ports.specs.declared.plan.Plan.{Plan}
use Rattle.cell_turns.specs.declared.schedule.Step.{Step}
use Rattle.cell_turns.specs.declared.schedule.Step.TheVariants.{Turn, Hand}
use Rattle.cell_turns.specs.declared.six.Six.{Six}
use Rattle.cell_turns.specs.declared.watch.Watch.{Watch}
use Rattle.cell_turns.specs.Six.{at, each}
use Rattle.cell_turns.specs.Minds.{Mind, first_mind}
use Rattle.cell_turns.specs.Schedules.{Now, now, Leads, FitAll, Led}
use Rattle.cell_workers.specs.Ends.{IsDone, is_idle}
use Rattle.cell_workers.specs.declared.ends.End.{End}
use Rattle.cell_workers.specs.declared.ends.End.TheVariants as end
use Rattle.operator_desk.specs.Next.{next_of, left_after, entry_of}
use Rattle.operator_desk.specs.declared.action.Action.{Action}
use Rattle.operator_desk.specs.declared.line.Line.{Line}

-- the machines, in the order of their turns
abbrev pub machines : List Machine
machines = machine.Feed ∷ machine.Table ∷ machine.Robot ∷ machine.Press1 ∷ machine.Press2 ∷ machine.Deposit ∷ []

-- the machine whose turn a step is; an entry by hand is no machine's
abbrev pub turn_of : Step → Option Machine
turn_of (Turn m r) = Some m
turn_of (Hand e) = None

-- a turn of each of these machines, in this order
abbrev pub turns_of : List Machine → List (Option Machine)
turns_of ms = map (λ m. Some m) ms

-- the steps of a round: a turn of each machine, and then an entry by hand
abbrev pub round_steps : List (Option Machine)
round_steps = turns_of machines ++ None ∷ []

abbrev pub history : BookLimits → List Entry → History
history l J = record { limits = l; entries = J }

-- where a run stands between two rounds: the script's lines that aren't done yet, and whether the operator's hands
-- failed, after which he does nothing more
pub record Place : Type 0 where
  pub now : Now
  pub lines : List Line
  pub lost : Bool

abbrev pub place : Now → List Line → Bool → Place
place now lines lost = record { now = now; lines = lines; lost = lost }

-- what the operator does after the turns of a round: nothing where his hands failed before, or where his script has
-- nothing to do now; else the entry that it has is a step by hand. Where that is booked, the line is done, and else his
-- hands failed.
pub data Operates (l : BookLimits) (p : Plan) : Place → Place → Type 0 where
  rests : {s : Now} {lines : List Line} → Operates l p (place s lines true) (place s lines true)
  waits : {s : Now} {lines : List Line} → next_of lines (history l s.journal) ≡ None
      → Operates l p (place s lines false) (place s lines false)
  books : {s t : Now} {lines : List Line} {failed : ℕ} (a : Action) → next_of lines (history l s.journal) ≡ Some a
      → Leads l p s (Hand (entry_of a) ∷ []) 0 failed t → t.journal ≡ s.journal ++ entry_of a ∷ []
      → Operates l p (place s lines false) (place t (left_after lines) false)
  fails : {s t : Now} {lines : List Line} {failed : ℕ} (a : Action) → next_of lines (history l s.journal) ≡ Some a
      → Leads l p s (Hand (entry_of a) ∷ []) 0 failed t → t.journal ≡ s.journal
      → Operates l p (place s lines false) (place t lines true)

-- one round: a turn of each machine in their order, none of which is refused, and then what the operator does
pub record Round (l : BookLimits) (p : Plan) (s t : Place) : Type 0 where
  pub steps : List Step
  pub failed : ℕ
  pub turned : Now
  pub turns : map turn_of steps ≡ turns_of machines
  pub leads : Leads l p s.now steps 0 failed turned
  pub operates : Operates l p (place turned s.lines s.lost) t

-- so many rounds
pub data Rounds (l : BookLimits) (p : Plan) (s : Place) : ℕ → Place → Type 0 where
  none : Rounds l p s 0 s
  more : {n : ℕ} {t u : Place} → Rounds l p s n t → Round l p t u → Rounds l p s (n + 1) u

-- where a run with this script goes on from a journal: no machine has taken a turn since
abbrev pub start_from : List Entry → List Line → Place
start_from J lines = place (now J (each (λ m. first_mind J m))) lines false

-- where a run with this script starts: the journal is empty
abbrev pub start : List Line → Place
start lines = start_from [] lines

-- a round that books nothing ends the run: after it each machine is idle, and the operator's hands have failed or his
-- script has nothing to do
pub record ComesToRest (l : BookLimits) (p : Plan) (s : Place) (J : List Entry) : Type 0 where
  pub last : Place
  pub round : Round l p s last
  pub journal : last.now.journal ≡ J
  pub unchanged : J ≡ s.now.journal
  pub idle : (m : Machine) → is_idle J m p (at last.now.minds m) ≡ true
  pub operator : (last.lost ≡ true) ⊎ (next_of last.lines (history l J) ≡ None)

-- the first of such steps lead to this journal, and so many of their turns are refused
pub record Breaks (l : BookLimits) (p : Plan) (whole : List (Option Machine)) (s : Now) (J : List Entry)
    (refused : ℕ) : Type 0 where
  pub steps : List Step
  pub left : List (Option Machine)
  pub failed : ℕ
  pub minds : Six Mind
  pub first : map turn_of steps ++ left ≡ whole
  pub leads : Leads l p s steps refused failed (now J minds)

-- an end within such steps: a turn was refused, or memory was
abbrev pub Stops : BookLimits → Plan → List (Option Machine) → Now → List Entry → End → Type 0
Stops l p whole s J end.Full = (refused : ℕ) × (0 < refused) × Breaks l p whole s J refused
Stops l p whole s J end.Memory = (refused : ℕ) × Breaks l p whole s J refused
Stops l p whole s J _ = ⊥

-- how a round from here ends the run: all are idle, or it breaks off
abbrev pub EndsIn : BookLimits → Plan → Place → List Entry → End → Type 0
EndsIn l p s J end.Finished = ComesToRest l p s J × IsDone p.plates J
EndsIn l p s J end.Stalled = ComesToRest l p s J × (IsDone p.plates J → ⊥)
EndsIn l p s J e = Stops l p round_steps s.now J e

-- how a run ends after so many rounds: with the plan's last, or in the one that follows
abbrev pub Ends : BookLimits → Plan → ℕ → Place → List Entry → End → Type 0
Ends l p n s J end.TurnLimit = (n ≡ p.turns) × (J ≡ s.now.journal)
Ends l p n s J e = EndsIn l p s J e

-- so many rounds from here, and then this end with this journal
pub record Ended (l : BookLimits) (p : Plan) (s : Place) (J : List Entry) (e : End) : Type 0 where
  pub rounds : ℕ
  pub last : Place
  pub led : Rounds l p s rounds last
  pub ends : Ends l p rounds last J e

-- a run in rounds within these limits, by this plan and this script, leads from one journal to another and ends so
pub record IsRunFrom (l : BookLimits) (p : Plan) (before : List Entry) (script : List Line) (J : List Entry) (e : End) :
    Type 0 where
  pub legal : legal l J ≡ true
  pub ended : Ended l p (start_from before script) J e

-- a run from the empty journal
abbrev pub IsRun : BookLimits → Plan → List Line → List Entry → End → Type 0
IsRun l p script J e = IsRunFrom l p [] script J e

-- these steps, none of which is a refused turn, lead to this journal, and what they lead to fits these watches
abbrev pub Takes : BookLimits → Plan → List Step → Now → List Entry → Six Watch → Type 0
Takes l p steps s J ws = (failed : ℕ) × Led l p s steps 0 failed J ws

-- what holds of a place with this journal, these lines and these hands, which these watches fit
abbrev pub Reaches : (Place → Type 0) → List Entry → Six Watch → List Line → Bool → Type 0
Reaches Q J ws lines lost = (minds : Six Mind) × FitAll ws minds × Q (place (now J minds) lines lost)

-- a run in rounds is one schedule: its steps lead from its start to its journal
abbrev pub RunsAreSchedules : Type 0
RunsAreSchedules =
    (l : BookLimits) (p : Plan) (script : List Line) (J : List Entry) (e : End) → IsRun l p script J e
    → (steps : List Step) × (refused : ℕ) × (failed : ℕ) × (minds : Six Mind)
    × Leads l p (start script).now steps refused failed (now J minds)

-- so is one from a journal on, from there
abbrev pub RunsFromAreSchedules : Type 0
RunsFromAreSchedules =
    (l : BookLimits) (p : Plan) (before : List Entry) (script : List Line) (J : List Entry) (e : End)
    → IsRunFrom l p before script J e
    → (steps : List Step) × (refused : ℕ) × (failed : ℕ) × (minds : Six Mind)
    × Leads l p (start_from before script).now steps refused failed (now J minds)

-- the journal of a run from a journal on begins with that one
abbrev pub RunsGoOn : Type 0
RunsGoOn =
    (l : BookLimits) (p : Plan) (before : List Entry) (script : List Line) (J : List Entry) (e : End)
    → IsRunFrom l p before script J e → (more : List Entry) × (J ≡ before ++ more)
