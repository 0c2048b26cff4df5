-- A run on one thread that follows a journal: for each of its entries the entry's actor alone acts, until he books one
use Rattle.std.specs.Prelude.{◌≡◌, ◌≢◌, ◌⊎◌, ℕ, ◌+◌, ◌<◌, true, Option, Some, None, List, [], ◌∷◌, ◌++◌, length}
use Rattle.std.specs.Prelude.{option_to_list}
use Rattle.cell_types.specs.declared.words.Actor.{Actor}
use Rattle.cell_types.specs.declared.words.Actor.TheVariants as actor
use Rattle.cell_types.specs.declared.words.Entry.{Entry}
use Rattle.cell_types.specs.declared.words.Machine.{Machine}
use Rattle.cell_types.specs.Entries.{actor_of}
use Rattle.cell_rules.specs.declared.limits.BookLimits.{BookLimits}
use Rattle.cell_rules.specs.Legal.{legal}
use Rattle.cell_ports.specs.declared.plan.Plan.{Plan}
use Rattle.cell_turns.specs.declared.schedule.Step.{Step}
use Rattle.cell_turns.specs.declared.six.Six.{Six}
use Rattle.cell_turns.specs.declared.watch.Watch.{Watch}
use Rattle.cell_turns.specs.Minds.{Mind}
use Rattle.cell_turns.specs.Schedules.{Now, now, Leads, FitAll}
use Rattle.cell_workers.specs.declared.ends.End.{End}
use Rattle.cell_workers.specs.declared.ends.End.TheVariants as end
use Rattle.operator_desk.specs.declared.line.Line.{Line}
use Rattle.cell_runs.specs.Rounds.{Place, Operates, Stops, start, turn_of}
use Rattle.cell_runs.specs.declared.follow.Followed.{Followed}
use Rattle.cell_runs.specs.declared.follow.Followed.TheVariants.{Whole, Parted, Memory}

-- a turn of a machine at some reading, which isn't refused
pub record TakesTurn (l : BookLimits) (p : Plan) (m : Machine) (s t : Now) : Type 0 where
  pub step : Step
  pub failed : ℕ
  pub turn : turn_of step ≡ Some m
  pub leads : Leads l p s (step ∷ []) 0 failed t

-- so many turns of a machine, none of which books an entry
pub data Waits (l : BookLimits) (p : Plan) (m : Machine) (s : Now) : ℕ → Now → Type 0 where
  none : Waits l p m s 0 s
  more : {n : ℕ} {t u : Now} → Waits l p m s n t → TakesTurn l p m t u → u.journal ≡ t.journal → Waits l p m s (n + 1) u

-- a machine takes turns until one books an entry, or until it took as many as the plan has
pub data Works (l : BookLimits) (p : Plan) (m : Machine) (s : Now) : Option Entry → Now → Type 0 where
  books : {n : ℕ} {t u : Now} (e : Entry) → Waits l p m s n t → n < p.turns → TakesTurn l p m t u
      → u.journal ≡ t.journal ++ e ∷ [] → Works l p m s (Some e) u
  rests : {t : Now} → Waits l p m s p.turns t → Works l p m s None t

-- what an actor does from one place to another, and the entry that he books thereby, if any: a machine takes turns, and
-- the operator acts once, as after the turns of a round
abbrev pub Acts : BookLimits → Plan → Actor → Place → Option Entry → Place → Type 0
Acts l p (actor.Machine m) s booked t = Works l p m s.now booked t.now × (t.lines ≡ s.lines) × (t.lost ≡ s.lost)
Acts l p actor.Operator s booked t = Operates l p s t × (t.now.journal ≡ s.now.journal ++ option_to_list booked)

-- an actor is stopped while he acts, since a turn was refused, or memory was
abbrev pub Halts : BookLimits → Plan → Actor → Place → List Entry → End → Type 0
Halts l p (actor.Machine m) s J e = (n : ℕ) × (t : Now) × (n < p.turns) × Waits l p m s.now n t
    × Stops l p (Some m ∷ []) t J e
Halts l p actor.Operator s J e = Stops l p (None ∷ []) s.now J e

-- entries are booked one after another, each by its actor
pub data Follows (l : BookLimits) (p : Plan) (s : Place) : List Entry → Place → Type 0 where
  none : Follows l p s [] s
  more : {es : List Entry} {t u : Place} (e : Entry) → Follows l p s es t → Acts l p (actor_of e) t (Some e) u
      → Follows l p s (es ++ e ∷ []) u

-- in place of an entry its actor books another one; or he books none, or is stopped by a refused turn
abbrev pub Parts : BookLimits → Plan → Place → Entry → Option Entry → List Entry → Type 0
Parts l p s wanted (Some e) J = (e ≢ wanted)
    × ((t : Place) × Acts l p (actor_of wanted) s (Some e) t × (J ≡ t.now.journal))
Parts l p s wanted None J = (J ≡ s.now.journal)
    × (((t : Place) × Acts l p (actor_of wanted) s None t) ⊎ Halts l p (actor_of wanted) s J end.Full)

-- an entry of this number isn't booked where it is wanted, and this journal is
abbrev pub EndsAt : BookLimits → Plan → Place → ℕ → Entry → List Entry → Followed → Type 0
EndsAt l p s i wanted J Whole = ⊥
EndsAt l p s i wanted J (Parted j other booked) = (j ≡ i) × (other ≡ wanted) × Parts l p s wanted booked J
EndsAt l p s i wanted J Memory = Halts l p (actor_of wanted) s J end.Memory × (J ≡ s.now.journal)

-- the first entries of a journal, up to one that is wanted, lead from one place to another
pub record LeadsUpTo (l : BookLimits) (p : Plan) (s : Place) (journal : List Entry) (wanted : Entry) (t : Place) : Type
    0 where
  pub same : List Entry
  pub left : List Entry
  pub in_order : journal ≡ same ++ wanted ∷ left
  pub follows : Follows l p s same t

-- a journal is followed from a place so, and this one is booked: each entry is booked in order; or its first entries
-- are, up to one in whose place another or none is booked; or up to one where memory is refused
abbrev pub Ends : BookLimits → Plan → Place → List Entry → List Entry → Followed → Type 0
Ends l p s journal J Whole = (t : Place) × Follows l p s journal t × (J ≡ t.now.journal)
Ends l p s journal J (Parted i wanted booked) =
    (t : Place) × (to : LeadsUpTo l p s journal wanted t) × (i ≡ length to.same + 1) × Parts l p t wanted booked J
Ends l p s journal J Memory =
    (wanted : Entry) × (t : Place) × LeadsUpTo l p s journal wanted t × Halts l p (actor_of wanted) t J end.Memory
    × (J ≡ t.now.journal)

-- what a book has of a journal that was followed so: all entries; or those before the place at which it parted, counted
-- from 1, and then another one than the journal's, if any; or a first part
abbrev pub Matches : List Entry → List Entry → Followed → Type 0
Matches journal J Whole = J ≡ journal
Matches journal J (Parted i wanted booked) =
    (same : List Entry) × (left : List Entry) × (journal ≡ same ++ wanted ∷ left) × (i ≡ length same + 1)
    × (J ≡ same ++ option_to_list booked) × (booked ≢ Some wanted)
Matches journal J Memory = (left : List Entry) × (journal ≡ J ++ left)

-- a journal is followed within these limits, by this plan and this script, and this one is booked
pub record IsFollowed (l : BookLimits) (p : Plan) (script : List Line) (journal J : List Entry) (how : Followed) : Type
    0 where
  pub legal : legal l J ≡ true
  pub ends : Ends l p (start script) journal J how
  pub matches : Matches journal J how

-- what holds of a state with this journal, which these watches fit
abbrev pub ReachesNow : (Now → Type 0) → List Entry → Six Watch → Type 0
ReachesNow Q J ws = (minds : Six Mind) × FitAll ws minds × Q (now J minds)

-- what is booked while a journal is followed is one schedule: its steps lead from the empty journal to it
abbrev pub FollowedAreSchedules : Type 0
FollowedAreSchedules =
    (l : BookLimits) (p : Plan) (script : List Line) (journal J : List Entry) (how : Followed)
    → IsFollowed l p script journal J how
    → (steps : List Step) × (refused : ℕ) × (failed : ℕ) × (minds : Six Mind)
    × Leads l p (start script).now steps refused failed (now J minds)
