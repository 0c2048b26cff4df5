-- The moves of a run: what its cell is asked, what is booked, what is kept of it, and in which order that comes
use Rattle.std.specs.Prelude.{◌≡◌, ◌<◌, ◌⊎◌, ◌+◌, ◌++◌, ◌∷◌, [], ℕ, Bool, true, false, Option, Some, None, Result, Ok}
use Rattle.std.specs.Prelude.{Err, List, is_ok, length}
use Rattle.std.specs.Option.{option_and_then}
use Rattle.cell_types.specs.Entries.{command_of}
use Rattle.cell_types.specs.Texts.{all_machine}
use Rattle.cell_types.specs.declared.words.Command.{Command}
use Rattle.cell_types.specs.declared.words.Command.TheVariants.{AllOff}
use Rattle.cell_types.specs.declared.words.Entry.{Entry}
use Rattle.cell_types.specs.declared.words.Entry.TheVariants.{StopAsked, Quarantined, Repaired, Expected}
use Rattle.cell_types.specs.declared.words.Machine.{Machine}
use Rattle.cell_rules.specs.Legal.{first_of}
use Rattle.cell_rules.specs.Views.{plate_of}
use Rattle.cell_rules.specs.declared.limits.BookLimits.{BookLimits}
use Rattle.cell_rules.specs.declared.refusal.Refusal.{Refusal}
use Rattle.cell_diagnosis.specs.declared.reading.Reading.{Reading}
use Rattle.cell_ports.specs.declared.plan.Plan.{Plan}
use Rattle.cell_ports.specs.declared.port.Act.{Act}
use Rattle.cell_turns.specs.Acts.{act_of}
use Rattle.cell_turns.specs.Handing.{IsHis}
use Rattle.cell_turns.specs.Schedules.{TurnsTo, mind_sent, now}
use Rattle.cell_turns.specs.Six.{at, put}
use Rattle.operator_desk.specs.Next.{entry_of, left_after, next_of}
use Rattle.operator_desk.specs.declared.action.Action.{Action}
use Rattle.operator_desk.specs.declared.line.Task.{Task}
use Rattle.operator_desk.specs.declared.line.Task.TheVariants as task
use Rattle.cell_plant.specs.Asked.{Acted, Asked, Closed, Handed, Opened, Ordered, Refused, Replied, Shown, Wished}
use Rattle.cell_plant.specs.declared.gone.Gone.{Gone}
use Rattle.cell_plant.specs.declared.desk.Denial.TheVariants as denial
use Rattle.cell_plant.specs.declared.desk.Reply.{Reply}
use Rattle.cell_plant.specs.declared.desk.Reply.TheVariants as reply
use Rattle.cell_plant.specs.declared.desk.Wish.{Wish}
use Rattle.cell_plant.specs.declared.desk.Wish.TheVariants as wish
use Rattle.cell_rounds.specs.Rest.{KeepsOn}
use Rattle.cell_rounds.specs.Stands.{Between, Noting, Noted, Turning, Serving, Wanted, Answering, Closing, Over}
use Rattle.cell_rounds.specs.Stands.{Place, Point, Stand, desk, place, to}
use Rattle.cell_rounds.specs.declared.progress.Halt.TheVariants as halt
use Rattle.cell_rounds.specs.declared.settle.LastCommand.{LastCommand}

-- what a run is bound to: its book's limits, its plan, and whether it waits where it is stalled
pub record Terms : Type 0 where
  pub limits : BookLimits
  pub plan : Plan
  pub waits : Bool

abbrev pub terms_of : BookLimits → Plan → Bool → Terms
terms_of l p waits = record { limits = l; plan = p; waits = waits }

-- the most of what was done at the cell that is heard in a round, and the most wishes
abbrev pub most_heard : ℕ
most_heard = 10064

-- a command wasn't carried out, as far as is known
abbrev pub is_lost : Result Bool Gone → Bool
is_lost (Ok false) = true
is_lost _ = false

-- after a call that reached the cell, or didn't, the run goes on or has halted
abbrev pub if_reached : Bool → Point → Point
if_reached true point = point
if_reached false point = Over halt.Gone

-- after an entry that was kept, or wasn't
abbrev pub if_kept : Bool → Point → Point
if_kept true point = point
if_kept false point = Over halt.Unkept

abbrev pub answered : Result Bool Gone → Point → Point
answered (Ok done) point = point
answered (Err gone) point = Over halt.Gone

-- the entry by which a task is booked: of taking out what stands at a station that of the plate which the book has
-- there, or of the first plate, which it refuses
abbrev pub plate_or_first : Option ℕ → ℕ
plate_or_first (Some k) = k
plate_or_first None = 1

abbrev pub entry_wanted : List Entry → Task → Entry
entry_wanted J (task.Stop m) = StopAsked m
entry_wanted J (task.Clear s) = Quarantined (plate_or_first (plate_of J s)) s
entry_wanted J (task.Repair m) = Repaired m
entry_wanted J (task.Expect k) = Expected k

-- the stand with another cell, elsewhere in the round
abbrev pub moved : {C K : Type 0} → Stand C K → C → Point → Stand C K
moved s c point = record s { cell = c; place = to s.place point }

-- the round was begun, or the cell is gone
abbrev pub begun : {C K : Type 0} → Stand C K → C → Bool → Stand C K
begun s c ok = record s { cell = c; place = place s.place.rounds s.now.journal (if_reached ok (Noting 0)) }

-- the round was closed, or the cell is gone
abbrev pub after_close : Place → Bool → Place
after_close a true = place (a.rounds + 1) a.begun Between
after_close a false = to a (Over halt.Gone)

abbrev pub closed : {C K : Type 0} → Stand C K → C → Bool → Stand C K
closed s c ok = record s { cell = c; place = after_close s.place ok }

-- after what was done at the cell was heard, or nothing more
abbrev pub after_act : ℕ → Option Task → Point
after_act n (Some task) = Noted n task
after_act n None = Turning all_machine

-- after a wish was heard, or none
abbrev pub after_wish : ℕ → Option Wish → Point
after_wish n (Some wish) = Wanted n wish
after_wish n None = Closing

-- the entry is kept, or not, as is said; of none nothing is
abbrev pub Keeps : {K : Type 0} → (K → K → Entry → Bool → Type 0) → Option Entry → Bool → K → K → Type 0
Keeps keeps None kept k k' = (k' ≡ k) × (kept ≡ true)
Keeps keeps (Some e) kept k k' = keeps k k' e kept

-- a machine is sent this command, if there is one, and then the run is at this point
abbrev pub Orders : {C : Type 0} → (C → C → Asked → Type 0) → Machine → Option Command → Bool → Point → Point → C → C
    → Type 0
Orders told m None lost point next c c' = (c' ≡ c) × (lost ≡ false) × (next ≡ point)
Orders told m (Some x) lost point next c c' =
    (r : Result Bool Gone) × told c c' (Ordered m x r) × (lost ≡ is_lost r) × (next ≡ answered r point)

-- of an entry that was kept the command is sent; of one that wasn't, none is
abbrev pub OrdersIf : {C : Type 0} → (C → C → Asked → Type 0) → Bool → Machine → Option Command → Bool → Point → Point
    → C → C → Type 0
OrdersIf told true m x lost point next c c' = Orders told m x lost point next c c'
OrdersIf told false m x lost point next c c' = (c' ≡ c) × (lost ≡ false) × (next ≡ Over halt.Unkept)

-- a machine's turn at what it showed: the entry that it booked, if it booked one, is kept, and then its command is sent
pub record Turn {C K : Type 0} (told : C → C → Asked → Type 0) (keeps : K → K → Entry → Bool → Type 0) (T : Terms)
    (m : Machine) (rest : List Machine) (s t : Stand C K) : Type 0 where
  pub reading : Option Reading
  pub seen : C
  pub shown : told s.cell seen (Shown m reading)
  pub turned : TurnsTo T.limits T.plan m reading s.now t.now
  pub kept : Bool
  pub keeping : Keeps keeps turned.booked kept s.keeper t.keeper
  pub next : Point
  pub orders : OrdersIf told kept m (option_and_then command_of turned.booked) turned.lost (Turning rest) next seen
      t.cell
  pub pending : t.pending ≡ s.pending
  pub desk : t.desk ≡ s.desk
  pub place : t.place ≡ to s.place next

-- an act is done by hand, if one is wanted
abbrev pub Hands : {C : Type 0} → (C → C → Asked → Type 0) → Option Act → C → C → Type 0
Hands told None c c' = c' ≡ c
Hands told (Some a) c c' = told c c' (Handed a (Ok true))

-- an entry of the operator that is allowed is booked, and then it is kept, or isn't
pub record Books {C K : Type 0} (keeps : K → K → Entry → Bool → Type 0) (l : BookLimits) (e : Entry)
    (s t : Stand C K) : Type 0 where
  pub his : IsHis l s.now.journal e
  pub now : t.now ≡ now (s.now.journal ++ e ∷ []) s.now.minds
  pub kept : Bool
  pub keeping : keeps s.keeper t.keeper e kept
  pub pending : t.pending ≡ s.pending

-- the act of such an entry isn't done, or that isn't known, and nothing is booked
pub record Fails {C K : Type 0} (told : C → C → Asked → Type 0) (l : BookLimits) (e : Entry) (s t : Stand C K) : Type 0
  where
    pub his : IsHis l s.now.journal e
    pub act : Act
    pub wanted : act_of e ≡ Some act
    pub answer : Result Bool Gone
    pub not_done : (answer ≡ Ok true) → ⊥
    pub hands : told s.cell t.cell (Handed act answer)
    pub now : t.now ≡ s.now
    pub keeper : t.keeper ≡ s.keeper
    pub pending : t.pending ≡ s.pending

-- the operator's next action, if his script has one now
abbrev pub next_at : {C K : Type 0} → BookLimits → Stand C K → Option Action
next_at l s = next_of s.desk.lines (record { limits = l; entries = s.now.journal })

-- why a wish isn't granted, and no act is tried
abbrev pub IsDenied : BookLimits → List Entry → Wish → Reply → Type 0
IsDenied l J wish.Unreadable r = r ≡ reply.Denied denial.Unreadable
IsDenied l J wish.TooMuch r = r ≡ reply.Denied denial.TooMany
IsDenied l J (wish.For task) r =
    (why : Refusal) × (first_of l J (entry_wanted J task) ≡ Some why) × (r ≡ reply.Denied (denial.Book why))

-- a machine is stopped before, or isn't
abbrev pub Stops : {C : Type 0} → (C → C → Asked → Type 0) → Machine → Bool → C → C → Type 0
Stops told m reached c c' =
    ((c' ≡ c) × (reached ≡ true)) ⊎ ((r : Result Bool Gone) × told c c' (Ordered m (AllOff m) r) × (reached ≡ is_ok r))

-- the command of which it isn't known whether it went out is sent again; its machine is stopped before, or isn't
pub data Repeats {C K : Type 0} (told : C → C → Asked → Type 0) (last : LastCommand) (s t : Stand C K) : Type 0 where
  sends : (stopped : C) (answer : Result Bool Gone) → Stops told last.machine true s.cell stopped
      → told stopped t.cell (Ordered last.machine last.command answer)
      → t ≡ record s {
        cell = t.cell;
        now = now s.now.journal
            (put s.now.minds last.machine (mind_sent (is_lost answer) (at s.now.minds last.machine)));
        pending = None;
        place = to s.place (answered answer s.place.point);
      }
      → Repeats told last s t
  loses : Stops told last.machine false s.cell t.cell
      → t ≡ record s { cell = t.cell; pending = None; place = to s.place (Over halt.Gone) } → Repeats told last s t

-- after this round the run goes on: something was booked in it, or a command is looked for, or a machine isn't idle, or
-- a stalled run waits
abbrev pub GoesOn : {C K : Type 0} → Terms → Stand C K → Type 0
GoesOn T s = s.now.journal ≡ s.place.begun → s.pending ≡ None → KeepsOn T.plan T.waits s.now.journal s.now.minds

-- one move of a run
pub data Move {C K : Type 0} (told : C → C → Asked → Type 0) (keeps : K → K → Entry → Bool → Type 0) (T : Terms)
    (s t : Stand C K) : Type 0 where
  -- a round begins, if there is one more by the plan
  begins : (ok : Bool) → s.place.point ≡ Between → s.place.rounds < T.plan.turns → told s.cell t.cell (Opened ok)
      → t ≡ begun s t.cell ok → Move told keeps T s t
  -- what was done at the cell is heard, or nothing more; more than so much isn't
  hears : (n : ℕ) (done : Option Task) → s.place.point ≡ Noting n → told s.cell t.cell (Acted done)
      → t ≡ moved s t.cell (after_act n done) → Move told keeps T s t
  heard : s.place.point ≡ Noting most_heard → t ≡ moved s s.cell (Turning all_machine) → Move told keeps T s t
  -- it is booked where the book allows it, and else that is told
  notes : (n : ℕ) (done : Task) (books : Books keeps T.limits (entry_wanted s.now.journal done) s t)
      → s.place.point ≡ Noted n done → t.cell ≡ s.cell → t.desk ≡ s.desk
      → t.place ≡ to s.place (if_kept books.kept (Noting (n + 1))) → Move told keeps T s t
  rejects : (n : ℕ) (done : Task) (why : Refusal) → s.place.point ≡ Noted n done
      → first_of T.limits s.now.journal (entry_wanted s.now.journal done) ≡ Some why
      → told s.cell t.cell (Refused done why) → t ≡ moved s t.cell (Noting (n + 1)) → Move told keeps T s t
  -- a machine takes its turn
  turns : (m : Machine) (rest : List Machine) → s.place.point ≡ Turning (m ∷ rest)
      → Turn told keeps T m rest s t → Move told keeps T s t
  -- the machine of the command that may not have gone out is looked at instead
  looks : (m : Machine) (rest : List Machine) (last : LastCommand) (r : Option Reading)
      → s.place.point ≡ Turning (m ∷ rest) → s.pending ≡ Some last → last.machine ≡ m
      → told s.cell t.cell (Shown m r) → t ≡ moved s t.cell (Turning rest) → Move told keeps T s t
  -- or it is looked at once more: the command went out, or it is sent again
  finds : (m : Machine) (rest : List Machine) (last : LastCommand) (r : Option Reading)
      → s.place.point ≡ Turning (m ∷ rest) → s.pending ≡ Some last → last.machine ≡ m
      → told s.cell t.cell (Shown m r) → t ≡ record s { cell = t.cell; pending = None } → Move told keeps T s t
  repeats : (m : Machine) (rest : List Machine) (last : LastCommand) (r : Option Reading) (seen : C)
      → s.place.point ≡ Turning (m ∷ rest) → s.pending ≡ Some last → last.machine ≡ m
      → told s.cell seen (Shown m r) → Repeats told last (record s { cell = seen }) t → Move told keeps T s t
  -- the operator has nothing to do by his script, or does its next action, or fails at that and does no more
  rests : s.place.point ≡ Turning [] → (s.desk.lost ≡ true) ⊎ (next_at T.limits s ≡ None)
      → t ≡ moved s s.cell (Serving 0) → Move told keeps T s t
  does : (a : Action) (books : Books keeps T.limits (entry_of a) s t) → s.place.point ≡ Turning []
      → s.desk.lost ≡ false → next_at T.limits s ≡ Some a → Hands told (act_of (entry_of a)) s.cell t.cell
      → t.desk ≡ desk (left_after s.desk.lines) false → t.place ≡ to s.place (if_kept books.kept (Serving 0))
      → Move told keeps T s t
  fails : (a : Action) (tries : Fails told T.limits (entry_of a) s t) → s.place.point ≡ Turning []
      → s.desk.lost ≡ false → next_at T.limits s ≡ Some a → t.desk ≡ desk s.desk.lines true
      → t.place ≡ to s.place (answered tries.answer (Serving 0)) → Move told keeps T s t
  -- what is wanted at the cell is heard, or nothing more; more than so much isn't
  asks : (n : ℕ) (wish : Option Wish) → s.place.point ≡ Serving n → told s.cell t.cell (Wished wish)
      → t ≡ moved s t.cell (after_wish n wish) → Move told keeps T s t
  asked : s.place.point ≡ Serving most_heard → t ≡ moved s s.cell Closing → Move told keeps T s t
  -- it can't be done, or is done, or fails
  denies : (n : ℕ) (wish : Wish) (reply : Reply) → s.place.point ≡ Wanted n wish
      → IsDenied T.limits s.now.journal wish reply → t ≡ moved s s.cell (Answering n reply) → Move told keeps T s t
  grants : (n : ℕ) (done : Task) (books : Books keeps T.limits (entry_wanted s.now.journal done) s t)
      → s.place.point ≡ Wanted n (wish.For done) → Hands told (act_of (entry_wanted s.now.journal done)) s.cell t.cell
      → t.desk ≡ s.desk
      → t.place ≡ to s.place (if_kept books.kept (Answering n (reply.Booked (length s.now.journal + 1))))
      → Move told keeps T s t
  misses : (n : ℕ) (done : Task) (tries : Fails told T.limits (entry_wanted s.now.journal done) s t)
      → s.place.point ≡ Wanted n (wish.For done) → t.desk ≡ s.desk
      → t.place ≡ to s.place (answered tries.answer (Answering n (reply.Denied denial.Failed)))
      → Move told keeps T s t
  -- it is answered
  replies : (n : ℕ) (reply : Reply) (ok : Bool) → s.place.point ≡ Answering n reply
      → told s.cell t.cell (Replied reply ok) → t ≡ moved s t.cell (if_reached ok (Serving (n + 1)))
      → Move told keeps T s t
  -- the round is closed, if the run goes on
  closes : (ok : Bool) → s.place.point ≡ Closing → GoesOn T s → told s.cell t.cell (Closed ok)
      → t ≡ closed s t.cell ok → Move told keeps T s t

-- moves, one after another
pub data Leads {C K : Type 0} (told : C → C → Asked → Type 0) (keeps : K → K → Entry → Bool → Type 0) (T : Terms)
    (s : Stand C K) : Stand C K → Type 0 where
  stays : Leads told keeps T s s
  goes : {t u : Stand C K} → Leads told keeps T s t → Move told keeps T t u → Leads told keeps T s u
