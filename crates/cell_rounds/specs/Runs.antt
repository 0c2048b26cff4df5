-- Where the moves of a run lead, and how it halts
use Rattle.std.specs.Prelude.{◌≡◌, ◌∷◌, [], ℕ, Bool, Option, Some, None, Result, Ok, Err, List}
use Rattle.cell_types.specs.declared.words.Entry.{Entry}
use Rattle.cell_types.specs.declared.words.Machine.{Machine}
use Rattle.cell_rules.specs.declared.limits.BookLimits.{BookLimits}
use Rattle.cell_rules.specs.declared.refusal.Refusal.{Refusal}
use Rattle.cell_diagnosis.specs.declared.reading.Reading.{Reading}
use Rattle.cell_ports.specs.declared.plan.Plan.{Plan}
use Rattle.cell_turns.specs.Acts.{act_of}
use Rattle.cell_turns.specs.Handing.{IsHis}
use Rattle.cell_turns.specs.Minds.{Mind}
use Rattle.cell_turns.specs.Schedules.{FitAll}
use Rattle.cell_turns.specs.Six.{at}
use Rattle.cell_turns.specs.Turns.{IsTurnedAway}
use Rattle.cell_turns.specs.declared.six.Six.{Six}
use Rattle.cell_workers.specs.declared.ends.End.{End}
use Rattle.cell_workers.specs.declared.ends.End.TheVariants as end
use Rattle.operator_desk.specs.Next.{entry_of}
use Rattle.operator_desk.specs.declared.action.Action.{Action}
use Rattle.operator_desk.specs.declared.line.Line.{Line}
use Rattle.operator_desk.specs.declared.line.Task.{Task}
use Rattle.cell_plant.specs.Asked.{Asked, Shown}
use Rattle.cell_plant.specs.declared.desk.Reply.{Reply}
use Rattle.cell_plant.specs.declared.desk.Wish.TheVariants as wish
use Rattle.cell_rounds.specs.Moves.{Hands, Leads, Terms, entry_wanted, next_at, terms_of}
use Rattle.cell_rounds.specs.Rest.{IsAtRest}
use Rattle.cell_rounds.specs.Stands.{Answering, Between, Closing, Noted, Over, Turning, Wanted}
use Rattle.cell_rounds.specs.Stands.{Place, Point, Stand, State, place, stand, start}
use Rattle.cell_rounds.specs.declared.progress.Halt.{Halt}
use Rattle.cell_rounds.specs.declared.progress.Halt.TheVariants as halt
use Rattle.cell_rounds.specs.declared.settle.LastCommand.{LastCommand}

-- the operator is to do this entry here, by his script or because it is wanted at the cell
abbrev pub IsDue : {C K : Type 0} → BookLimits → Stand C K → Point → Entry → Type 0
IsDue l s (Turning []) e = (a : Action) × (next_at l s ≡ Some a) × (e ≡ entry_of a)
IsDue l s (Wanted n (wish.For task)) e = e ≡ entry_wanted s.now.journal task
IsDue l s _ e = ⊥

-- memory was refused, to what was done at the cell, to the turn of a machine, which was read, or to an entry that was
-- due: its act was done, and no entry books it
pub data Unbooked {C K : Type 0} (told : C → C → Asked → Type 0) (l : BookLimits) (t : Stand C K) (c : C) : Type 0 where
  noted : (n : ℕ) (done : Task) → t.place.point ≡ Noted n done → c ≡ t.cell → Unbooked told l t c
  reading : (m : Machine) (rest : List Machine) (r : Option Reading) → t.place.point ≡ Turning (m ∷ rest)
      → told t.cell c (Shown m r) → Unbooked told l t c
  act : (e : Entry) → IsDue l t t.place.point e → IsHis l t.now.journal e → Hands told (act_of e) t.cell c
      → Unbooked told l t c

-- a machine's turn was refused, since the journal is full, or as many plates were admitted as may be
pub record TurnsAway {C K : Type 0} (told : C → C → Asked → Type 0) (T : Terms) (t : Stand C K) (c : C) : Type 0 where
  pub machine : Machine
  pub rest : List Machine
  pub point : t.place.point ≡ Turning (machine ∷ rest)
  pub reading : Option Reading
  pub shown : told t.cell c (Shown machine reading)
  pub why : Refusal
  pub refused : IsTurnedAway T.limits t.now.journal machine T.plan (at t.now.minds machine) reading why

-- all machines are idle after a round that booked nothing, in which no command was looked for
pub record Rests {C K : Type 0} (T : Terms) (t : Stand C K) (e : End) : Type 0 where
  pub point : t.place.point ≡ Closing
  pub unchanged : t.now.journal ≡ t.place.begun
  pub settled : t.pending ≡ None
  pub rest : IsAtRest T.plan T.waits t.now.journal t.now.minds e

-- the end of a run that halted so: one that broke off has stalled
abbrev pub end_of : Halt → End
end_of (halt.End e) = e
end_of halt.Gone = end.Stalled
end_of halt.Unkept = end.Stalled

-- a stand has this cell, this keeper and this journal
abbrev pub Has : {C K : Type 0} → Stand C K → C → K → List Entry → Type 0
Has t c k J = (t.cell ≡ c) × (t.keeper ≡ k) × (t.now.journal ≡ J)

-- how a run halts: the cell is gone or an entry isn't kept; memory is refused; a turn is; all rest; or there were as
-- many rounds as may be
pub data Halts {C K : Type 0} (told : C → C → Asked → Type 0) (keeps : K → K → Entry → Bool → Type 0) (T : Terms)
    (s : Stand C K) (h : Halt) (c : C) (k : K) (J : List Entry) : Type 0 where
  breaks : (t : Stand C K) → Leads told keeps T s t → t.place.point ≡ Over h → Has t c k J
      → Halts told keeps T s h c k J
  lacks : (t : Stand C K) → Leads told keeps T s t → h ≡ halt.End end.Memory → Unbooked told T.limits t c
      → Has t t.cell k J → Halts told keeps T s h c k J
  fills : (t : Stand C K) → Leads told keeps T s t → h ≡ halt.End end.Full → TurnsAway told T t c → Has t t.cell k J
      → Halts told keeps T s h c k J
  rests : (t : Stand C K) (e : End) → Leads told keeps T s t → h ≡ halt.End e → Rests T t e → Has t c k J
      → Halts told keeps T s h c k J
  tires : (t : Stand C K) → Leads told keeps T s t → h ≡ halt.End end.TurnLimit → t.place.point ≡ Between
      → t.place.rounds ≡ T.plan.turns → Has t c k J → Halts told keeps T s h c k J

-- moves lead from a stand to this place and this state, where some minds fit the watches
pub record Led {C K : Type 0} (told : C → C → Asked → Type 0) (keeps : K → K → Entry → Bool → Type 0) (T : Terms)
    (s : Stand C K) (b : Place) (y : State C K) : Type 0 where
  pub minds : Six Mind
  pub leads : Leads told keeps T s (stand y minds b)
  pub fits : FitAll y.watches minds

-- the same, or the run halts so on the way
abbrev pub Reaches : {C K : Type 0} → (C → C → Asked → Type 0) → (K → K → Entry → Bool → Type 0) → Terms → Stand C K
    → Option Halt → Place → State C K → Type 0
Reaches told keeps T s None b y = Led told keeps T s b y
Reaches told keeps T s (Some h) b y = Halts told keeps T s h y.cell y.keeper y.journal

-- whatever the watches fit, a run goes from a place in a state to another, or halts so
abbrev pub Runs : {C K : Type 0} → (C → C → Asked → Type 0) → (K → K → Entry → Bool → Type 0) → Terms → Option Halt
    → Place → Place → State C K → State C K → Type 0
Runs told keeps T h a b x y = (minds : Six Mind) → FitAll x.watches minds → Reaches told keeps T (stand x minds a) h b y

-- the same from one point to another of whatever round
abbrev pub Goes : {C K : Type 0} → (C → C → Asked → Type 0) → (K → K → Entry → Bool → Type 0) → BookLimits → Plan
    → Option Halt → Point → Point → State C K → State C K → Type 0
Goes told keeps l p h from next x y = (waits : Bool) (rounds : ℕ) (J : List Entry)
    → Runs told keeps (terms_of l p waits) h (place rounds J from) (place rounds J next) x y

-- the point at which a wish is to be answered so
abbrev pub answering : ℕ → Result Reply Halt → Point
answering n (Ok reply) = Answering n reply
answering n (Err h) = Over h

-- a run over a cell from this journal on, by a script with these lines, and with the command of which it isn't known
-- whether it went out, halts so with this journal
abbrev pub Controlled : {C K : Type 0} → (C → C → Asked → Type 0) → (K → K → Entry → Bool → Type 0) → Terms → Halt → C
    → K → List Entry → List Line → Option LastCommand → C → K → List Entry → Type 0
Controlled told keeps T h c k J lines last c' k' J' = Halts told keeps T (start c k J lines last) h c' k' J'
