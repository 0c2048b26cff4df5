-- What single calls of a round did
use Rattle.std.specs.Prelude.{◌≡◌, ◌⊎◌, ◌++◌, ◌∷◌, [], Bool, true, false, Option, Some, None, Result, Ok, Err}
use Rattle.std.specs.Prelude.{List, IfSome, option_to_list}
use Rattle.cell_types.specs.declared.words.Command.{Command}
use Rattle.cell_types.specs.declared.words.Entry.{Entry}
use Rattle.cell_types.specs.declared.words.Machine.{Machine}
use Rattle.cell_rules.specs.History.{History}
use Rattle.cell_rules.specs.Legal.{first_of}
use Rattle.cell_rules.specs.declared.limits.BookLimits.{BookLimits}
use Rattle.cell_rules.specs.declared.refusal.Refusal.{Refusal}
use Rattle.cell_diagnosis.specs.declared.reading.Reading.{Reading}
use Rattle.cell_ports.specs.declared.plan.Plan.{Plan}
use Rattle.cell_ports.specs.declared.port.Act.{Act}
use Rattle.cell_turns.specs.Minds.{Mind}
use Rattle.cell_turns.specs.Schedules.{FitAll, mind_sent}
use Rattle.cell_turns.specs.Six.{at, put}
use Rattle.cell_turns.specs.Turns.{IsDecided, IsTurnedAway, mind_after}
use Rattle.cell_turns.specs.declared.six.Six.{Six}
use Rattle.cell_turns.specs.declared.watch.Watch.{Watch}
use Rattle.cell_workers.specs.declared.ends.End.TheVariants as end
use Rattle.cell_plant.specs.Asked.{Asked, Handed, Ordered, Shown}
use Rattle.cell_plant.specs.declared.gone.Gone.{Gone}
use Rattle.cell_rounds.specs.Moves.{Stops, is_lost}
use Rattle.cell_rounds.specs.declared.progress.Halt.{Halt}
use Rattle.cell_rounds.specs.declared.progress.Halt.TheVariants as halt
use Rattle.cell_rounds.specs.declared.settle.LastCommand.{LastCommand}

-- how a call halted the run, if it did
abbrev pub halted : {A : Type 0} → Result A Halt → Option Halt
halted (Ok x) = None
halted (Err h) = Some h

-- and one of the cell, which is gone then
abbrev pub gone_by : Result Bool Gone → Option Halt
gone_by (Ok done) = None
gone_by (Err gone) = Some halt.Gone

-- whatever the watches fit, a turn of m at this reading decided on this entry, or on none, and booked it
abbrev pub Turned : BookLimits → Plan → Machine → Option Reading → Option Entry → List Entry → Six Watch → List Entry
    → Six Watch → Type 0
Turned l p m r booked J ws J' ws' = (minds : Six Mind) → FitAll ws minds
    → IsDecided l J m p (at minds m) r booked × IfSome booked (λ e. first_of l J e ≡ None)
    × (J' ≡ J ++ option_to_list booked) × FitAll ws' (put minds m (mind_after J m p (at minds m) r booked))

-- whatever the watches fit, a turn of m at this reading halted the run: memory was refused to it, or the turn was
abbrev pub TurnHalts : BookLimits → Plan → Machine → Option Reading → List Entry → Six Watch → Halt → Type 0
TurnHalts l p m r J ws h = (h ≡ halt.End end.Memory)
    ⊎ ((h ≡ halt.End end.Full) × ((minds : Six Mind) → FitAll ws minds
    → (why : Refusal) × IsTurnedAway l J m p (at minds m) r why))

-- a machine was sent this command, if there is one, and its watch knows whether that was carried out
abbrev pub Sent : {C : Type 0} → (C → C → Asked → Type 0) → Machine → Option Command → Option Halt → C → C → Six Watch
    → Six Watch → Type 0
Sent told m None h c c' ws ws' = (h ≡ None) × (c' ≡ c) × (ws' ≡ ws)
Sent told m (Some x) h c c' ws ws' = (r : Result Bool Gone) × told c c' (Ordered m x r) × (h ≡ gone_by r)
    × ((minds : Six Mind) → FitAll ws minds → FitAll ws' (put minds m (mind_sent (is_lost r) (at minds m))))

-- an act was wanted and isn't done, or that isn't known
abbrev pub Misses : {C : Type 0} → (C → C → Asked → Type 0) → Option Act → Option Halt → C → C → Type 0
Misses told None h c c' = ⊥
Misses told (Some a) h c c' =
    (r : Result Bool Gone) × ((r ≡ Ok true) → ⊥) × told c c' (Handed a r) × (h ≡ gone_by r)

-- what became of an entry of the operator: the book has it, and it was kept or wasn't; or memory was refused to it, and
-- nothing changed
abbrev pub IsKept : {K A : Type 0} → (K → K → Entry → Bool → Type 0) → Entry → Result A Halt → K → K → History → History
    → Type 0
IsKept keeps e (Ok x) k k' h h' = (first_of h.limits h.entries e ≡ None)
    × (h' ≡ record { limits = h.limits; entries = h.entries ++ e ∷ [] }) × keeps k k' e true
IsKept keeps e (Err halt.Unkept) k k' h h' = (first_of h.limits h.entries e ≡ None)
    × (h' ≡ record { limits = h.limits; entries = h.entries ++ e ∷ [] }) × keeps k k' e false
IsKept keeps e (Err (halt.End end.Memory)) k k' h h' = (k' ≡ k) × (h' ≡ h)
IsKept keeps e (Err _) k k' h h' = ⊥

-- a command was sent again, its machine stopped first or not, and the watches know whether it was carried out; or the
-- cell was gone before
pub data Resends {C : Type 0} (told : C → C → Asked → Type 0) (last : LastCommand) (h : Option Halt) (c c' : C)
    (ws ws' : Six Watch) : Type 0 where
  again : (stopped : C) (r : Result Bool Gone) → Stops told last.machine true c stopped
      → told stopped c' (Ordered last.machine last.command r) → h ≡ gone_by r
      → ((minds : Six Mind) → FitAll ws minds
      → FitAll ws' (put minds last.machine (mind_sent (is_lost r) (at minds last.machine))))
      → Resends told last h c c' ws ws'
  gone : Stops told last.machine false c c' → h ≡ Some halt.Gone → ws' ≡ ws → Resends told last h c c' ws ws'

-- a machine's reading is looked at for the command that may not have gone out: it's looked for on, and the machine
-- takes no turn; or it went out, or it is sent again; of another machine nothing is done
pub data Settles {C : Type 0} (told : C → C → Asked → Type 0) (m : Machine) (answer : Result Bool Halt)
    : Option LastCommand → C → C → Six Watch → Six Watch → Option LastCommand → Type 0 where
  passes : {o : Option LastCommand} {c : C} {ws : Six Watch} → answer ≡ Ok true → Settles told m answer o c c ws ws o
  looks : {last : LastCommand} {c c' : C} {ws : Six Watch} (r : Option Reading) → answer ≡ Ok false
      → last.machine ≡ m → told c c' (Shown m r) → Settles told m answer (Some last) c c' ws ws (Some last)
  finds : {last : LastCommand} {c c' : C} {ws : Six Watch} (r : Option Reading) → answer ≡ Ok true
      → last.machine ≡ m → told c c' (Shown m r) → Settles told m answer (Some last) c c' ws ws None
  sends : {last : LastCommand} {c seen c' : C} {ws ws' : Six Watch} (r : Option Reading) → (answer ≡ Ok false → ⊥)
      → last.machine ≡ m → told c seen (Shown m r) → Resends told last (halted answer) seen c' ws ws'
      → Settles told m answer (Some last) c c' ws ws' None
