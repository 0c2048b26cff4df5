-- A run that is paused between two rounds
use Rattle.std.specs.Prelude.{◌≡◌, ℕ, Bool, false, Option, List}
use Rattle.cell_types.specs.declared.words.Entry.{Entry}
use Rattle.cell_rules.specs.declared.limits.BookLimits.{BookLimits}
use Rattle.cell_turns.specs.Minds.{first_mind}
use Rattle.cell_turns.specs.Schedules.{FitAll}
use Rattle.cell_turns.specs.Six.{each}
use Rattle.cell_turns.specs.declared.six.Six.{Six}
use Rattle.cell_turns.specs.declared.watch.Watch.{Watch}
use Rattle.cell_plant.specs.Asked.{Asked}
use Rattle.operator_desk.specs.declared.line.Line.{Line}
use Rattle.cell_rounds.specs.Moves.{Terms}
use Rattle.cell_rounds.specs.Runs.{Led}
use Rattle.cell_rounds.specs.Stands.{Between, Desk, Stand, State, desk, place}
use Rattle.cell_rounds.specs.declared.settle.LastCommand.{LastCommand}

-- what a run has between two rounds, but its cell and what keeps its entries: its book's limits and journal, what it
-- knows of its machines, the command of which it isn't known whether it went out, the operator's desk, and how many
-- rounds were closed
pub record Paused : Type 0 where
  pub limits : BookLimits
  pub journal : List Entry
  pub watches : Six Watch
  pub pending : Option LastCommand
  pub desk : Desk
  pub rounds : ℕ

-- the same with a cell and a keeper
abbrev pub state_at : {C K : Type 0} → C → K → Paused → State C K
state_at c k p =
    record {
      cell = c;
      keeper = k;
      journal = p.journal;
      watches = p.watches;
      pending = p.pending;
      desk = p.desk;
    }

-- a run that began at a stand is paused so: moves lead between two rounds, where some minds fit the watches
abbrev pub IsPaused : {C K : Type 0} → (C → C → Asked → Type 0) → (K → K → Entry → Bool → Type 0) → Terms → Stand C K
    → C → K → Paused → Type 0
IsPaused told keeps T s c k p =
    (begun : List Entry) × Led told keeps T s (place p.rounds begun Between) (state_at c k p)

-- a run from this journal on, by a script with these lines, and with the command of which it isn't known whether it
-- went out, isn't begun yet
pub record IsUnbegun (l : BookLimits) (J : List Entry) (lines : List Line) (last : Option LastCommand) (p : Paused) :
    Type 0 where
  pub limits : p.limits ≡ l
  pub journal : p.journal ≡ J
  pub fits : FitAll p.watches (each (λ m. first_mind J m))
  pub pending : p.pending ≡ last
  pub desk : p.desk ≡ desk lines false
  pub rounds : p.rounds ≡ 0
