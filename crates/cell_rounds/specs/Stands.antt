-- Where a run stands
use Rattle.std.specs.Prelude.{◌-◌, ℕ, Bool, false, Option, Some, None, option_map, List, length, slice_get}
use Rattle.std.specs.Option.{option_and_then}
use Rattle.cell_types.specs.Entries.{actor_of, command_of}
use Rattle.cell_types.specs.declared.words.Actor.{Actor}
use Rattle.cell_types.specs.declared.words.Actor.TheVariants as actor
use Rattle.cell_types.specs.declared.words.Command.{Command}
use Rattle.cell_types.specs.declared.words.Entry.{Entry}
use Rattle.cell_types.specs.declared.words.Machine.{Machine}
use Rattle.cell_turns.specs.declared.six.Six.{Six}
use Rattle.cell_turns.specs.declared.watch.Watch.{Watch}
use Rattle.cell_turns.specs.Six.{each}
use Rattle.cell_turns.specs.Minds.{Mind, first_mind}
use Rattle.cell_turns.specs.Schedules.{Now, now}
use Rattle.cell_plant.specs.declared.desk.Reply.{Reply}
use Rattle.cell_plant.specs.declared.desk.Wish.{Wish}
use Rattle.operator_desk.specs.declared.line.Line.{Line}
use Rattle.operator_desk.specs.declared.line.Task.{Task}
use Rattle.cell_rounds.specs.declared.progress.Halt.{Halt}
use Rattle.cell_rounds.specs.declared.settle.LastCommand.{LastCommand}
use Rattle.cell_rounds.specs.declared.settle.PendingCommand.{PendingCommand}

-- where in a round a run is: the round isn't begun; so much of what was done at the cell was heard; of this it is to be
-- decided whether it is booked; these machines are still to take their turns, and then the operator; so many wishes
-- were heard; this one is to be done; it is to be answered so; the round is to be closed; or nothing more is done,
-- since the run has halted so
pub data Point : Type 0 where
  Between : Point
  Noting : ℕ → Point
  Noted : ℕ → Task → Point
  Turning : List Machine → Point
  Serving : ℕ → Point
  Wanted : ℕ → Wish → Point
  Answering : ℕ → Reply → Point
  Closing : Point
  Over : Halt → Point

-- how many rounds were closed, the journal with which the last one was begun, and where in a round it is
pub record Place : Type 0 where
  pub rounds : ℕ
  pub begun : List Entry
  pub point : Point

abbrev pub place : ℕ → List Entry → Point → Place
place rounds begun point = record { rounds = rounds; begun = begun; point = point }

-- elsewhere in the same round
abbrev pub to : Place → Point → Place
to a point = place a.rounds a.begun point

-- the lines of the script that aren't done, and whether the operator's hands failed, after which he does no more
pub record Desk : Type 0 where
  pub lines : List Line
  pub lost : Bool

abbrev pub desk : List Line → Bool → Desk
desk lines lost = record { lines = lines; lost = lost }

-- the cell, what keeps the entries, the journal with what each watch stands for, the command of which it isn't known
-- whether it went out, the operator's desk, and the place in the run
pub record Stand (C K : Type 0) : Type 0 where
  pub cell : C
  pub keeper : K
  pub now : Now
  pub pending : Option LastCommand
  pub desk : Desk
  pub place : Place

-- what a run has from call to call
pub record State (C K : Type 0) : Type 0 where
  pub cell : C
  pub keeper : K
  pub journal : List Entry
  pub watches : Six Watch
  pub pending : Option LastCommand
  pub desk : Desk

-- the command that is looked for
abbrev pub last_of : Option PendingCommand → Option LastCommand
last_of pending = option_map (λ o. o.last) pending

abbrev pub state : {C K : Type 0} → C → K → List Entry → Six Watch → Option PendingCommand → List Line → Bool
    → State C K
state c k J ws o lines lost = record {
  cell = c;
  keeper = k;
  journal = J;
  watches = ws;
  pending = last_of o;
  desk = desk lines lost;
}

-- such a state at a place, with what its watches stand for
abbrev pub stand : {C K : Type 0} → State C K → Six Mind → Place → Stand C K
stand x minds a = record {
  cell = x.cell;
  keeper = x.keeper;
  now = now x.journal minds;
  pending = x.pending;
  desk = x.desk;
  place = a;
}

-- where a run begins that goes on from this journal, by a script with these lines: no machine has taken a turn
abbrev pub start : {C K : Type 0} → C → K → List Entry → List Line → Option LastCommand → Stand C K
start c k J lines last = record {
  cell = c;
  keeper = k;
  now = now J (each (λ m. first_mind J m));
  pending = last;
  desk = desk lines false;
  place = place 0 J Between;
}

-- a command of a machine, if there is one
abbrev pub command_at : Actor → Option Command → Option LastCommand
command_at (actor.Machine m) (Some c) = Some (record { machine = m; command = c })
command_at _ _ = None

-- the command of an entry of a machine, if it has one
abbrev pub command_by : Entry → Option LastCommand
command_by e = command_at (actor_of e) (command_of e)

-- the command of the last entry, if that is a machine's and has one
abbrev pub last_command : List Entry → Option LastCommand
last_command J = option_and_then command_by (slice_get J (length J - 1))
