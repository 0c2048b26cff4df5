-- What a machine's watch stands for from one turn to the next: the readings that its two watches noted, and what it
-- keeps besides. Nothing stores the readings.
use Rattle.std.specs.Prelude.{◌≡◌, ◌&&◌, Bool, true, false, not, Option, None, List, [], length}
use Rattle.cell_types.specs.declared.words.Machine.{Machine}
use Rattle.cell_types.specs.declared.words.Entry.{Entry}
use Rattle.cell_rules.specs.Views.{is_failed}
use Rattle.cell_diagnosis.specs.Ends.{last_are}
use Rattle.cell_diagnosis.specs.RestFacts.{Noted, agrees}
use Rattle.cell_diagnosis.specs.RestWatches.{RestFits}
use Rattle.cell_turns.specs.Visits.{is_visited}
use Rattle.cell_turns.specs.Following.{Following, FitsAxis}
use Rattle.cell_turns.specs.declared.watch.Memory.{Memory}
use Rattle.cell_turns.specs.declared.watch.Watch.{Watch}

pub record Mind : Type 0 where
  -- the motion that the axis watch follows
  pub axis : Option Following
  -- the readings of the rest watch, each with its Expect
  pub rest : List Noted
  -- what is kept of the last command and the last turn
  pub memory : Memory

-- of a turn after which the journal is J: what is kept of the machine in it
abbrev pub remembered : List Entry → Machine → Bool → Bool → Memory
remembered J m command_failed sign =
    record {
      command_failed = command_failed;
      sign = sign;
      failed = is_failed J m;
      visited = is_visited J m;
      length = length J;
    }

-- before the first turn, which counts from a turn that booked nothing
abbrev pub first_mind : List Entry → Machine → Mind
first_mind J m = record { axis = None; rest = []; memory = remembered J m false false }

-- the port failed on the last command
abbrev pub with_failure : Mind → Mind
with_failure s = let memory = s.memory in record s { memory = record memory { command_failed = true } }

-- the last reading was present and agreed with what was expected of it, and no sign is open
abbrev pub is_quiet : Mind → Bool
is_quiet s = last_are 1 agrees s.rest && not s.memory.sign

-- the machine that a watch is of
abbrev pub machine_of_watch : Watch → Machine
machine_of_watch w = w.machine

-- whether the last command failed, as a watch keeps it
abbrev pub has_failed_command : Watch → Bool
has_failed_command w = w.memory.command_failed

-- a watch fits
pub record FitsMind (w : Watch) (s : Mind) : Type 0 where
  pub axis : FitsAxis w.axis s.axis
  pub rest : RestFits w.rest s.rest
  pub memory : w.memory ≡ s.memory
