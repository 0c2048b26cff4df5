-- What a port was asked
use Rattle.std.specs.Prelude.{ℕ, ◌+◌, Bool, not, List, [], ◌∷◌, ◌++◌, Option, Some, None, if◌then◌else◌}
use Rattle.cell_types.specs.declared.words.Command.{Command}
use Rattle.cell_diagnosis.specs.declared.reading.Reading.{Reading}
use Rattle.cell_ports.specs.declared.port.Act.{Act}

-- what a machine's port answered to its reads, the commands that it sent, and how many commands failed
pub record Log : Type 0 where
  pub answers : List (Option Reading)
  pub sent : List Command
  pub failures : ℕ

abbrev pub no_log : Log
no_log = record { answers = []; sent = []; failures = 0 }

abbrev pub after_read : Log → Option Reading → Log
after_read log r = record { answers = log.answers ++ r ∷ []; sent = log.sent; failures = log.failures }

-- a command that failed isn't among those sent, and counts as a failure
abbrev pub after_command : Log → Command → Bool → Log
after_command log c ok =
    record {
      answers = log.answers;
      sent = log.sent ++ (if ok then c ∷ [] else []);
      failures = log.failures + (if ok then 0 else 1);
    }

-- after an entry's command, if it has one
abbrev pub after_sending : Log → Option Command → Bool → Log
after_sending log None failed = log
after_sending log (Some c) failed = after_command log c (not failed)

-- what the operator did by hand, and how many acts failed
pub record ActLog : Type 0 where
  pub acts : List Act
  pub failures : ℕ

abbrev pub no_acts : ActLog
no_acts = record { acts = []; failures = 0 }

-- an act that failed isn't among those done, and counts as a failure
abbrev pub after_act : ActLog → Act → Bool → ActLog
after_act log a ok =
    record {
      acts = log.acts ++ (if ok then a ∷ [] else []);
      failures = log.failures + (if ok then 0 else 1);
    }

-- after the act that an entry wants, if it wants one
abbrev pub after_hand : ActLog → Option Act → Bool → ActLog
after_hand log None ok = log
after_hand log (Some a) ok = after_act log a ok
