-- The commands of one machine's list of entries
use Rattle.std.specs.Prelude.{ℕ, ◌+◌, ◌≡◌, List, [], ◌∷◌, ◌++◌, Bool, true, false, if◌then◌else◌, option_to_list}
use Rattle.std.specs.List.{count_by}
use Rattle.cell_types.specs.declared.words.Command.{Command}
use Rattle.cell_types.specs.declared.words.Cause.TheVariants.{CommandFault}
use Rattle.cell_types.specs.declared.words.Entry.{Entry}
use Rattle.cell_types.specs.declared.words.Entry.TheVariants.{Declared}
use Rattle.cell_types.specs.Entries.{command_of}
use Rattle.cell_ports.specs.Logs.{Log}

abbrev pub is_command_fault : Entry → Bool
is_command_fault (Declared m CommandFault) = true
is_command_fault _ = false

-- whether the command before these entries failed, `failed` saying it of the command of the list's last entry
abbrev pub fails_before : Bool → List Entry → Bool
fails_before failed [] = failed
fails_before failed (e ∷ es) = is_command_fault e

-- the commands of the entries in order, without that of an entry directly followed by a CommandFault, and without that
-- of the last entry where it failed
abbrev pub sent_for : Bool → List Entry → List Command
sent_for failed [] = []
sent_for failed (e ∷ es) = (if fails_before failed es then [] else option_to_list (command_of e)) ++ sent_for failed es

abbrev pub commands : List Entry → List Command
commands es = sent_for false es

abbrev pub command_faults : List Entry → ℕ
command_faults es = count_by is_command_fault es

abbrev pub one_where : Bool → ℕ
one_where test = if test then 1 else 0

-- from one log to another the commands of these entries were sent. `was` and `failed` say whether the last command
-- failed, before them and after them: the first of the entries is a CommandFault exactly where it had.
pub record Sends (before : Log) (was : Bool) (after : Log) (es : List Entry) (failed : Bool) : Type 0 where
  pub begins : fails_before failed es ≡ was
  pub sent : after.sent ≡ before.sent ++ sent_for failed es
  pub failures : after.failures + one_where was ≡ before.failures + (command_faults es + one_where failed)

-- the same, and the port wasn't read
pub record SendsUnread (before : Log) (was : Bool) (after : Log) (es : List Entry) (failed : Bool) : Type 0 where
  pub sends : Sends before was after es failed
  pub unread : after.answers ≡ before.answers
