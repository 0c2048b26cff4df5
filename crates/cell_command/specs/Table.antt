-- What the rows of the table of commands say
use Rattle.std.specs.Prelude.{codes, map}
use Rattle.clap.specs.Words.{App, Rule, new_app}
use Rattle.cell_command.specs.Shape.{file_rule, flag_rule, journal_rule, optional_rule, path_rule, repeated_rule}
use Rattle.cell_command.specs.Shape.{several_rule, with_rules}
use Rattle.cell_command.specs.declared.table.Argument.{Argument}
use Rattle.cell_command.specs.declared.table.Argument.TheVariants as argument
use Rattle.cell_command.specs.declared.table.CommandWords.{CommandWords}

-- what is to be read of an argument
abbrev pub argument_rule : Argument → Rule
argument_rule (argument.Path id name help) = path_rule id.now
argument_rule (argument.Flag id help) = flag_rule id.now
argument_rule (argument.File id name help) = file_rule id.now
argument_rule (argument.Word id name help) = optional_rule id.now
argument_rule argument.Journal = journal_rule
argument_rule argument.Journals = several_rule (codes "journals")
argument_rule argument.Failing = repeated_rule (codes "fail")

-- the command of a row
abbrev pub words_app : CommandWords → App
words_app words = with_rules (new_app words.name.now) (map argument_rule words.arguments.now)
