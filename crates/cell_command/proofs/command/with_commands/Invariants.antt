-- The loop over the commands of the program
use Rattle.std.proofs.Common.{◌≡◌, drop, map}
use Rattle.std.specs.List.{fold}
use Rattle.clap.specs.Words.{app_of}
use Rattle.cell_command.specs.Shape.{IsLocal, with_command}
use Rattle.cell_command.specs.Table.{words_app}
use Rattle.cell_command.proofs.command.with_commands.Given as goal

-- the program as it is made so far, with the commands that are left, is the whole one
abbrev pub invariant-loop-words : goal.invariant-loop-words
invariant-loop-words l = record {
  local : IsLocal l.made;
  whole : fold with_command (app_of l.made) (map words_app (drop l.words-index l.all))
      ≡ fold with_command (app_of l.initial.made) (map words_app l.all);
}
