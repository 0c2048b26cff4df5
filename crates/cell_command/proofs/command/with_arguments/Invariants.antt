-- The loop over the arguments of a command
use Rattle.std.proofs.Common.{◌≡◌, drop, map}
use Rattle.std.specs.List.{fold}
use Rattle.clap.specs.Words.{app_of, with_rule}
use Rattle.cell_command.specs.Shape.{IsLocal}
use Rattle.cell_command.specs.Table.{argument_rule}
use Rattle.cell_command.proofs.command.with_arguments.Given as goal

-- the command as it is made so far, with the arguments that are left, is the whole one
abbrev pub invariant-loop-argument : goal.invariant-loop-argument
invariant-loop-argument l = record {
  local : IsLocal l.made;
  whole : fold with_rule (app_of l.made) (map argument_rule (drop l.argument-index l.arguments))
      ≡ fold with_rule (app_of l.initial.made) (map argument_rule l.arguments);
}
