-- The rows of the table are the program's commands
use Rattle.std.proofs.Common.{IfOk, subst}
use Rattle.std.specs.List.{fold}
use Rattle.clap.specs.Words.{App}
use Rattle.cell_command.specs.Shape.{IsCommand, accompanied, commands, control, events, explain, explore, faulted}
use Rattle.cell_command.specs.Shape.{flagged, in_rounds, measure, parted, pictured, scripted, show, sweep, windowed}
use Rattle.cell_command.specs.Shape.{with_command}
use Rattle.cell_command.proofs.command.program.Goals as goal

pub returns : goal.returns
unfolding accompanied commands control events explain explore faulted flagged in_rounds measure parted pictured scripted
    show sweep windowed
returns c = subst (λ (a : App). IfOk c.with_commands.result (IsCommand (fold with_command a commands)))
    c.new.ensures.app c.with_commands.ensures
