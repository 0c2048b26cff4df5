use Rattle.std.proofs.Common.{◌≡◌}
use Rattle.cell_method.specs.Conversations.{KeepsWriter}
use Rattle.cell_method.specs.Lines.{lines_left}
use Rattle.cell_drive.specs.Commanded.{Between, Goes, GoesOn, stand_of}
use Rattle.cell_drive.proofs.by_commands.take_rounds.Given as goal

-- the rounds so far led here, and another one may be opened
abbrev pub invariant-loop-round : goal.invariant-loop-round
invariant-loop-round g l = record {
  writer : KeepsWriter l.fn.method l.method;
  rounds : l.run.rounds ≡ l.round;
  on : GoesOn (stand_of l.run);
  goes : Goes l.inputs.faults (stand_of l.fn.run) (stand_of l.run) Between Between
      (lines_left g.I.Read.remaining l.fn.method.lines) (lines_left g.I.Read.remaining l.method.lines)
      (g.W.Write.contents l.fn.method.writer.now) (g.W.Write.contents l.method.writer.now);
}
