use Rattle.std.proofs.Common.{◌≡◌}
use Rattle.cell_method.specs.Conversations.{KeepsWriter}
use Rattle.cell_method.specs.Lines.{lines_left}
use Rattle.cell_drive.specs.Commanded.{Goes, Talking, stand_of}
use Rattle.cell_drive.proofs.by_commands.take_lines.Given as goal

-- the lines so far were answered
abbrev pub invariant-loop-count : goal.invariant-loop-count
invariant-loop-count g l = record {
  writer : KeepsWriter l.fn.method l.method;
  rounds : l.run.rounds ≡ l.fn.run.rounds;
  goes : Goes l.faults (stand_of l.fn.run) (stand_of l.run) (Talking 0) (Talking l.count)
      (lines_left g.I.Read.remaining l.fn.method.lines) (lines_left g.I.Read.remaining l.method.lines)
      (g.W.Write.contents l.fn.method.writer.now) (g.W.Write.contents l.method.writer.now);
}
