use Rattle.std.proofs.Common.{◌≡◌, ◌⊎◌, None}
use Rattle.cell_method.specs.Conversations.{KeepsWriter}
use Rattle.cell_method.specs.Ends.{end_by}
use Rattle.cell_method.specs.Lines.{lines_left}
use Rattle.cell_method.specs.Order.{between}
use Rattle.cell_method.specs.Rounds.{FitsDesk, Goes, start}
use Rattle.cell_method.proofs.rounds.take_rounds.Given as goal

-- the rounds so far led here, and none of them set an end
abbrev pub invariant-loop-round : goal.invariant-loop-round
invariant-loop-round g l = record {
  writer : KeepsWriter l.fn.method l.method;
  limits : l.book.limits ≡ l.fn.book.limits;
  goes : Goes g.P.Port.tells g.P.Port.log l.fn.book.limits
      (start g.P.Port.log l.fn.book.entries l.fn.cell.ports (g.O.OperatorPort.log l.fn.cell.hands) l.fn.desk.script)
      between between (lines_left g.R.Read.remaining l.fn.method.lines)
      (lines_left g.R.Read.remaining l.method.lines) l.book.entries l.cell.ports
      (FitsDesk g.O.OperatorPort.tells g.O.OperatorPort.log l.desk.script l.desk.lost l.cell.hands l.round)
      (g.W.Write.contents l.fn.method.writer.now) (g.W.Write.contents l.method.writer.now);
  ends : (l.round ≡ 0) ⊎ (end_by l.plan l.book.entries ≡ None);
}
