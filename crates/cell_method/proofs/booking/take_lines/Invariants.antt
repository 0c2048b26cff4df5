use Rattle.std.proofs.Common.{◌≡◌}
use Rattle.cell_method.specs.Conversations.{KeepsWriter}
use Rattle.cell_method.specs.Lines.{lines_left}
use Rattle.cell_method.specs.Order.{Talking}
use Rattle.cell_method.specs.Rounds.{Fits, Goes, SameDesk, Stand}
use Rattle.cell_method.proofs.booking.take_lines.Given as goal

-- the lines so far were answered
abbrev pub invariant-loop-count : goal.invariant-loop-count
invariant-loop-count g l = record {
  writer : KeepsWriter l.fn.method l.method;
  limits : l.book.limits ≡ l.fn.book.limits;
  goes : (s : Stand) → Fits g.P.Port.tells g.P.Port.log l.fn.book.entries l.fn.ports s
      → Goes g.P.Port.tells g.P.Port.log l.fn.book.limits s (Talking 0) (Talking l._count)
      (lines_left g.R.Read.remaining l.fn.method.lines)
      (lines_left g.R.Read.remaining l.method.lines) l.book.entries l.ports (SameDesk s)
      (g.W.Write.contents l.fn.method.writer.now) (g.W.Write.contents l.method.writer.now);
}
