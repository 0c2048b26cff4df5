use Rattle.std.proofs.Common.{◌≡◌}
use Rattle.cell_lines.proofs.far_end.FarEnd.read_end.Given as goal

-- nothing was written so far
abbrev pub invariant-loop-count : goal.invariant-loop-count
invariant-loop-count g l = g.W.Write.contents l.self.writer ≡ g.W.Write.contents l.fn.self.writer
