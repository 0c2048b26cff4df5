use Rattle.std.proofs.Common.{◌≡◌}
use Rattle.cell_lines.specs.Said.{syncs}
use Rattle.cell_lines.specs.Stands.{Passes, stand_of}
use Rattle.cell_lines.proofs.far_end.FarEnd.find.Given as goal

-- the lines so far were passed over
abbrev pub invariant-loop-count : goal.invariant-loop-count
invariant-loop-count g l = record {
  silent : g.W.Write.contents l.self.writer ≡ g.W.Write.contents l.fn.self.writer;
  passes : Passes (syncs l.length) (λ one p. p) (stand_of g.R.Read.remaining g.W.Write.contents l.fn.self)
      (stand_of g.R.Read.remaining g.W.Write.contents l.self);
}
