use Rattle.std.proofs.Common.{◌≡◌}
use Rattle.cell_lines.specs.Known.{hearing}
use Rattle.cell_lines.specs.Said.{answers}
use Rattle.cell_lines.specs.Stands.{Passes, stand_of}
use Rattle.cell_lines.proofs.far_end.FarEnd.answer.Given as goal

-- the lines so far were passed over
abbrev pub invariant-loop-count : goal.invariant-loop-count
invariant-loop-count g l = record {
  silent : g.W.Write.contents l.self.writer ≡ g.W.Write.contents l.fn.self.writer;
  passes : Passes answers hearing (stand_of g.R.Read.remaining g.W.Write.contents l.fn.self)
      (stand_of g.R.Read.remaining g.W.Write.contents l.self);
}
