use Rattle.std.proofs.Common.{◌≡◌}
use Rattle.cell_lines.specs.Known.{picture, seeing, without_readings}
use Rattle.cell_lines.specs.Said.{opens}
use Rattle.cell_lines.specs.Stands.{Passes, stand_of}
use Rattle.cell_lines.proofs.far_end.FarEnd.open.Given as goal

-- the lines so far were passed over
abbrev pub invariant-loop-count : goal.invariant-loop-count
invariant-loop-count g l = record {
  silent : g.W.Write.contents l.self.writer ≡ g.W.Write.contents l.fn.self.writer;
  passes : Passes opens seeing (record (stand_of g.R.Read.remaining g.W.Write.contents l.fn.self)
      { known = without_readings (picture l.fn.self.known) })
      (stand_of g.R.Read.remaining g.W.Write.contents l.self);
}
