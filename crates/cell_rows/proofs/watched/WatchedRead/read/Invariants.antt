-- The loop that reads again where a read was interrupted
use Rattle.std.proofs.Common.{◌≡◌}
use Rattle.std.specs.Prelude.{is_some}
use Rattle.std.specs.Io.KnownBytes.{Keeps}
use Rattle.cell_rows.proofs.watched.WatchedRead.read.Given as goal

-- interrupted reads took no byte and noted nothing
abbrev pub invariant-loop : goal.invariant-loop
invariant-loop g l = record {
  noted : is_some l.self.error ≡ is_some l.fn.self.error;
  untouched : Keeps (g.R.Read.remaining l.fn.self.source) (g.R.Read.remaining l.self.source);
}
