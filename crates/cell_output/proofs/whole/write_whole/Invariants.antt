-- The loop that writes bytes, at each turn as many as the writer takes
use Rattle.std.proofs.Common.{◌≤◌, length, take}
use Rattle.std.specs.Io.KnownBytes.{Appends}
use Rattle.cell_output.proofs.whole.write_whole.Given as goal

-- the first bytes are written
abbrev pub invariant-writes : goal.invariant-writes
invariant-writes g l = record {
  bound : l.taken ≤ length l.bytes;
  bytes : Appends (g.W.Write.contents l.fn.writer) (g.W.Write.contents l.writer) (take l.taken l.bytes);
}
