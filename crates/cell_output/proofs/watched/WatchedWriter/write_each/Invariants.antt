-- The loop that writes one piece after the other
use Rattle.std.proofs.Common.{◌≡◌, map, take}
use Rattle.std.specs.List.{concat}
use Rattle.std.specs.Io.KnownBytes.{Appends}
use Rattle.cell_output.specs.Watched.{IsSameWriter, bytes_held, has_refused}
use Rattle.cell_output.proofs.watched.WatchedWriter.write_each.Given as goal

-- the first pieces are written, and no write was refused
abbrev pub invariant-loop-piece : goal.invariant-loop-piece
invariant-loop-piece g l = record {
  writer : IsSameWriter l.fn.self l.self;
  bytes : Appends (bytes_held g.W.Write.contents l.fn.self) (bytes_held g.W.Write.contents l.self)
      (concat (map (λ p. p.now) (take l.piece-index l.pieces)));
  same : has_refused l.self ≡ has_refused l.fn.self;
}
