-- The loop over the pieces
use Rattle.std.proofs.Common.{◌≡◌, ◌++◌, map, take}
use Rattle.std.specs.List.{concat}
use Rattle.cell_output.proofs.watched.gather.Given as goal

-- the first pieces are in the room
abbrev pub invariant-loop-piece : goal.invariant-loop-piece
invariant-loop-piece l =
    l.room.items ≡ l.fn.room.items ++ concat (map (λ p. p.now) (take l.piece-index l.pieces))
