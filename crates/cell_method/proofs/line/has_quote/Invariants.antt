use Rattle.std.proofs.Common.{◌≡◌, ◌==◌, false, take}
use Rattle.std.specs.List.{list_any}
use Rattle.cell_method.proofs.line.has_quote.Given as goal

-- no quote so far
abbrev pub invariant-loop-byte : goal.invariant-loop-byte
invariant-loop-byte l = list_any (λ b. b == 34) (take l.byte-index l.bytes) ≡ false
