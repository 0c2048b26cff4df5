-- The loop over the files
use Rattle.std.proofs.Common.{◌≡◌, false}
use Rattle.cell_orders.specs.Measured.{AreLegal}
use Rattle.cell_orders.proofs.measure.sort.Given as goal

-- as long as no text is refused, each file so far had a legal one
abbrev pub invariant-loop-path : goal.invariant-loop-path
invariant-loop-path g l = l.sorted.refused ≡ false → AreLegal l.path-index
