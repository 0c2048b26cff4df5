-- The loop that finds the greatest motion
use Rattle.std.proofs.Common.{◌≤◌}
use Rattle.cell_charts.proofs.grid.last_motion.Given as goal

-- no motion above 200 is taken
abbrev pub invariant-loop-square : goal.invariant-loop-square
invariant-loop-square l = l.last ≤ 200
