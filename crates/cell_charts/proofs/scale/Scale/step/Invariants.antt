-- The loop that finds how much time lies between two marks
use Rattle.std.proofs.Common.{◌≤◌}
use Rattle.cell_charts.proofs.scale.Scale.step.Given as goal

-- the step isn't 0
abbrev pub invariant-loop-place : goal.invariant-loop-place
invariant-loop-place l = 1 ≤ l.step
