-- The loop over the lines that are done
use Rattle.std.proofs.Common.{◌≡◌, drop}
use Rattle.cell_control.proofs.going_on.go_on.Given as goal

-- so many lines are left behind
abbrev pub invariant-loop-line : goal.invariant-loop-line
invariant-loop-line l = record { left : l.script ≡ drop l._line l.initial.script }
