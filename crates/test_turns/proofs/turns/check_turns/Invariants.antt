use Rattle.std.proofs.Common.{◌≡◌}
use Rattle.cell_turns.specs.Minds.{machine_of_watch}
use Rattle.test_turns.proofs.turns.check_turns.Given as goal

abbrev pub invariant-loop-i : goal.invariant-loop-i
invariant-loop-i g l = machine_of_watch l.alone.watch ≡ l.turns.machine
