use Rattle.std.proofs.Common.{◌≡◌}
use Rattle.cell_types.specs.declared.words.Machine.{Machine}
use Rattle.cell_turns.specs.Six.{at}
use Rattle.cell_turns.specs.Minds.{machine_of_watch}
use Rattle.test_runs.proofs.turns.left_out.take_rounds.Given as goal

abbrev pub invariant-loop-turn : goal.invariant-loop-turn
invariant-loop-turn g l = (m : Machine) → machine_of_watch (at l.stage.watches m) ≡ m
