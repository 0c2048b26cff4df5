-- The simulated cell is always reached
use Rattle.cell_runs.proofs.Reached.{reached}
use Rattle.cell_runs.proofs.simulation.follow_simulated.Goals as goal

pub follow_over-requires-clause-reached : goal.follow_over-requires-clause-reached
follow_over-requires-clause-reached c = reached
