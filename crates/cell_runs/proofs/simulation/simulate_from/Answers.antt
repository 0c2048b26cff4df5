-- The simulated cell is always reached, and its run is within the plan's limits, which are the book's
use Rattle.std.proofs.Common.{sym}
use Rattle.cell_runs.proofs.Reached.{reached}
use Rattle.cell_runs.proofs.simulation.simulate_from.Goals as goal

pub run_over-requires-clause-reached : goal.run_over-requires-clause-reached
run_over-requires-clause-reached c = reached

pub returns-clause-simulated : goal.returns-clause-simulated
returns-clause-simulated c = rw (sym c.requires) (record { run = c.run_over.ensures.run; ran = c.run_over.ensures.ran })
