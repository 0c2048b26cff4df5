-- Ports and hands are always reached
use Rattle.cell_runs.proofs.simulation.run_on.Goals as goal

pub run_over-requires-clause-reached : goal.run_over-requires-clause-reached
run_over-requires-clause-reached g c = λ old new asked told. told.0
