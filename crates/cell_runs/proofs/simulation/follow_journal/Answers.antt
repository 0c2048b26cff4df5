-- Ports and hands are always reached
use Rattle.cell_runs.proofs.simulation.follow_journal.Goals as goal

pub follow_over-requires-clause-reached : goal.follow_over-requires-clause-reached
follow_over-requires-clause-reached g c = λ old new asked told. told.0
