-- How a calm run ends
use Rattle.cell_calm.proofs.Runs.{finished_whole, never_full, never_stalled}
use Rattle.cell_calm.proofs.laws.calm_runs_deliver_all.Goals as goal

pub returns-clause-never_full : goal.returns-clause-never_full
returns-clause-never_full c = λ l p script J r calm room. never_full l p room script J calm r

pub returns-clause-never_stalled : goal.returns-clause-never_stalled
returns-clause-never_stalled c = λ l p script J r calm room. never_stalled l p room script J calm r

pub returns-clause-finished : goal.returns-clause-finished
returns-clause-finished c = λ l p script J r calm room. finished_whole l p room script J calm r
