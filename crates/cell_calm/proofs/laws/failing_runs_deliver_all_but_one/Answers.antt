-- How a run ends in which one press may fail
use Rattle.cell_calm.proofs.Runs.{failing_finished, failing_never_full, failing_stalled}
use Rattle.cell_calm.proofs.laws.failing_runs_deliver_all_but_one.Goals as goal

pub returns-clause-never_full : goal.returns-clause-never_full
returns-clause-never_full c = λ may l p script J r tame one room. failing_never_full may one l p room script J tame r

pub returns-clause-stalled : goal.returns-clause-stalled
returns-clause-stalled c = λ may l p script J r tame one room. failing_stalled may one l p room script J tame r

pub returns-clause-finished : goal.returns-clause-finished
returns-clause-finished c = λ may l p script J r tame one room. failing_finished may one l p room script J tame r
