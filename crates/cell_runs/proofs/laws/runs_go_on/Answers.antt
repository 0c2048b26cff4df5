-- A run from a journal on is one schedule, which goes on from that journal
use Rattle.cell_runs.proofs.Schedules.{run_from_leads, run_goes_on}
use Rattle.cell_runs.proofs.laws.runs_go_on.Goals as goal

pub returns-clause-schedules : goal.returns-clause-schedules
returns-clause-schedules c = run_from_leads

pub returns-clause-begins : goal.returns-clause-begins
returns-clause-begins c = run_goes_on
