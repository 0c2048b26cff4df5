-- A run in rounds is one schedule
use Rattle.cell_runs.proofs.Schedules.{run_leads}
use Rattle.cell_runs.proofs.laws.runs_are_schedules.Goals as goal

pub returns : goal.returns
returns c = run_leads
