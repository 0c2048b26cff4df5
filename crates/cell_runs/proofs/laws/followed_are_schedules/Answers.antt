-- A journal that is followed is one schedule
use Rattle.cell_runs.proofs.Acting.{followed_lead}
use Rattle.cell_runs.proofs.laws.followed_are_schedules.Goals as goal

pub returns : goal.returns
returns c = followed_lead
