use Rattle.cell_rules.proofs.Profiles.{first_same, legal_same}
use Rattle.cell_rules.proofs.laws.profile_one_is_kept.Goals as goal

pub returns-clause-first : goal.returns-clause-first
returns-clause-first c = first_same

pub returns-clause-legal : goal.returns-clause-legal
returns-clause-legal c = legal_same
