use Rattle.cell_diagnosis.specs.AxisRules.{judged, verdict}
use Rattle.cell_diagnosis.specs.RestRules.{judged_at_rest, rest}
use Rattle.cell_diagnosis.proofs.VerdictLaws.{none_decides, some_decides}
use Rattle.cell_diagnosis.proofs.laws.pending_where_none_decides.Goals as goal

pub returns-clause-axis : goal.returns-clause-axis
unfolding verdict
returns-clause-axis c m L h = none_decides (judged m) L h

pub returns-clause-rest : goal.returns-clause-rest
unfolding rest
returns-clause-rest c L h = none_decides judged_at_rest L h

pub returns-clause-axis_only : goal.returns-clause-axis_only
unfolding verdict
returns-clause-axis_only c m L h = some_decides (judged m) L h

pub returns-clause-rest_only : goal.returns-clause-rest_only
unfolding rest
returns-clause-rest_only c L h = some_decides judged_at_rest L h
