use Rattle.cell_diagnosis.specs.AxisRules.{judged, verdict}
use Rattle.cell_diagnosis.specs.RestRules.{judged_at_rest, rest}
use Rattle.std.proofs.Common.{[]}
use Rattle.cell_diagnosis.proofs.VerdictLaws.{after_stays}
use Rattle.cell_diagnosis.proofs.laws.verdict_stays.Goals as goal

pub returns-clause-axis : goal.returns-clause-axis
unfolding verdict
returns-clause-axis c m L M h = after_stays (judged m) [] L M h

pub returns-clause-rest : goal.returns-clause-rest
unfolding rest
returns-clause-rest c L M h = after_stays judged_at_rest [] L M h
