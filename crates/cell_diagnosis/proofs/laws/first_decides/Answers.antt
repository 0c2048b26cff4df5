use Rattle.cell_diagnosis.specs.AxisRules.{judged, verdict}
use Rattle.cell_diagnosis.specs.RestRules.{judged_at_rest, rest}
use Rattle.cell_diagnosis.proofs.VerdictLaws as laws
use Rattle.cell_diagnosis.proofs.laws.first_decides.Goals as goal

pub returns-clause-axis : goal.returns-clause-axis
unfolding verdict
returns-clause-axis c m L i f = laws.first_decides (judged m) L i f

pub returns-clause-rest : goal.returns-clause-rest
unfolding rest
returns-clause-rest c L i f = laws.first_decides judged_at_rest L i f
