use Rattle.std.proofs.Common.{[], arith}
use Rattle.cell_diagnosis.specs.AxisRules.{verdict}
use Rattle.cell_diagnosis.proofs.LimitLaws.{found_after}
use Rattle.cell_diagnosis.proofs.laws.lasting_faults_are_found.Goals as goal

pub returns : goal.returns
unfolding verdict
returns c m L never some enough = found_after m [] L never (omega (arith, some)) (omega (arith, enough))
