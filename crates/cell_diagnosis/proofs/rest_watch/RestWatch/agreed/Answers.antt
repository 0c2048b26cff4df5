use Rattle.std.proofs.Common.{ap}
use Rattle.cell_diagnosis.specs.declared.rest_facts.RestFacts.{RestFacts}
use Rattle.cell_diagnosis.specs.RestWatches.{last_rest_facts}
use Rattle.cell_diagnosis.proofs.rest_watch.RestWatch.agreed.Goals as goal

pub returns : goal.returns
unfolding last_rest_facts
returns c L f = ap (λ (facts : RestFacts). facts.agrees) f.last
