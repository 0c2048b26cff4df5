use Rattle.std.proofs.Common.{refl}
use Rattle.cell_diagnosis.specs.Ends.{last_are}
use Rattle.cell_diagnosis.specs.RestRules.{rest}
use Rattle.cell_diagnosis.specs.RestWatches.{last_rest_facts}
use Rattle.cell_diagnosis.proofs.rest_watch.RestWatch.start.Goals as goal

pub returns-clause-fits : goal.returns-clause-fits
unfolding last_rest_facts rest last_are
returns-clause-fits c = record {
  last = refl;
  two_missing = refl;
  verdict = refl;
  kept = λ h. absurd (cc h);
  present =
      λ h. refl;
}
