use Rattle.std.proofs.Common.{refl}
use Rattle.cell_diagnosis.specs.Ends.{last_are}
use Rattle.cell_diagnosis.specs.AxisRules.{verdict}
use Rattle.cell_diagnosis.specs.AxisWatches.{last_facts}
use Rattle.cell_diagnosis.proofs.axis_watch.AxisWatch.start.Goals as goal

pub returns-clause-fits : goal.returns-clause-fits
unfolding last_facts verdict last_are
returns-clause-fits c = record {
  count = refl;
  last = refl;
  two_missing = refl;
  lacked_to = refl;
  only_from =
      refl;
  verdict = refl;
}
