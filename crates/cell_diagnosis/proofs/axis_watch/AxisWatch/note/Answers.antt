use Rattle.std.proofs.Common.{◌∙◌, refl}
use Rattle.cell_diagnosis.proofs.VerdictLaws.{then_stays}
use Rattle.cell_diagnosis.proofs.AxisLaws.{verdict_note, count_note, last_note, missing_note, lacked_note, from_note}
use Rattle.cell_diagnosis.proofs.axis_watch.AxisWatch.note.Goals as goal

pub returns-clause-verdict : goal.returns-clause-verdict
returns-clause-verdict c L f =
    verdict_note c.args.self.now L _ _ _ _ c.facts_of-next.ensures c.rule-ruling.ensures.value
    c.then_verdict-self.ensures c.rule-ruling.ensures.leave c.rule-ruling.ensures.limit f

pub returns-clause-fits : goal.returns-clause-fits
returns-clause-fits c L f = record {
  count = count_note c.args.self.now L _ _ c.saturating_add-self.ensures f;
  last = last_note c.args.self.now.motion L _ _ c.facts_of-next.ensures;
  two_missing = missing_note c.args.self.now L _ _ _ c.facts_of-next.ensures refl f;
  lacked_to = lacked_note c.args.self.now L _ _ _ c.facts_of-next.ensures refl f;
  only_from = from_note c.args.self.now L _ _ _ c.facts_of-next.ensures refl f;
  verdict = returns-clause-verdict c L f;
}

pub returns-clause-stays : goal.returns-clause-stays
returns-clause-stays c h = c.then_verdict-self.ensures ∙ then_stays _ _ h
