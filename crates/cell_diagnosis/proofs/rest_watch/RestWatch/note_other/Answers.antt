use Rattle.std.proofs.Common.{◌∙◌, refl}
use Rattle.cell_diagnosis.proofs.VerdictLaws.{then_stays}
use Rattle.cell_diagnosis.proofs.RestLaws.{rest_note, last_note, missing_note, kept_note, present_note}
use Rattle.cell_diagnosis.proofs.RestLaws.{agreeing_is_no_fault}
use Rattle.cell_diagnosis.proofs.rest_watch.RestWatch.note_other.Goals as goal

pub ruling_of-ruling-requires : goal.ruling_of-ruling-requires
ruling_of-ruling-requires c h = agreeing_is_no_fault c.args.self.now.two_missing c.args.self.now.last _ _
    c.rest_facts_of-next.ensures h

pub returns-clause-verdict : goal.returns-clause-verdict
returns-clause-verdict c L f =
    rest_note c.args.self.now L _ _ _ _ c.rest_facts_of-next.ensures c.ruling_of-ruling.ensures
    c.then_verdict-verdict.ensures f

pub returns-clause-fits : goal.returns-clause-fits
returns-clause-fits c L f = record {
  last = last_note L _ _ c.rest_facts_of-next.ensures;
  two_missing = missing_note c.args.self.now L _ _ _ c.rest_facts_of-next.ensures refl f;
  verdict = returns-clause-verdict c L f;
  kept = kept_note c.args.self.now c.args.expect.now c.args.reading c.kept_reading.result _ c.rest_facts_of-next.ensures
      c.kept_reading.ensures;
  present = present_note c.args.self.now _ _ c.rest_facts_of-next.ensures;
}

pub returns-clause-stays : goal.returns-clause-stays
returns-clause-stays c h = c.then_verdict-verdict.ensures ∙ then_stays _ _ h
