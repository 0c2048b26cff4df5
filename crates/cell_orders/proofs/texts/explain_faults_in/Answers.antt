-- An explanation of a cut record ends as the one that was made, or for want of memory
use Rattle.cell_explain.specs.Explained.{EndsAsFaults}
use Rattle.cell_orders.proofs.Endings.{cut-ends, faults-want}
use Rattle.cell_orders.proofs.texts.explain_faults_in.Goals as goal

pub returns : goal.returns
returns g c = (
  c.as_slice-bytes.result.now,
  cut-ends c.in_ok-tell_cut.field-0 c.explain_faults-explained.result (EndsAsFaults c.as_slice-bytes.result.now)
      c.in_ok-tell_cut.ensures c.explain_faults-explained.ensures.status (faults-want c.as_slice-bytes.result.now),
)
