-- An explanation of a cut record ends as the one that was made, or for want of memory
use Rattle.cell_explain.specs.Explained.{EndsAsScript}
use Rattle.cell_orders.proofs.Endings.{cut-ends, operator-wants}
use Rattle.cell_orders.proofs.texts.explain_operator_in.Goals as goal

pub returns : goal.returns
returns g c = (
  c.as_slice-bytes.result.now,
  cut-ends c.in_ok-tell_cut.field-0 c.explain_operator-explained.result (EndsAsScript c.as_slice-bytes.result.now)
      c.in_ok-tell_cut.ensures c.explain_operator-explained.ensures.status (operator-wants c.as_slice-bytes.result.now),
)
