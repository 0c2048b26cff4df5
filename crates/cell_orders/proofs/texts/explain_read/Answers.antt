-- An explanation of a cut record ends as the one that was made, or for want of memory
use Rattle.std.proofs.Common.{subst}
use Rattle.cell_explain.specs.Explained.{EndsAsAudit}
use Rattle.cell_orders.proofs.Endings.{audit-wants, cut-ends}
use Rattle.cell_orders.proofs.texts.explain_read.Goals as goal

pub returns : goal.returns
returns g c =
    subst (λ bytes. EndsAsAudit bytes c.in_ok-tell_cut.field-0) c.as_slice-bytes.ensures.value
    (cut-ends c.in_ok-tell_cut.field-0 c.explain_journal-explained.result (EndsAsAudit c.as_slice-bytes.result.now)
    c.in_ok-tell_cut.ensures c.explain_journal-explained.ensures.status (audit-wants c.as_slice-bytes.result.now))

pub returns-then-not-branch : goal.returns-then-not-branch
returns-then-not-branch g c =
    subst (λ bytes. EndsAsAudit bytes c.in_ok-explain_journal.field-0) c.as_slice-bytes.ensures.value
    c.in_ok-explain_journal.ensures.status
