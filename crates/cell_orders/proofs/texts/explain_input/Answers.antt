-- The status is that of the audit of what was read, or want of memory
use Rattle.std.specs.Prelude.{IfSome}
use Rattle.cell_explain.specs.Explained.{EndsAsAudit}
use Rattle.cell_orders.proofs.Endings.{as-ends, known-wants, of-known}
use Rattle.cell_orders.proofs.texts.explain_input.Goals as goal

pub returns : goal.returns
returns g c =
    let known = g.I.Read.remaining c.args.input in
    as-ends c.as_audited.result c.status_of-due.result (λ s. IfSome known (λ text. EndsAsAudit text s))
    c.as_audited.ensures
    (of-known known _ _ _ (λ text due only. (c.in_ok-read.read.answer, (due, only), c.status_of-due.ensures))
    (rw c.in_ok-read.ensures at c.journal_text.ensures.due) (rw c.in_ok-read.ensures at c.journal_text.ensures.only))
    (known-wants known)
