-- What is written is written for a text for which the answer is due
use Rattle.cell_audit.proofs.Possible.{tells-some}
use Rattle.cell_audit.proofs.lines.audit_rows_watched.Goals as goal

pub returns-clause-some : goal.returns-clause-some
returns-clause-some g c =
    tells-some _ _ c.write_answer.result c.audit_rows-answer.result c.audit_rows-answer.ensures.possible
    c.write_answer.ensures.whole c.write_answer.ensures.part
