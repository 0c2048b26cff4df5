-- The error is due for the text, so its lines are those of an answer to it
use Rattle.cell_runs.proofs.Telling.{refused-in-part, refused-told}
use Rattle.cell_runs.proofs.following.tell_refused.Goals as goal

pub returns-clause-whole : goal.returns-clause-whole
returns-clause-whole g c = λ text due. refused-told text c.args.why _ _ c.write_answer.result due
    c.write_answer.ensures.whole

pub returns-clause-part : goal.returns-clause-part
returns-clause-part g c = λ text due failed.
    refused-in-part text c.args.why _ _ due (c.write_answer.ensures.part failed)
