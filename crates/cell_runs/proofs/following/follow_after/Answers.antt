-- Where the other texts are good, what is written is that of the journal that was read
use Rattle.std.proofs.Common.{Ok}
use Rattle.std.proofs.lemmas.Result.{IfOk-weaker}
use Rattle.cell_runs.proofs.following.follow_after.Goals as goal

pub returns-in-Ok-clause-whole : goal.returns-in-Ok-clause-whole
returns-in-Ok-clause-whole g c = λ text read. IfOk-weaker c.follow_read.result _ _
    (λ told written. (Ok c.in-Ok.inputs, c.in-Ok.ensures.inputs, written)) (c.follow_read.ensures.whole text read)

pub returns-in-Ok-clause-part : goal.returns-in-Ok-clause-part
returns-in-Ok-clause-part g c = λ text read failed. (
  Ok c.in-Ok.inputs,
  c.in-Ok.ensures.inputs,
  c.follow_read.ensures.part text read failed,
)
