-- Where the other texts are good, what is written is of the run from the journal that was read
use Rattle.std.proofs.Common.{Ok}
use Rattle.std.proofs.lemmas.Result.{IfOk-weaker}
use Rattle.cell_runs.proofs.run_from.run_after.Goals as goal

pub returns-in-Ok-clause-whole : goal.returns-in-Ok-clause-whole
returns-in-Ok-clause-whole g c = λ text read. IfOk-weaker c.go_on_read.result _ _
    (λ ran written. (Ok c.in-Ok.inputs, (c.in-Ok.ensures.inputs, c.in-Ok.ensures.durations), written))
    (c.go_on_read.ensures.whole text read)

pub returns-in-Ok-clause-part : goal.returns-in-Ok-clause-part
returns-in-Ok-clause-part g c = λ text read failed. (
  Ok c.in-Ok.inputs,
  (c.in-Ok.ensures.inputs, c.in-Ok.ensures.durations),
  c.go_on_read.ensures.part text read failed,
)
