-- Where the texts are good, what is written is that of their run, on threads or in rounds
use Rattle.std.proofs.Common.{Ok}
use Rattle.std.proofs.lemmas.Result.{IfOk-weaker}
use Rattle.cell_runs.proofs.texts.run_kept.Goals as goal

pub returns-in-Threads-clause-whole : goal.returns-in-Threads-clause-whole
returns-in-Threads-clause-whole g c =
    rw c.in-Threads.is
    (IfOk-weaker c.write_threads.result _ _
    (λ ran written. (Ok c.in-Ok.inputs, (c.in-Ok.ensures.inputs, c.in-Ok.ensures.durations), written))
    c.write_threads.ensures.whole)

pub returns-in-Rounds-clause-whole : goal.returns-in-Rounds-clause-whole
returns-in-Rounds-clause-whole g c =
    rw c.in-Rounds.is
    (IfOk-weaker c.write_rounds.result _ _
    (λ ran written. (Ok c.in-Ok.inputs, (c.in-Ok.ensures.inputs, c.in-Ok.ensures.durations), written))
    c.write_rounds.ensures.whole)
