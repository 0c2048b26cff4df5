-- Where the texts are good, what is written is of their run, and of a text that is refused there are no measures
use Rattle.std.proofs.lemmas.Result.{IfOk-weaker}
use Rattle.cell_runs.specs.Runs.{kept_of}
use Rattle.cell_drive.proofs.Measured.{by-texts, part-by-texts}
use Rattle.cell_drive.proofs.own.run_measured.Goals as goal

pub returns-in-Ok-clause-whole : goal.returns-in-Ok-clause-whole
returns-in-Ok-clause-whole g c = IfOk-weaker c.write_measured.result _ _
    (λ ran written. by-texts _ _ _ _ c.in-Ok.inputs _ _ _ ran.0 (kept_of ran.1)
    (c.in-Ok.ensures.inputs, c.in-Ok.ensures.durations) written)
    c.write_measured.ensures.whole

pub returns-in-Ok-clause-part : goal.returns-in-Ok-clause-part
returns-in-Ok-clause-part g c = λ failed.
    part-by-texts _ _ _ _ c.in-Ok.inputs _ _ _ (c.in-Ok.ensures.inputs, c.in-Ok.ensures.durations)
    (c.write_measured.ensures.part failed)
