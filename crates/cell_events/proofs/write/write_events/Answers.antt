-- Where memory was refused before the first line, nothing is written
use Rattle.cell_events.proofs.Lines.{if_err-any, part-nothing}
use Rattle.cell_events.specs.Events.{events}
use Rattle.cell_events.proofs.write.write_events.Goals as goal

pub returns-in_err-events-clause-part : goal.returns-in_err-events-clause-part
returns-in_err-events-clause-part g c = λ h. if_err-any c.from_residual.result _
    (part-nothing _ (events c.args.durations.now c.args.journal.now.entries))
