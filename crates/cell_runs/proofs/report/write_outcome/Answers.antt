-- The journal and the totals that are printed are those of the run's book
use Rattle.std.proofs.Common.{ap}
use Rattle.cell_journal.specs.Stored.{Stored}
use Rattle.cell_runs.proofs.Reports.{outcome-in-part, outcome-printed}
use Rattle.cell_runs.proofs.report.write_outcome.Goals as goal

pub returns-clause-whole : goal.returns-clause-whole
returns-clause-whole g c =
    let outcome = c.args.outcome.now in
    outcome-printed c.write_run.result c.args.journal outcome.end outcome.book.entries _ _
    (g.W.Write.contents c.args.writer.now.writer.now) (g.W.Write.contents c.write_run.new.writer.writer.now)
    (ap (λ (s : Stored). s.entries) c.journal.ensures) c.totals.ensures c.write_run.ensures.whole

pub returns-clause-part : goal.returns-clause-part
returns-clause-part g c = λ failed.
    let outcome = c.args.outcome.now in
    outcome-in-part c.args.journal outcome.end outcome.book.entries _ _
    (g.W.Write.contents c.args.writer.now.writer.now) (g.W.Write.contents c.write_run.new.writer.writer.now)
    (ap (λ (s : Stored). s.entries) c.journal.ensures) c.totals.ensures (c.write_run.ensures.part failed)
