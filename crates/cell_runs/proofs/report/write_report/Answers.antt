-- What is printed is the report's own journal and totals
use Rattle.std.proofs.Common.{map}
use Rattle.cell_runs.proofs.Reports.{report-printed}
use Rattle.cell_runs.proofs.report.write_report.Goals as goal

pub returns-clause-whole : goal.returns-clause-whole
returns-clause-whole g c =
    let report = c.args.report.now in
    report-printed c.write_run.result c.args.journal report.end report.journal.entries report.totals
    (map (λ w. (w.0.items, w.1)) report.workers)
    (g.W.Write.contents c.args.writer.now.writer.now) (g.W.Write.contents c.write_run.new.writer.writer.now)
    c.write_run.ensures.whole
