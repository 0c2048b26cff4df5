-- A line begins behind a line feed, or at once
use Rattle.cell_rows.proofs.Scans.{after_line_feed, at_once}
use Rattle.std.proofs.Common.{rules, arith}
use Rattle.cell_rows.proofs.scan.line_start.Goals as goal

pub returns-in-10-clause-start : goal.returns-in-10-clause-start
returns-in-10-clause-start c = after_line_feed c.args.text.now c.args.at c.args.to (omega arith) c.requires.1
    (search rules)

pub returns-in_default-clause-start : goal.returns-in_default-clause-start
returns-in_default-clause-start c = at_once c.args.text.now c.args.at c.args.to (omega arith) c.requires.1
    (search rules)
