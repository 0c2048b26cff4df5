-- What is found of a line is found of the next record, which is that line's
use Rattle.std.specs.Prelude.{IfOk, Result, Ok, Err}
use Rattle.cell_rows.specs.Plain.{IsLineAt, TakesLine}
use Rattle.cell_rows.specs.declared.places.Places.{Places}
use Rattle.cell_rows.specs.declared.scan.Stop.{Stop}
use Rattle.cell_rows.proofs.Scans.{takes_line, unfit_at}
use Rattle.cell_rows.proofs.scan.next_line.Goals as goal

pub returns-clause-line : goal.returns-clause-line
returns-clause-line c = by c.places_in.result c.places_in.ensures.line
  where
    by : (o : Result Places Stop) → IfOk o (λ p. IsLineAt c.args.text.now c.in_ok-start.start c.args.to p)
        → IfOk o (λ p. TakesLine c.args.text.now c.args.at c.args.to p)
    by (Err e) h = h
    by (Ok p) h = takes_line c.args.text.now c.args.at c.in_ok-start.start c.args.to p c.in_ok-start.ensures.start h

pub returns-clause-unfit : goal.returns-clause-unfit
returns-clause-unfit c = λ e. unfit_at c.args.text.now c.args.at c.in_ok-start.start c.args.to
    c.in_ok-start.ensures.start (c.places_in.ensures.unfit e)
