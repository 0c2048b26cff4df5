-- What is found of a line is found of the next record, which is that line's
use Rattle.std.specs.Prelude.{IfSome, Option, Some, None}
use Rattle.cell_rows.specs.Plain.{IsLineAt, TakesLine}
use Rattle.cell_rows.specs.declared.places.Places.{Places}
use Rattle.cell_rows.proofs.Scans.{takes_line}
use Rattle.cell_rows.proofs.scan.line_together.Goals as goal

pub returns : goal.returns
returns c = by c.places_together.result c.places_together.ensures
  where
    by : (o : Option Places) → IfSome o (λ p. IsLineAt c.args.text.now c.in-Ok.start c.args.to p)
        → IfSome o (λ p. TakesLine c.args.text.now c.args.at c.args.to p)
    by None h = h
    by (Some p) h = takes_line c.args.text.now c.args.at c.in-Ok.start c.args.to p c.in-Ok.ensures.start h
