-- A record of four fields is these four
use Rattle.std.proofs.Common.{rules}
use Rattle.cell_rows.proofs.RowFacts.{four-fields}
use Rattle.cell_rows.proofs.rows.four_of.Goals as goal

pub returns-clause-some : goal.returns-clause-some
returns-clause-some c = four-fields _ _ _ _ _ (search rules) c.field.ensures c.field-2.ensures c.field-3.ensures
    c.field-4.ensures
