-- A field within the record is there
use Rattle.std.proofs.Common.{sym}
use Rattle.cell_rows.proofs.RowFacts.{field-there}
use Rattle.cell_rows.proofs.rows.field.Goals as goal

pub unreachable-requires : goal.unreachable-requires
unreachable-requires c = field-there _ c.args.place c.requires (sym c.in-None.ensures.value)
