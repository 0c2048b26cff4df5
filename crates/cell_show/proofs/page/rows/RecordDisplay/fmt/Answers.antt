-- Each field but the first is written behind a comma
use Rattle.std.proofs.Common.{[], refl, rules, arith}
use Rattle.std.proofs.Output.{has_written_append, has_written_of_eq}
use Rattle.cell_types.specs.declared.fields.Field.TheVariants as field
use Rattle.cell_types.specs.Spelling.{text_of}
use Rattle.cell_show.proofs.Commas.{one_more}
use Rattle.cell_show.proofs.page.rows.RecordDisplay.fmt.Goals as goal

pub loop-place-preserved : goal.loop-place-preserved
loop-place-preserved g c = λ plain.
    has_written_of_eq _ _ _ _ _ (one_more text_of c.spell-fields.result c.loop-place.place
    (field.Word (record { ref_ptr = (0, 0); now = [] })) _ c.comma.result.now (omega arith) refl c.comma.ensures)
    (has_written_append _ _ _ _ _ _ (c.loop-place.invariant plain) (search rules))
