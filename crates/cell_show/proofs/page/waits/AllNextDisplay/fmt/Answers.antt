-- Each cell but the first is written behind a comma
use Rattle.std.proofs.Common.{rules, arith}
use Rattle.std.proofs.Output.{has_written_append, has_written_of_eq}
use Rattle.cell_show.specs.Waits.{next_cell}
use Rattle.cell_show.proofs.Commas.{one_more}
use Rattle.cell_show.proofs.page.waits.AllNextDisplay.fmt.Goals as goal

pub loop-place-preserved : goal.loop-place-preserved
loop-place-preserved g c = λ plain.
    has_written_of_eq _ _ _ _ _ (one_more next_cell c.args.self.now.0.now c.loop-place.place c.next-item.result
    c.next-item.result c.comma.result.now (omega arith) c.next-item.is c.comma.ensures)
    (has_written_append _ _ _ _ _ _ (c.loop-place.invariant plain) (search rules))
