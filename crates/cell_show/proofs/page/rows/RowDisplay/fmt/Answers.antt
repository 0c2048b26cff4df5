-- A row is written in two pieces, which together are its cells
use Rattle.std.proofs.Common.{rules}
use Rattle.std.proofs.Output.{has_written_append, has_written_of_eq}
use Rattle.cell_show.specs.Rows.{count_cells, entry_cells, machine_cells, place_cells, row_text, with_commas}
use Rattle.cell_show.proofs.Commas.{row_pieces}
use Rattle.cell_show.proofs.page.rows.RowDisplay.fmt.Goals as goal

pub returns-clause-writes : goal.returns-clause-writes
unfolding row_text
returns-clause-writes g c = λ plain ok.
    let f = c.args.self.now.facts in
    let first = c.write.ensures.writes plain (search rules) in
    let second = c.write-2.ensures.writes first.plain ok in
    has_written_of_eq _ _ _ _ _ (row_pieces (with_commas (place_cells f)) (with_commas (machine_cells f))
    (with_commas (count_cells f)) (with_commas (entry_cells c.args.self.now.last)))
    (has_written_append _ _ _ _ _ _ first second)
