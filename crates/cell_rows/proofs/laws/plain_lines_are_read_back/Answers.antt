-- Plain records are read back from their lines
use Rattle.cell_rows.proofs.Lines.{read-back}
use Rattle.cell_rows.proofs.laws.plain_lines_are_read_back.Goals as goal

pub returns : goal.returns
returns c = read-back
