use Rattle.std.proofs.Common.{length}
use Rattle.cell_lines.proofs.reading.+are_among.Given as goal

abbrev pub decreases-are_among : goal.decreases-are_among
decreases-are_among l = length l.text.now
