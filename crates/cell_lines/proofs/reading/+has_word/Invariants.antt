use Rattle.std.proofs.Common.{length}
use Rattle.cell_lines.proofs.reading.+has_word.Given as goal

abbrev pub decreases-has_word : goal.decreases-has_word
decreases-has_word l = length l.text.now
