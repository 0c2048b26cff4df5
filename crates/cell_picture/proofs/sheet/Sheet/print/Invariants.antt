-- The loop over the rows of signs
use Rattle.cell_output.specs.Watched.{IsSameWriter}
use Rattle.cell_picture.proofs.sheet.Sheet.print.Given as goal

-- it still writes to the same writer
abbrev pub invariant-loop-signs : goal.invariant-loop-signs
invariant-loop-signs g l = IsSameWriter l.fn.writer l.writer
