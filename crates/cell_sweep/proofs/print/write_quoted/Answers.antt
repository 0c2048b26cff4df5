-- What is written for a byte comes behind the quote and the bytes before it
use Rattle.cell_sweep.specs.Rows.{quoted_byte}
use Rattle.cell_sweep.proofs.Steps.{told-behind}
use Rattle.cell_sweep.proofs.print.write_quoted.Goals as goal

pub loop-byte-preserved : goal.loop-byte-preserved
loop-byte-preserved g c = told-behind quoted_byte 34 _ _ _ _ _ _ c.loop-byte-test.true c.loop-byte.invariant
    c.in_ok-write_byte.ensures
