-- A kind without a number of readings has an empty field in its place
use Rattle.std.proofs.Common.{sym}
use Rattle.cell_sweep.proofs.cases.script_of.Goals as goal

pub returns-in-None : goal.returns-in-None
returns-in-None c =
    rw (sym c.readings.ensures, c.in-None.is)
    (rw (c.axis_word-axis.ensures, c.word_of-kind.ensures) at c.format-in-None.ensures.ok)
