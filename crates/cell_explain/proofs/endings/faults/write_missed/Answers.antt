-- The line has the axis's name and the word for how often
use Rattle.cell_explain.proofs.endings.faults.write_missed.Goals as goal

pub returns : goal.returns
returns g c = rw (c.axis_name.ensures, c.times.ensures) at c.writeln.ensures.bytes
