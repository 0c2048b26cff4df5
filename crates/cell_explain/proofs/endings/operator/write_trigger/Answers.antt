-- Each trigger has its line, with the number that the book counted or the machine's name
use Rattle.cell_explain.proofs.endings.operator.write_trigger.Goals as goal

pub returns-in-Admitted : goal.returns-in-Admitted
returns-in-Admitted g c =
    let h = c.writeln-in-Admitted.ensures.bytes in rw (c.in-Admitted.is)
    (rw (c.plates.ensures, c.are.ensures, c.totals-totals.ensures) at h)

pub returns-in-Delivered : goal.returns-in-Delivered
returns-in-Delivered g c =
    let h = c.writeln-in-Delivered.ensures.bytes in rw (c.in-Delivered.is)
    (rw (c.plates-in-Delivered.ensures, c.are-in-Delivered.ensures, c.totals-totals.ensures) at h)

pub returns-in-Quarantined : goal.returns-in-Quarantined
returns-in-Quarantined g c =
    let h = c.writeln-in-Quarantined.ensures.bytes in rw (c.in-Quarantined.is)
    (rw (c.plates-in-Quarantined.ensures, c.were.ensures, c.totals-totals.ensures) at h)

pub returns-in-Failed : goal.returns-in-Failed
returns-in-Failed g c = rw c.in-Failed.is (rw c.the_machine.ensures at c.writeln-in-Failed.ensures.bytes)
