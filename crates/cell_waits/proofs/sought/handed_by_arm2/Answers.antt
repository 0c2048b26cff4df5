-- The three entries are looked at one by one
use Rattle.cell_waits.proofs.Finding.{arm2_law}
use Rattle.cell_waits.proofs.sought.handed_by_arm2.Goals as goal

pub returns : goal.returns
returns g c =
    rw (c.or-2.ensures, c.or.ensures, c.kept-first.ensures, c.kept-second.ensures, c.kept-third.ensures)
    (arm2_law c.args.limits (g.C.Reads.situation c.args.cell.now) c.args.sought _ _ _ c.grip-from_press1.ensures
    c.grip-from_press2.ensures c.drop_at-to_belt.ensures)
