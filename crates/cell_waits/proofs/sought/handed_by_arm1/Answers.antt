-- The three entries are looked at one by one
use Rattle.cell_waits.proofs.Finding.{arm1_law}
use Rattle.cell_waits.proofs.sought.handed_by_arm1.Goals as goal

pub returns : goal.returns
returns g c =
    rw (c.or-2.ensures, c.or.ensures, c.kept-first.ensures, c.kept-second.ensures, c.kept-third.ensures)
    (arm1_law c.args.limits (g.C.Reads.situation c.args.cell.now) c.args.sought _ _ _ c.grip-from_table.ensures
    c.drop_at-to_press1.ensures c.drop_at-to_press2.ensures)
