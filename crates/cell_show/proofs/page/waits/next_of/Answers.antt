-- A cell is 0 only where the machine waits as before
use Rattle.std.proofs.Common.{refl}
use Rattle.cell_show.proofs.Waited.{next_told}
use Rattle.cell_show.proofs.page.waits.next_of.Goals as goal

pub returns : goal.returns
returns c =
    next_told c.args.before.now c.args.now.now
    (record { is_as_before = c.is_as_before.result; waiting = c.args.now.now })
    c.is_as_before.ensures refl
