-- The cell tells what its entries tell, and each machine is asked in turn
use Rattle.std.proofs.Common.{refl}
use Rattle.cell_show.proofs.page.waits.waits_after.Goals as goal

pub returns : goal.returns
returns c =
    rw (
      c.waits_for.ensures,
      c.waits_for-2.ensures,
      c.waits_for-3.ensures,
      c.waits_for-4.ensures,
      c.waits_for-5.ensures,
      c.waits_for-6.ensures,
      c.is_told.ensures,
    ) refl
