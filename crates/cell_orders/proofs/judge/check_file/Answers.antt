-- What is told of the settings is what was written of them
use Rattle.std.proofs.Common.{inl}
use Rattle.cell_orders.proofs.Outcomes.{whole-or-part}
use Rattle.cell_orders.proofs.judge.check_file.Goals as goal

pub returns-in-Some : goal.returns-in-Some
returns-in-Some g c =
    rw c.told.ensures (inl (
      c.as_slice.result.now,
      whole-or-part c.check_lines_watched.result _ _ c.check_lines_watched.ensures.whole
          c.check_lines_watched.ensures.part,
    ))
