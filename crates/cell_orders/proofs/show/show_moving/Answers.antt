-- What doesn't go with a journal that plays is a wrong argument
use Rattle.std.proofs.Common.{refl, inr, rules}
use Rattle.std.specs.Prelude.{codes}
use Rattle.cell_orders.proofs.show.show_moving.Goals as goal

pub returns-then-is_mixed : goal.returns-then-is_mixed
returns-then-is_mixed g c =
    inr (
      (c.in_ok-wrong.ensures.status, refl, codes "--animate goes with --svg alone", c.in_ok-wrong.ensures.line),
      search rules,
    )
