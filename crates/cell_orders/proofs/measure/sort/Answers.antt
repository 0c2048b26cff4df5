-- A journal more was found, and added to those that are measured or refused
use Rattle.cell_orders.proofs.Measuring.{more_found}
use Rattle.cell_orders.proofs.measure.sort.Goals as goal

pub loop-path-preserved : goal.loop-path-preserved
loop-path-preserved g c = more_found _ _ _ _ c.in_ok-found.ensures c.in_ok-add.ensures c.loop-path.invariant
