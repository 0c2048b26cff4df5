-- A journal that is legal has a text
use Rattle.cell_orders.proofs.Measuring.{legal_of}
use Rattle.cell_orders.proofs.measure.find.Goals as goal

pub returns-in-Ok : goal.returns-in-Ok
returns-in-Ok g c = legal_of _ c.in-Ok.field-0 _ c.in-Ok.is c.in_ok-reading.ensures.some
