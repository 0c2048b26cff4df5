-- What is shown of the file's text holds of the status, unless a read failed
use Rattle.cell_orders.proofs.Outcomes.{ok-as}
use Rattle.cell_orders.proofs.show.show_in.Goals as goal

pub returns : goal.returns
returns g c = λ entry asked.
    ok-as c.ended_in.result c.show_count-shown.result _ c.ended_in.ensures.same
    (c.show_count-shown.ensures.some entry asked)
