-- What is shown beside another text holds of the status, unless a read of that one failed
use Rattle.cell_orders.proofs.Outcomes.{ok-as}
use Rattle.cell_orders.proofs.show.show_files.Goals as goal

pub returns : goal.returns
returns g c = λ entry asked.
    ok-as c.unless_beside_failed.result c.show_text-shown.result _ c.unless_beside_failed.ensures
    (c.show_text-shown.ensures entry asked)
