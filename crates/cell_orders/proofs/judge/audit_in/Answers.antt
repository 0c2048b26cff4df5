-- What is told of the file's text is what was written of it
use Rattle.std.proofs.Common.{rules}
use Rattle.cell_orders.proofs.Outcomes.{told-as}
use Rattle.cell_orders.proofs.judge.audit_in.Goals as goal

pub returns : goal.returns
returns g c =
    told-as c.ended_in.result c.told-audited.result _ _ c.ended_in.ensures.same c.told-audited.ensures
    (search rules)
