-- The journal of a run in which only some machines fail is an order of events
use Rattle.std.proofs.Common.{[], refl}
use Rattle.cell_turns.specs.Schedules.{now}
use Rattle.cell_calm.proofs.Plain.{from_plain}
use Rattle.cell_calm.proofs.Possible.{tame_led}
use Rattle.cell_calm.proofs.laws.failing_runs_are_orders.Goals as goal

pub returns-clause-orders : goal.returns-clause-orders
returns-clause-orders c = λ may l p first minds steps refused failed J h tame.
    (tame_led may l p (now [] first) steps refused failed (now J minds) refl h tame).possible

pub returns-clause-left : goal.returns-clause-left
returns-clause-left c = from_plain
