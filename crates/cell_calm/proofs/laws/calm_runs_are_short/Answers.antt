-- The journal of a calm run is as short as an order of events
use Rattle.std.proofs.Common.{[], refl}
use Rattle.cell_turns.specs.Schedules.{now}
use Rattle.cell_calm.specs.Calm.{none_may}
use Rattle.cell_calm.proofs.Orders.{order_short}
use Rattle.cell_calm.proofs.Possible.{tame_led}
use Rattle.cell_calm.proofs.laws.calm_runs_are_short.Goals as goal

pub returns : goal.returns
returns c = λ l p first minds steps refused failed J h calm.
    order_short p.plates J p.plates_in_range.1
    (tame_led none_may l p (now [] first) steps refused failed (now J minds) refl h calm).possible
