-- The journal of a run in which machines may fail is as short as an order of events
use Rattle.std.proofs.Common.{[], refl}
use Rattle.cell_turns.specs.Schedules.{now}
use Rattle.cell_calm.proofs.Orders.{any_short, failing_short}
use Rattle.cell_calm.proofs.Possible.{tame_led}
use Rattle.cell_calm.proofs.laws.failing_runs_are_short.Goals as goal

pub returns-clause-any : goal.returns-clause-any
returns-clause-any c = λ may l p first minds steps refused failed J h tame.
    any_short may p.plates J p.plates_in_range.1
    (tame_led may l p (now [] first) steps refused failed (now J minds) refl h tame).possible

pub returns-clause-one_press : goal.returns-clause-one_press
returns-clause-one_press c = λ may l p first minds steps refused failed J h tame one.
    failing_short may one p.plates J p.plates_in_range.1
    (tame_led may l p (now [] first) steps refused failed (now J minds) refl h tame).possible
