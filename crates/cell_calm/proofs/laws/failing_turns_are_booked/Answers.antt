-- No turn of a run in which machines may fail is refused
use Rattle.std.proofs.Common.{[], refl}
use Rattle.cell_turns.specs.Schedules.{now}
use Rattle.cell_calm.proofs.Refused.{any_room, failing_room, never_refused}
use Rattle.cell_calm.proofs.laws.failing_turns_are_booked.Goals as goal

pub returns-clause-any : goal.returns-clause-any
returns-clause-any c = λ may l p first minds steps refused failed J h tame room.
    never_refused may l p (any_room may l p room) room.plates (now [] first) steps refused failed (now J minds) refl h
    tame

pub returns-clause-one_press : goal.returns-clause-one_press
returns-clause-one_press c = λ may l p first minds steps refused failed J h tame one room.
    never_refused may l p (failing_room may l p one room) room.plates (now [] first) steps refused failed (now J minds)
    refl h tame
