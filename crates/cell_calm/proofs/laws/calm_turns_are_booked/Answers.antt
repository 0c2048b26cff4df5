-- No turn of a calm run is refused
use Rattle.std.proofs.Common.{[], refl}
use Rattle.cell_turns.specs.Schedules.{now}
use Rattle.cell_calm.specs.Calm.{none_may}
use Rattle.cell_calm.proofs.Refused.{calm_room, never_refused}
use Rattle.cell_calm.proofs.laws.calm_turns_are_booked.Goals as goal

pub returns : goal.returns
returns c = λ l p first minds steps refused failed J h calm room.
    never_refused none_may l p (calm_room l p room) room.plates (now [] first) steps refused failed (now J minds) refl h
    calm
