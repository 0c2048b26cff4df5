-- What the events of a journal are by the rules on times
use Rattle.std.proofs.Common.{◌≡◌, List, [], ◌∷◌, ap, map, refl}
use Rattle.cell_types.specs.declared.words.Entry.{Entry}
use Rattle.cell_types.specs.After.{Snapshot as State, step}
use Rattle.cell_measures.specs.declared.durations.Durations.{Durations}
use Rattle.cell_measures.specs.Times.{Ended, ends, times_after}
use Rattle.cell_events.specs.declared.event.Event.{Event}
use Rattle.cell_events.specs.Events.{events_after}

-- the ends of the events are those of the entries
pub ends_told : (ds : Durations) (past : List Ended) (s : State) (J : List Entry)
    → map (λ (v : Event). v.end) (events_after ds past s J) ≡ times_after ds past J
ends_told ds past s [] = refl
ends_told ds past s (e ∷ rest) = ap (λ l. ends ds past e ∷ l)
    (ends_told ds (record { entry = e; at = ends ds past e } ∷ past) (step e s) rest)

-- each event is of its entry
pub entries_told : (ds : Durations) (past : List Ended) (s : State) (J : List Entry)
    → map (λ (v : Event). v.entry) (events_after ds past s J) ≡ J
entries_told ds past s [] = refl
entries_told ds past s (e ∷ rest) = ap (λ l. e ∷ l)
    (entries_told ds (record { entry = e; at = ends ds past e } ∷ past) (step e s) rest)
