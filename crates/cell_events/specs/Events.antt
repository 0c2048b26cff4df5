-- The events of a journal: its entries with their times, and the plates and places of which they tell
use Rattle.std.specs.Prelude.{ℕ, ◌+◌, Option, Some, None, List, [], ◌∷◌, length}
use Rattle.cell_types.specs.declared.words.Entry.{Entry}
use Rattle.cell_types.specs.After.{Snapshot as State, opening, step}
use Rattle.cell_measures.specs.declared.motion.Move.{Move}
use Rattle.cell_measures.specs.declared.durations.Durations.{Durations}
use Rattle.cell_measures.specs.Waits.{starts}
use Rattle.cell_measures.specs.Times.{Ended, ends, latest, motion_of}
use Rattle.cell_events.specs.declared.event.Event.{Event}
use Rattle.cell_events.specs.Places.{plate_told, place_told}

-- an entry that ends a motion begins when the motion started; any other takes no time
abbrev pub begin_of : List Ended → Option Move → ℕ → ℕ
begin_of past (Some m) end = latest (starts m.axis) past
begin_of past None end = end

-- the event of an entry that ends at a time, after a past that left a state
abbrev pub event_at : ℕ → List Ended → State → Entry → Event
event_at end past s e =
    record {
      number = length past + 1;
      begin = begin_of past (motion_of e) end;
      end = end;
      entry = e;
      plate = plate_told s.plate e;
      place = place_told s.plate e;
    }

-- the events of entries that follow a past, in their order
abbrev pub events_after : Durations → List Ended → State → List Entry → List Event
events_after ds past s [] = []
events_after ds past s (e ∷ rest) =
    event_at (ends ds past e) past s e
    ∷ events_after ds (record { entry = e; at = ends ds past e } ∷ past) (step e s) rest

-- the events of a journal
abbrev pub events : Durations → List Entry → List Event
events ds J = events_after ds [] opening J
