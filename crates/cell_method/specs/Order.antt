-- In which order the events of a run come
use Rattle.std.specs.Prelude.{◌≡◌, ◌+◌, ◌<◌, ℕ, Bool, List, [], ◌∷◌, Option, Some, ⊤}
use Rattle.cell_types.specs.Texts.{all_machine}
use Rattle.cell_types.specs.declared.words.Machine.{Machine}
use Rattle.cell_diagnosis.specs.declared.reading.Reading.{Reading}
use Rattle.cell_method.specs.Asked.{ask_of}
use Rattle.cell_method.specs.Lines.{Row}
use Rattle.cell_method.specs.declared.ask.Ask.{Ask}
use Rattle.cell_method.specs.declared.ask.Ask.TheVariants as ask
use Rattle.cell_method.specs.declared.booking.Close.{Close}
use Rattle.cell_method.specs.declared.booking.Close.TheVariants as close

-- what happens in a run: a machine was read and showed this, a round was opened, a line of the method was answered, or
-- the operator's turn came. Whether the port failed on the line's command is said, and whether the operator's hands
-- failed.
pub data Event : Type 0 where
  Shown : Machine → Option Reading → Event
  Opened : Event
  Answered : Option Row → Bool → Event
  Operated : Bool → Event

-- where in a round a run is: these machines are still to be shown, so many lines of the round were answered, the
-- operator has his turn, or the method said that the run is over
pub data Point : Type 0 where
  Showing : List Machine → Point
  Talking : ℕ → Point
  Acting : Point
  Over : Point

-- between two rounds
abbrev pub between : Point
between = Showing all_machine

-- after a line that asks for this, before which so many were answered
abbrev pub after_line : Ask → ℕ → Point
after_line ask.Done n = Acting
after_line ask.Quit n = Over
after_line _ n = Talking (n + 1)

-- the event comes at the first point, and leads to the second
abbrev pub Comes : Point → Event → Point → Type 0
Comes (Showing (m ∷ ms)) (Shown n r) to = (n ≡ m) × (to ≡ Showing ms)
Comes (Showing []) Opened to = to ≡ Talking 0
Comes (Talking n) (Answered row failed) to = (n < 10000) × (to ≡ after_line (ask_of row) n)
Comes Acting (Operated failed) to = to ≡ between
Comes _ _ _ = ⊥

-- the events come in their order, from the first point to the second
unfoldable pub InOrder : Point → List Event → Point → Type 0
InOrder from [] to = to ≡ from
InOrder from (x ∷ xs) to = (mid : Point) × Comes from x mid × InOrder mid xs to

-- no line is left, where the lines were known from the first on
abbrev pub IsDry : Option (List (Option Row)) → Option (List (Option Row)) → Type 0
IsDry (Some all) (Some rows) = rows ≡ []
IsDry all left = ⊤

-- the method said that the run is over, or wrote no more lines
abbrev pub HasQuit : Point → Option (List (Option Row)) → Option (List (Option Row)) → Type 0
HasQuit Over all left = ⊤
HasQuit (Talking n) all left = IsDry all left
HasQuit _ all left = ⊥

-- the lines of a round closed so
abbrev pub ClosesAt : Close → Point → Option (List (Option Row)) → Option (List (Option Row)) → Type 0
ClosesAt close.Done at all left = at ≡ Acting
ClosesAt close.Quit at all left = HasQuit at all left
ClosesAt close.Long at all left = at ≡ Talking 10000

-- a round whose lines closed so is over: the operator has had his turn, unless the method ended the run
abbrev pub RoundEndsAt : Close → Point → Option (List (Option Row)) → Option (List (Option Row)) → Type 0
RoundEndsAt close.Done at all left = at ≡ between
RoundEndsAt closed at all left = ClosesAt closed at all left
