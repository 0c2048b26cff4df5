-- A run by commands: where it stands, what happens in it, in which order, and where that leads
use Rattle.std.specs.Prelude.{◌≡◌, ◌⊎◌, ◌+◌, ◌<◌, ◌^◌, ◌++◌, ◌&&◌, ℕ, Bool, true, false, not, nat_le, List, []}
use Rattle.std.specs.Prelude.{◌∷◌, Option, Some, None, codes, decimal, drop, All, if◌then◌else◌, ⊤}
use Rattle.std.specs.List.{list_any}
use Rattle.std.specs.Io.KnownBytes.{Appends}
use Rattle.cell_types.specs.Texts.{all_machine, all_station}
use Rattle.cell_types.specs.declared.words.Machine.{Machine}
use Rattle.cell_types.specs.declared.words.Totals.{Totals}
use Rattle.cell_rows.specs.Lines.{line}
use Rattle.cell_output.specs.Numbers.{number_line}
use Rattle.cell_ports.specs.declared.plan.Plan.{Plan}
use Rattle.operator_desk.specs.declared.line.Line.{Line}
use Rattle.operator_desk.specs.Next.{left_after}
use Rattle.cell_sim.specs.Commands.{after_command, fails}
use Rattle.cell_sim.specs.Hands.{after_hand}
use Rattle.cell_sim.specs.Parts.{counted, has_plate, is_machine_moving}
use Rattle.cell_sim.specs.Readings.{after_reading, after_round, shown}
use Rattle.cell_sim.specs.Simulated.{Simulated, broken}
use Rattle.cell_sim.specs.declared.fault.PlannedFault.{PlannedFault}
use Rattle.cell_method.specs.Lines.{Row}
use Rattle.cell_method.specs.Order.{IsDry}
use Rattle.cell_method.specs.Rounds.{Reads}
use Rattle.cell_method.specs.Shown.{reading_line, round_line}
use Rattle.cell_method.specs.declared.rounds.DriveEnd.{DriveEnd}
use Rattle.cell_method.specs.declared.rounds.DriveEnd.TheVariants as ends
use Rattle.cell_drive.specs.Deeds.{after_deed, next_deed, told_of}
use Rattle.cell_drive.specs.Wishes.{wish_of}
use Rattle.cell_drive.specs.declared.by_commands.Close.{Close}
use Rattle.cell_drive.specs.declared.by_commands.Close.TheVariants as close
use Rattle.cell_drive.specs.declared.by_commands.Run.{Run}
use Rattle.cell_drive.specs.declared.hands.Deed.{Deed}
use Rattle.cell_drive.specs.declared.wish.Wish.{Wish}
use Rattle.cell_drive.specs.declared.wish.Wish.TheVariants as wish

-- where a run stands: the world, the operator's lines that aren't done yet, how many rounds were opened, how many
-- commands came, and whether the method ends the run
pub record Stand : Type 0 where
  pub world : Simulated
  pub lines : List Line
  pub rounds : ℕ
  pub commands : ℕ
  pub stays : Bool

-- where it starts, in this world with this script of the operator
abbrev pub start : Simulated → List Line → Stand
start w script = record { world = w; lines = script; rounds = 0; commands = 0; stays = false }

-- where the run of a program stands
abbrev pub stand_of : Run → Stand
stand_of run = record {
  world = run.world;
  lines = drop run.done run.script.items;
  rounds = run.rounds;
  commands = run.commands;
  stays = run.stays;
}

-- WHAT HAPPENS

-- a round is opened, a line of the method is answered, the operator has his turn, or the round is over
pub data Event : Type 0 where
  Opened : Event
  Answered : Option Row → Event
  Operated : Event
  Ended : Event

-- machines are read one after the other, and each is told as it shows itself
unfoldable pub readings_told : List Machine → Simulated → List ℕ
readings_told [] w = []
readings_told (m ∷ ms) w = reading_line m (shown w m) ++ readings_told ms (after_reading w m)

unfoldable pub after_readings : List Machine → Simulated → Simulated
after_readings [] w = w
after_readings (m ∷ ms) w = after_readings ms (after_reading w m)

-- so is the round of this number, behind all machines
abbrev pub round_told : ℕ → Simulated → List ℕ
round_told number w = readings_told all_machine w ++ round_line number

-- the line of a word
abbrev pub word_line : List ℕ → List ℕ
word_line word = line (word ∷ [] ∷ [] ∷ [] ∷ [])

-- a command is sent, which its motion's fault may refuse
abbrev pub sent_line : Bool → List ℕ
sent_line failed = if failed then word_line (codes "failed") else word_line (codes "ok")

-- the readings are told once more behind a number
abbrev pub synced_line : ℕ → List ℕ
synced_line n = line (codes "synced" ∷ decimal n ∷ [] ∷ [] ∷ [])

-- what is told where a line asks for this
abbrev pub answer_to : List PlannedFault → Stand → Wish → List ℕ
answer_to faults s (wish.Send c) = sent_line (fails faults s.world c)
answer_to faults s (wish.Act a) = word_line (codes "ok")
answer_to faults s wish.Stay = word_line (codes "ok")
answer_to faults s (wish.Sync n) = synced_line n ++ round_told s.rounds s.world
answer_to faults s wish.Nothing = word_line (codes "unreadable")
answer_to faults s _ = []

-- what comes of it: a command to the machines, an act by hand, that the method ends the run, or that all machines are
-- read once more in the same round
abbrev pub after_wish : List PlannedFault → Stand → Wish → Stand
after_wish faults s (wish.Send c) =
    record s { world = after_command faults s.world c; commands = counted s.commands }
after_wish faults s (wish.Act a) = record s { world = after_hand s.world a }
after_wish faults s wish.Stay = record s { stays = true }
after_wish faults s (wish.Sync n) = record s { world = after_readings all_machine s.world; stays = true }
after_wish faults s _ = s

-- after the operator's turn: what he does next, if anything, is done
abbrev pub after_turn : Option Deed → Stand → Stand
after_turn None s = s
after_turn (Some d) s = record s { world = after_deed d s.world; lines = left_after s.lines }

abbrev pub told_by : List PlannedFault → Stand → Event → List ℕ
told_by faults s Opened = round_told (s.rounds + 1) s.world
told_by faults s (Answered row) = answer_to faults s (wish_of row)
told_by faults s Operated = told_of (next_deed s.world s.lines)
told_by faults s Ended = []

abbrev pub after_event : List PlannedFault → Stand → Event → Stand
after_event faults s Opened = record s { world = after_readings all_machine s.world; rounds = s.rounds + 1 }
after_event faults s (Answered row) = after_wish faults s (wish_of row)
after_event faults s Operated = after_turn (next_deed s.world s.lines) s
after_event faults s Ended = record s { world = after_round s.world }

-- after these events, in order, and what is told of them
unfoldable pub after_events : List PlannedFault → Stand → List Event → Stand
after_events faults s [] = s
after_events faults s (x ∷ xs) = after_events faults (after_event faults s x) xs

unfoldable pub text_of : List PlannedFault → Stand → List Event → List ℕ
text_of faults s [] = []
text_of faults s (x ∷ xs) = told_by faults s x ++ text_of faults (after_event faults s x) xs

-- the lines of the method among these events
abbrev pub row_of : Event → List (Option Row)
row_of (Answered row) = row ∷ []
row_of _ = []

unfoldable pub rows_of : List Event → List (Option Row)
rows_of [] = []
rows_of (x ∷ xs) = row_of x ++ rows_of xs

-- IN WHICH ORDER

-- where in a round a run is: between two rounds, so many lines of the round were read, the operator has his turn, the
-- round is to end, or the method said that the run is over
pub data Point : Type 0 where
  Between : Point
  Talking : ℕ → Point
  Acting : Point
  Ending : Point
  Over : Point

-- nothing moves, and no station has a plate
abbrev pub is_at_rest : Simulated → Bool
is_at_rest w = not (list_any (is_machine_moving w) all_machine) && not (list_any (has_plate w) all_station)

-- all plates are laid in, those that may be laid back too; whether 2^32 are isn't said
abbrev pub AreLaid : Simulated → Bool → Type 0
AreLaid w all = w.planned + w.cleared < 2 ^ 32 → all ≡ nat_le (w.planned + w.cleared) w.laid

-- the cell is done, or isn't: all plates are laid in, none is there, and nothing moves
abbrev pub IsDone : Simulated → Bool → Type 0
IsDone w done = (all : Bool) × AreLaid w all × (done ≡ (is_at_rest w && all))

-- a run that no method ends is finished, or isn't, as its cell is
abbrev pub IsFinished : Stand → Bool → Type 0
IsFinished s true = (s.stays ≡ false) × IsDone s.world true
IsFinished s false = (s.stays ≡ true) ⊎ IsDone s.world false

-- a round is opened at the start, and later where the run isn't finished
abbrev pub GoesOn : Stand → Type 0
GoesOn s = (s.rounds ≡ 0) ⊎ IsFinished s false

-- how a line closes the lines of its round, if it does
abbrev pub closed_by : Wish → Option Close
closed_by wish.Done = Some close.Done
closed_by wish.Quit = Some close.Quit
closed_by _ = None

-- after a line, before which so many of the round were read
abbrev pub after_line : Option Close → ℕ → Point
after_line (Some close.Done) n = Acting
after_line (Some close.Quit) n = Over
after_line _ n = Talking (n + 1)

-- the event comes at a stand and the first point, and leads to the second
abbrev pub Comes : Stand → Point → Event → Point → Type 0
Comes s Between Opened to = GoesOn s × (to ≡ Talking 0)
Comes s (Talking n) (Answered row) to = (n < 10000) × (to ≡ after_line (closed_by (wish_of row)) n)
Comes s Acting Operated to = to ≡ Ending
Comes s Ending Ended to = to ≡ Between
Comes s _ _ _ = ⊥

-- the events come in their order, from the first point to the second
unfoldable pub InOrder : List PlannedFault → Stand → Point → List Event → Point → Type 0
InOrder faults s from [] to = to ≡ from
InOrder faults s from (x ∷ xs) to =
    (mid : Point) × Comes s from x mid × InOrder faults (after_event faults s x) mid xs to

-- some events lead from one stand to another, in their order from one point to another, take these lines of the method
-- from those that were left, and tell this
pub record Leads (faults : List PlannedFault) (s t : Stand) (from to : Point) (all left : Option (List (Option Row)))
    (told : List ℕ) : Type 0 where
  pub events : List Event
  pub order : InOrder faults s from events to
  pub leads : t ≡ after_events faults s events
  pub read : Reads all (rows_of events) left
  pub text : told ≡ text_of faults s events

-- the same, and what they tell was written
pub record Goes (faults : List PlannedFault) (s t : Stand) (from to : Point) (all left : Option (List (Option Row)))
    (old new : Option (List ℕ)) : Type 0 where
  pub told : List ℕ
  pub leads : Leads faults s t from to all left told
  pub text : Appends old new told

-- HOW IT ENDS

-- the method said that the run is over, or wrote no more lines
abbrev pub HasQuit : Point → Option (List (Option Row)) → Option (List (Option Row)) → Type 0
HasQuit Over all left = ⊤
HasQuit (Talking n) all left = IsDry all left
HasQuit _ all left = ⊥

-- the lines of a round closed so
abbrev pub ClosesAt : Close → Point → Option (List (Option Row)) → Option (List (Option Row)) → Type 0
ClosesAt close.Done at all left = at ≡ Acting
ClosesAt close.Quit at all left = HasQuit at all left
ClosesAt close.Long at all left = at ≡ Talking 10000

-- a round whose lines closed so is over
abbrev pub RoundEndsAt : Close → Point → Option (List (Option Row)) → Option (List (Option Row)) → Type 0
RoundEndsAt close.Done at all left = at ≡ Between
RoundEndsAt closed at all left = ClosesAt closed at all left

-- where the method leaves a run that stands so, its end is this
abbrev pub QuitsAs : Stand → DriveEnd → Type 0
QuitsAs s ends.Finished = (s.stays ≡ true) × IsDone s.world true
QuitsAs s ends.Quit = (s.stays ≡ false) ⊎ IsDone s.world false
QuitsAs s _ = ⊥

-- a run that stands so at this point has come to this end: the cell is done behind a round, the method left, a round
-- had too many lines, or there were as many rounds as the plan allows
abbrev pub EndsAs : Plan → Stand → Point → Option (List (Option Row)) → Option (List (Option Row)) → DriveEnd → Type 0
EndsAs p s at all left ends.Finished =
    ((at ≡ Between) × IsFinished s true) ⊎ (HasQuit at all left × QuitsAs s ends.Finished)
EndsAs p s at all left ends.Quit = HasQuit at all left × QuitsAs s ends.Quit
EndsAs p s at all left ends.TooManyLines = at ≡ Talking 10000
EndsAs p s at all left ends.TurnLimit = (at ≡ Between) × (s.rounds ≡ p.turns) × GoesOn s
EndsAs p s at all left _ = ⊥

-- a run in rounds by this plan leads from a stand to another one and to this end, and what it told was written
pub record Commanded (p : Plan) (faults : List PlannedFault) (s t : Stand) (all left : Option (List (Option Row)))
    (ended : DriveEnd) (old new : Option (List ℕ)) : Type 0 where
  pub to : Point
  pub goes : Goes faults s t Between to all left old new
  pub ends : EndsAs p t to all left ended

-- no safety rule was broken
abbrev pub IsSafe : Simulated → Type 0
IsSafe w = All (λ n. n ≡ 0) (broken w)

-- what the world counts of its plates
abbrev pub counted_in : Simulated → Totals
counted_in w = record {
  entries = 0;
  admitted = w.laid;
  forged = w.forged;
  quarantined = w.removed;
  delivered = w.taken_out;
  reinstated = 0;
}

-- the lines of how many rounds a run took, how many commands came, and how often machines met
abbrev pub run_counts : ℕ → ℕ → ℕ → List ℕ
run_counts rounds commands collisions = number_line (codes "rounds") rounds
    ++ (number_line (codes "commands") commands ++ number_line (codes "collisions") collisions)
