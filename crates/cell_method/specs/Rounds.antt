-- A run: where it stands, what happens in it, and where that leads
use Rattle.std.specs.Prelude.{◌≡◌, ◌+◌, ℕ, List, [], ◌∷◌, ◌++◌, length, Option, Some, None, Bool, true, false, ⊤}
use Rattle.std.specs.Prelude.{◌&&◌, ◌⊎◌, is_some, map}
use Rattle.std.specs.Io.KnownBytes.{Appends}
use Rattle.cell_rows.specs.Lines.{line, lines_of}
use Rattle.cell_types.specs.Entries.{actor_of, command_of}
use Rattle.cell_types.specs.Spelling.{record_of}
use Rattle.cell_types.specs.declared.words.Actor.{Actor}
use Rattle.cell_types.specs.declared.words.Actor.TheVariants as actor
use Rattle.cell_types.specs.declared.words.Entry.{Entry}
use Rattle.cell_types.specs.declared.words.Machine.{Machine}
use Rattle.cell_types.specs.declared.words.Station.{Station}
use Rattle.cell_rules.specs.declared.limits.BookLimits.{BookLimits}
use Rattle.cell_rules.specs.declared.refusal.Refusal.{Refusal}
use Rattle.cell_rules.specs.History.{History}
use Rattle.cell_rules.specs.Legal.{first_of}
use Rattle.cell_turns.specs.declared.six.Six.{Six}
use Rattle.cell_ports.specs.Logs.{ActLog, Log, after_act, after_hand, after_read, after_sending}
use Rattle.cell_ports.specs.declared.port.Act.TheVariants as act
use Rattle.cell_turns.specs.Acts.{act_of}
use Rattle.cell_turns.specs.Six.{at, map_six, put}
use Rattle.operator_desk.specs.declared.action.Action.{Action}
use Rattle.operator_desk.specs.declared.action.Action.TheVariants as action
use Rattle.operator_desk.specs.declared.line.Line.{Line}
use Rattle.operator_desk.specs.Next.{entry_of, left_after, next_of}
use Rattle.cell_ports.specs.declared.plan.Plan.{Plan}
use Rattle.cell_method.specs.Asked.{ask_of}
use Rattle.cell_method.specs.Ends.{end_by}
use Rattle.cell_method.specs.Lines.{Row}
use Rattle.cell_method.specs.Order.{Answered, Event, HasQuit, InOrder, Opened, Operated, Point, Shown, Talking, between}
use Rattle.cell_method.specs.Replies.{booked_as, line_of}
use Rattle.cell_method.specs.Shown.{reading_line, round_line}
use Rattle.cell_method.specs.declared.ask.Ask.{Ask}
use Rattle.cell_method.specs.declared.ask.Ask.TheVariants as ask
use Rattle.cell_method.specs.declared.error.DriveError.{DriveError}
use Rattle.cell_method.specs.declared.error.DriveError.TheVariants as error
use Rattle.cell_method.specs.declared.reply.Reply.{Reply}
use Rattle.cell_method.specs.declared.rounds.DriveEnd.{DriveEnd}
use Rattle.cell_method.specs.declared.rounds.DriveEnd.TheVariants as ends
use Rattle.cell_method.specs.declared.reply.Reply.TheVariants as reply

-- where a run stands: the journal, what each machine's port was asked, the operator's lines that aren't done yet, what
-- his hands did and whether they failed, how many rounds were opened, and the text that was written
pub record Stand : Type 0 where
  pub journal : List Entry
  pub logs : Six Log
  pub lines : List Line
  pub hands : ActLog
  pub lost : Bool
  pub rounds : ℕ
  pub text : List ℕ

abbrev pub saying : Stand → List ℕ → Stand
saying s text = record s { text = s.text ++ text }

-- after an entry of a machine, which the book refuses so, or books: then its command goes to the machine
abbrev pub after_judging : Option Refusal → Machine → Entry → Bool → Stand → Stand
after_judging (Some why) m e failed s = saying s (line_of (reply.Refused why))
after_judging None m e failed s =
    record s {
      journal = s.journal ++ e ∷ [];
      logs = put s.logs m (after_sending (at s.logs m) (command_of e) failed);
      text = s.text ++ line_of (booked_as (length (s.journal ++ e ∷ [])) failed);
    }

-- after an entry that is asked for: the operator's are none of the method's
abbrev pub after_entry : BookLimits → Actor → Entry → Bool → Stand → Stand
after_entry l (actor.Machine m) e failed s = after_judging (first_of l s.journal e) m e failed s
after_entry l actor.Operator e failed s = saying s (line_of reply.Unreadable)

-- after what a line asks for was done and answered
abbrev pub after_ask : BookLimits → Ask → Bool → Stand → Stand
after_ask l (ask.Book e) failed s = after_entry l (actor_of e) e failed s
after_ask l ask.Nothing failed s = saying s (line_of reply.Unreadable)
after_ask l _ failed s = s

abbrev pub history : BookLimits → List Entry → History
history l J = record { limits = l; entries = J }

-- the line of an entry's record
abbrev pub entry_line : Entry → List ℕ
entry_line e = line (record_of e)

-- the lines of the entries of a journal, one after the other: its text, but for the line of its profile
abbrev pub entry_lines : List Entry → List ℕ
entry_lines J = lines_of (map record_of J)

-- his hands can fail only where the action wants an act
abbrev pub can_fail : Action → Bool
can_fail a = is_some (act_of (entry_of a))

-- after the operator's action, whose act failed or was done: its entry is then booked and told
abbrev pub after_deed : Action → Bool → Stand → Stand
after_deed a true s = record s { hands = after_hand s.hands (act_of (entry_of a)) false; lost = true }
after_deed a false s =
    record s {
      journal = s.journal ++ entry_of a ∷ [];
      lines = left_after s.lines;
      hands = after_hand s.hands (act_of (entry_of a)) true;
      text = s.text ++ entry_line (entry_of a);
    }

-- after the operator's next action, if he has one
abbrev pub after_action : Option Action → Bool → Stand → Stand
after_action None failed s = s
after_action (Some a) failed s = after_deed a (can_fail a && failed) s

-- after the operator's turn: where his hands failed he does nothing more
abbrev pub after_operator : BookLimits → Bool → Bool → Stand → Stand
after_operator l true failed s = s
after_operator l false failed s = after_action (next_of s.lines (history l s.journal)) failed s

abbrev pub after_event : BookLimits → Stand → Event → Stand
after_event l s (Shown m r) = record s {
  logs = put s.logs m (after_read (at s.logs m) r);
  text =
      s.text ++ reading_line m r;
}
after_event l s Opened = record s { rounds = s.rounds + 1; text = s.text ++ round_line (s.rounds + 1) }
after_event l s (Answered row failed) = after_ask l (ask_of row) failed s
after_event l s (Operated failed) = after_operator l s.lost failed s

-- after these events, in order
unfoldable pub after_events : BookLimits → Stand → List Event → Stand
after_events l s [] = s
after_events l s (x ∷ xs) = after_events l (after_event l s x) xs

abbrev pub row_of : Event → List (Option Row)
row_of (Answered row failed) = row ∷ []
row_of _ = []

-- the lines of the method among these events
unfoldable pub rows_of : List Event → List (Option Row)
rows_of [] = []
rows_of (x ∷ xs) = row_of x ++ rows_of xs

-- these lines were read, where the lines are known
abbrev pub Reads : Option (List (Option Row)) → List (Option Row) → Option (List (Option Row)) → Type 0
Reads None rows left = ⊤
Reads (Some all) rows None = ⊥
Reads (Some all) rows (Some left) = all ≡ rows ++ left

-- some events lead from one stand to another, in their order from one point to another, and take these lines of the
-- method from those that were left
pub record Leads (l : BookLimits) (s t : Stand) (from to : Point) (all left : Option (List (Option Row))) : Type 0
  where
    pub events : List Event
    pub order : InOrder from events to
    pub leads : t ≡ after_events l s events
    pub read : Reads all (rows_of events) left

-- the journal is the stand's, and each port that tells was asked what the stand says
pub record Fits {P : Type 0} (tells : P → Bool) (log : P → Log) (J : List Entry) (ports : Six P) (s : Stand) : Type 0
  where
    pub journal : J ≡ s.journal
    pub logs : (m : Machine) → tells (at ports m) ≡ true → log (at ports m) ≡ at s.logs m

-- the hands did what the stand says, if they tell it
abbrev pub HandsFit : {O : Type 0} → (O → Bool) → (O → ActLog) → O → Stand → Type 0
HandsFit tells log hands s = tells hands ≡ true → log hands ≡ s.hands

-- the operator's script and hands, and the rounds
pub record FitsDesk {O : Type 0} (tells : O → Bool) (log : O → ActLog) (script : List Line) (is_lost : Bool)
    (his_hands : O) (opened : ℕ) (s : Stand) : Type 0 where
  pub lines : script ≡ s.lines
  pub lost : is_lost ≡ s.lost
  pub hands : HandsFit tells log his_hands s
  pub rounds : opened ≡ s.rounds

-- the operator did nothing from one stand to the other, and no round was opened
pub record SameDesk (s t : Stand) : Type 0 where
  pub lines : t.lines ≡ s.lines
  pub lost : t.lost ≡ s.lost
  pub hands : t.hands ≡ s.hands
  pub rounds : t.rounds ≡ s.rounds

-- where a run starts over this journal, these ports and hands, with this script of the operator
abbrev pub start : {P : Type 0} → (P → Log) → List Entry → Six P → ActLog → List Line → Stand
start log J ports hands lines = record {
  journal = J;
  logs = map_six log ports;
  lines = lines;
  hands = hands;
  lost = false;
  rounds = 0;
  text = [];
}

-- from a stand events lead to one of which this holds and where the cell is now so, and what was written there is its
-- text
pub record Goes {P : Type 0} (tells : P → Bool) (log : P → Log) (l : BookLimits) (s : Stand) (from to : Point)
    (all left : Option (List (Option Row))) (K : List Entry) (ports : Six P) (D : Stand → Type 0)
    (old new : Option (List ℕ)) : Type 0 where
  pub after : Stand
  pub leads : Leads l s after from to all left
  pub fits : Fits tells log K ports after
  pub desk : D after
  pub text : (first : Option (List ℕ)) → Appends first old s.text → Appends first new after.text

-- a run of the machines that broke off: events led to the journal and to what the ports were asked; what was written
-- isn't told
pub record Broke {P : Type 0} (tells : P → Bool) (log : P → Log) (l : BookLimits) (s : Stand) (from : Point)
    (all : Option (List (Option Row))) (K : List Entry) (ports : Six P) (D : Stand → Type 0) : Type 0 where
  pub after : Stand
  pub left : Option (List (Option Row))
  pub to : Point
  pub leads : Leads l s after from to all left
  pub fits : Fits tells log K ports after
  pub desk : D after

-- the operator took a plate out by hand, and memory was refused to its booking, so it isn't booked
pub record IsUnbooked {O : Type 0} (tells : O → Bool) (log : O → ActLog) (l : BookLimits) (hands : O) (s : Stand) : Type
    0 where
  pub works : s.lost ≡ false
  pub plate : ℕ
  pub station : Station
  pub next : next_of s.lines (history l s.journal) ≡ Some (action.Clear station plate)
  pub taken : tells hands ≡ true → log hands ≡ after_act s.hands (act.Remove station) true

-- what the hands did where a run broke off by this error
abbrev pub BrokeBy : {O : Type 0} → (O → Bool) → (O → ActLog) → BookLimits → O → DriveError → Stand → Type 0
BrokeBy tells log l hands error.OutOfMemory s = IsUnbooked tells log l hands s
BrokeBy tells log l hands e s = HandsFit tells log hands s

-- a run that stands so at this point has come to this end: the method ended it in a round, or between two rounds the
-- journal does, or there were as many rounds as the plan allows
abbrev pub EndsAs : Plan → Stand → Point → Option (List (Option Row)) → Option (List (Option Row)) → DriveEnd → Type 0
EndsAs p s at all left ends.Quit = HasQuit at all left
EndsAs p s at all left ends.TooManyLines = at ≡ Talking 10000
EndsAs p s at all left ends.TurnLimit = (at ≡ between) × (end_by p s.journal ≡ None) × (s.rounds ≡ p.turns)
EndsAs p s at all left e = (at ≡ between) × (Some e ≡ end_by p s.journal)

-- a run: events led in their order from its start to its end, to the journal, to what the ports and the hands were
-- asked and to the text that was written
pub record Driven {P : Type 0} (tells : P → Bool) (log : P → Log) (p : Plan) (l : BookLimits) (s : Stand)
    (all left : Option (List (Option Row))) (ended : DriveEnd) (K : List Entry) (ports : Six P) (H : Stand → Type 0)
    (old new : Option (List ℕ)) : Type 0 where
  pub after : Stand
  pub to : Point
  pub leads : Leads l s after between to all left
  pub ends : EndsAs p after to all left ended
  pub hands : H after
  pub fits : Fits tells log K ports after
  pub text : Appends old new after.text

-- what one line did: from a stand that fits it leads to one that does, and the answer is the text that comes there
abbrev pub AnswersBy : {P : Type 0} → (P → Bool) → (P → Log) → (Stand → Stand) → List Entry → Six P → List Entry → Six P
    → Reply → Type 0
AnswersBy tells log after J ports K ports' r = (s : Stand) → Fits tells log J ports s
    → Fits tells log K ports' (after s) × ((after s).text ≡ s.text ++ line_of r)

-- what the operator's turn did
pub record Operates {O : Type 0} (tells : O → Bool) (log : O → ActLog) (l : BookLimits) (failed : Bool) (s : Stand)
    (K : List Entry) (script : List Line) (is_lost : Bool) (his_hands : O) (old new : Option (List ℕ)) : Type 0 where
  pub journal : K ≡ (after_operator l s.lost failed s).journal
  pub lines : script ≡ (after_operator l s.lost failed s).lines
  pub lost : is_lost ≡ (after_operator l s.lost failed s).lost
  pub hands : HandsFit tells log his_hands (after_operator l s.lost failed s)
  pub text : (first : Option (List ℕ)) → Appends first old s.text
      → Appends first new (after_operator l s.lost failed s).text

-- the operator's turn broke off by an error: nothing was booked, or what he did wasn't told
abbrev pub OperatorBroke : {O : Type 0} → (O → Bool) → (O → ActLog) → BookLimits → DriveError → Stand → List Entry → O
    → Type 0
OperatorBroke tells log l e s K hands =
    ((K ≡ s.journal) × BrokeBy tells log l hands e s)
    ⊎ ((K ≡ (after_operator l s.lost false s).journal)
    × BrokeBy tells log l hands e (after_operator l s.lost false s))
