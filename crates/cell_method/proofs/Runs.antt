-- How events follow each other
use Rattle.std.proofs.Common.{◌≡◌, ◌≢◌, ◌<◌, ◌∙◌, ◌+◌, ◌&&◌, ℕ, List, [], ◌∷◌, ◌++◌, length, Option, Some, None}
use Rattle.std.proofs.Common.{Bool, true, false, inl, inr, ap, sym, refl, subst, append_assoc, append-nil}
use Rattle.std.specs.Io.KnownBytes.{Appends}
use Rattle.std.proofs.KnownBytes.{Appends-nil, Appends-trans}
use Rattle.cell_types.specs.Entries.{actor_of, command_of}
use Rattle.cell_types.specs.declared.words.Actor.{Actor}
use Rattle.cell_types.specs.declared.words.Actor.TheVariants as actor
use Rattle.cell_types.specs.declared.words.Entry.{Entry}
use Rattle.cell_types.specs.declared.words.Machine.{Machine}
use Rattle.cell_types.specs.declared.words.Machine.TheVariants as machine
use Rattle.cell_diagnosis.specs.declared.reading.Reading.{Reading}
use Rattle.cell_rules.specs.declared.limits.BookLimits.{BookLimits}
use Rattle.cell_rules.specs.declared.refusal.Refusal.{Refusal}
use Rattle.cell_rules.specs.Legal.{first_of}
use Rattle.cell_turns.specs.declared.six.Six.{Six}
use Rattle.cell_ports.specs.Logs.{ActLog, Log, after_read, after_sending}
use Rattle.cell_ports.specs.declared.plan.Plan.{Plan}
use Rattle.cell_turns.specs.Six.{at, map_six, put}
use Rattle.operator_desk.specs.declared.action.Action.{Action}
use Rattle.operator_desk.specs.declared.line.Line.{Line}
use Rattle.operator_desk.specs.Next.{next_of}
use Rattle.cell_method.specs.Asked.{ask_of, to_book}
use Rattle.cell_method.specs.Lines.{Row, TakesLine}
use Rattle.cell_method.specs.Order.{Acting, Answered, ClosesAt, Comes, Event, InOrder, Opened, Operated, Point, Shown}
use Rattle.cell_method.specs.Order.{IsDry, Showing, Talking, after_line, between}
use Rattle.cell_method.specs.Replies.{booked_as, line_of}
use Rattle.cell_method.specs.Rounds.{AnswersBy, Broke, BrokeBy, Driven, EndsAs, Fits, FitsDesk}
use Rattle.cell_method.specs.Rounds.{Goes, HandsFit, Leads, OperatorBroke, Operates, Reads, SameDesk}
use Rattle.cell_method.specs.Rounds.{Stand, after_action, after_ask, after_deed, after_entry, after_event}
use Rattle.cell_method.specs.Rounds.{after_events, after_judging, after_operator, can_fail, history, row_of}
use Rattle.cell_method.specs.Rounds.{rows_of, saying, start}
use Rattle.cell_method.specs.Shown.{reading_line, round_line}
use Rattle.cell_method.specs.declared.ask.Ask.{Ask}
use Rattle.cell_method.specs.declared.ask.Ask.TheVariants as ask
use Rattle.cell_method.specs.declared.booking.Close.{Close}
use Rattle.cell_method.specs.declared.booking.Close.TheVariants as close
use Rattle.cell_method.specs.declared.error.DriveError.{DriveError}
use Rattle.cell_method.specs.declared.error.DriveError.TheVariants as error
use Rattle.cell_method.specs.declared.reply.Reply.{Reply}
use Rattle.cell_method.specs.declared.reply.Reply.TheVariants as reply
use Rattle.cell_method.specs.declared.rounds.DriveEnd.{DriveEnd}

-- what holds of each machine's two things holds with others at m
pub both_put : {A B : Type 0} (Q : A → B → Type 0) (m : Machine) (a : Six A) (b : Six B) (x : A) (y : B)
    → ((n : Machine) → Q (at a n) (at b n)) → Q x y → (n : Machine) → Q (at (put a m x) n) (at (put b m y) n)
both_put Q machine.Feed a b x y h q machine.Feed = q
both_put Q machine.Feed a b x y h q n = h n
both_put Q machine.Table a b x y h q machine.Table = q
both_put Q machine.Table a b x y h q n = h n
both_put Q machine.Robot a b x y h q machine.Robot = q
both_put Q machine.Robot a b x y h q n = h n
both_put Q machine.Press1 a b x y h q machine.Press1 = q
both_put Q machine.Press1 a b x y h q n = h n
both_put Q machine.Press2 a b x y h q machine.Press2 = q
both_put Q machine.Press2 a b x y h q n = h n
both_put Q machine.Deposit a b x y h q machine.Deposit = q
both_put Q machine.Deposit a b x y h q n = h n

pub map_at : {A B : Type 0} (f : A → B) (s : Six A) (m : Machine) → f (at s m) ≡ at (map_six f s) m
map_at f s machine.Feed = refl
map_at f s machine.Table = refl
map_at f s machine.Robot = refl
map_at f s machine.Press1 = refl
map_at f s machine.Press2 = refl
map_at f s machine.Deposit = refl

-- ---- events, one after the other

events-more : (l : BookLimits) (s : Stand) (xs ys : List Event)
    → after_events l s (xs ++ ys) ≡ after_events l (after_events l s xs) ys
unfolding after_events
events-more l s [] ys = refl
events-more l s (x ∷ xs) ys = events-more l (after_event l s x) xs ys

rows-more : (xs ys : List Event) → rows_of (xs ++ ys) ≡ rows_of xs ++ rows_of ys
unfolding rows_of
rows-more [] ys = refl
rows-more (x ∷ xs) ys = ap (λ rows. row_of x ++ rows) (rows-more xs ys)
    ∙ sym (append_assoc (row_of x) (rows_of xs) (rows_of ys))

-- where the lines aren't known, nothing is claimed of them
reads-more : (a b c : Option (List (Option Row))) (xs ys : List (Option Row)) → Reads a xs b → Reads b ys c
    → Reads a (xs ++ ys) c
reads-more None b c xs ys h k = tt
reads-more (Some a) None c xs ys h k = absurd h
reads-more (Some a) (Some b) None xs ys h k = absurd k
reads-more (Some a) (Some b) (Some c) xs ys h k = h ∙ ap (λ rows. xs ++ rows) k ∙ sym (append_assoc xs ys c)

reads-nil : (a : Option (List (Option Row))) → Reads a [] a
reads-nil None = tt
reads-nil (Some a) = refl

reads-one : (a b : Option (List (Option Row))) (row : Option Row) → TakesLine a b row true → Reads a (row ∷ []) b
reads-one None b row h = tt
reads-one (Some a) None row h = absurd h
reads-one (Some a) (Some b) row h = h

reads-end : (a b : Option (List (Option Row))) (row : Option Row) → TakesLine a b row false
    → (c : Option (List (Option Row))) × Reads a [] c
reads-end a b row h = (a, reads-nil a)

order-none : (at : Point) → InOrder at [] at
unfolding InOrder
order-none at = refl

order-more : (from mid to : Point) (xs ys : List Event) → InOrder from xs mid → InOrder mid ys to
    → InOrder from (xs ++ ys) to
unfolding InOrder
order-more from mid to [] ys first next = subst (λ p. InOrder p ys to) first next
order-more from mid to (x ∷ xs) ys (at, comes, rest) next = (at, comes, order-more at mid to xs ys rest next)

order-one : (from to : Point) (x : Event) → Comes from x to → InOrder from (x ∷ []) to
unfolding InOrder
order-one from to x comes = (to, comes, refl)

pub leads-none : (l : BookLimits) (s : Stand) (at : Point) (all : Option (List (Option Row)))
    → Leads l s s at at all all
unfolding after_events rows_of
leads-none l s at all = record { events = []; order = order-none at; leads = refl; read = reads-nil all }

pub leads-more : (l : BookLimits) (s t u : Stand) (from mid to : Point) (a b c : Option (List (Option Row)))
    → Leads l s t from mid a b → Leads l t u mid to b c → Leads l s u from to a c
leads-more l s t u from mid to a b c x y = record {
  events = x.events ++ y.events;
  order = order-more from mid to x.events y.events x.order y.order;
  leads = y.leads ∙ ap (λ z. after_events l z y.events) x.leads ∙ sym (events-more l s x.events y.events);
  read = subst (λ rows. Reads a rows c) (sym (rows-more x.events y.events))
      (reads-more a b c (rows_of x.events) (rows_of y.events) x.read y.read);
}

-- one event that reads no line
pub leads-one : (l : BookLimits) (s : Stand) (x : Event) (from to : Point) (all : Option (List (Option Row)))
    → row_of x ≡ [] → Comes from x to → Leads l s (after_event l s x) from to all all
unfolding after_events rows_of
leads-one l s x from to all none comes = record {
  events = x ∷ [];
  order = order-one from to x comes;
  leads = refl;
  read = subst (λ rows. Reads all rows all) (sym (append-nil (row_of x) ∙ none)) (reads-nil all);
}

-- one line of the method
pub leads-line : (l : BookLimits) (s : Stand) (row : Option Row) (failed : Bool) (n : ℕ)
    (a b : Option (List (Option Row)))
    → TakesLine a b row true → n < 10000
    → Leads l s (after_ask l (ask_of row) failed s) (Talking n) (after_line (ask_of row) n) a b
unfolding after_events rows_of
leads-line l s row failed n a b takes few = record {
  events = Answered row failed ∷ [];
  order = order-one (Talking n) (after_line (ask_of row) n) (Answered row failed) (few, refl);
  leads = refl;
  read = reads-one a b row takes;
}

-- no line is left
pub dry-end : (a b c : Option (List (Option Row))) (rows : List (Option Row)) (row : Option Row) → Reads a rows b
    → TakesLine b c row false → IsDry a c
dry-end None b c rows row read takes = tt
dry-end (Some a) None c rows row read takes = absurd read
dry-end (Some a) (Some b) None rows row read takes = absurd takes
dry-end (Some a) (Some b) (Some c) rows row read takes = takes.1

-- after a line that asks for an entry, or for nothing, the method goes on
talks-on : (o : Option Entry) (n : ℕ) → after_line (to_book o) n ≡ Talking (n + 1)
talks-on None n = refl
talks-on (Some e) n = refl

-- ---- what an event leaves as it was

same-desk : (s : Stand) → SameDesk s s
same-desk s = record { lines = refl; lost = refl; hands = refl; rounds = refl }

judging-desk : (why : Option Refusal) (m : Machine) (e : Entry) (failed : Bool) (s : Stand)
    → SameDesk s (after_judging why m e failed s)
judging-desk None m e failed s = record { lines = refl; lost = refl; hands = refl; rounds = refl }
judging-desk (Some why) m e failed s = record { lines = refl; lost = refl; hands = refl; rounds = refl }

entry-desk : (l : BookLimits) (a : Actor) (e : Entry) (failed : Bool) (s : Stand)
    → SameDesk s (after_entry l a e failed s)
entry-desk l (actor.Machine m) e failed s = judging-desk (first_of l s.journal e) m e failed s
entry-desk l actor.Operator e failed s = record { lines = refl; lost = refl; hands = refl; rounds = refl }

ask-desk : (l : BookLimits) (a : Ask) (failed : Bool) (s : Stand) → SameDesk s (after_ask l a failed s)
ask-desk l (ask.Book e) failed s = entry-desk l (actor_of e) e failed s
ask-desk l ask.Done failed s = same-desk s
ask-desk l ask.Quit failed s = same-desk s
ask-desk l ask.Nothing failed s = record { lines = refl; lost = refl; hands = refl; rounds = refl }

desk-then : (s t u : Stand) → SameDesk s t → SameDesk t u → SameDesk s u
desk-then s t u x y = record {
  lines = y.lines ∙ x.lines;
  lost = y.lost ∙ x.lost;
  hands = y.hands ∙ x.hands;
  rounds = y.rounds ∙ x.rounds;
}

-- where the operator did nothing his desk fits as before
desk-fits : {O : Type 0} (tells : O → Bool) (acts : O → ActLog) (script : List Line) (lost : Bool) (hands : O) (n k : ℕ)
    (s t : Stand)
    → FitsDesk tells acts script lost hands n s → SameDesk s t → k ≡ n → FitsDesk tells acts script lost hands k t
desk-fits tells acts script lost hands n k s t d same next = record {
  lines = d.lines ∙ sym same.lines;
  lost = d.lost ∙ sym same.lost;
  hands = λ told. d.hands told ∙ sym same.hands;
  rounds = next ∙ d.rounds ∙ sym same.rounds;
}

deed-rest : (a : Action) (failed : Bool) (s : Stand) → ((after_deed a failed s).logs ≡ s.logs)
    × ((after_deed a failed s).rounds ≡ s.rounds)
deed-rest a true s = (refl, refl)
deed-rest a false s = (refl, refl)

action-rest : (a : Option Action) (failed : Bool) (s : Stand) → ((after_action a failed s).logs ≡ s.logs)
    × ((after_action a failed s).rounds ≡ s.rounds)
action-rest None failed s = (refl, refl)
action-rest (Some a) failed s = deed-rest a (can_fail a && failed) s

operator-rest : (l : BookLimits) (lost failed : Bool) (s : Stand) → ((after_operator l lost failed s).logs ≡ s.logs)
    × ((after_operator l lost failed s).rounds ≡ s.rounds)
operator-rest l true failed s = (refl, refl)
operator-rest l false failed s = action-rest (next_of s.lines (history l s.journal)) failed s

-- ---- what one line does

-- the stand has this journal, so the book refuses there too
pub answers-refused : {P : Type 0} (tells : P → Bool) (log : P → Log) (l : BookLimits) (J K : List Entry)
    (ports : Six P) (m : Machine) (e : Entry) (why : Refusal) (failed : Bool)
    → first_of l J e ≡ Some why → K ≡ J → AnswersBy tells log (λ s. after_judging (first_of l s.journal e) m e failed s)
    J ports K ports (reply.Refused why)
answers-refused tells log l J K ports m e why failed is same = λ s fits.
    let now : first_of l s.journal e ≡ Some why = subst (λ X. first_of l X e ≡ Some why) fits.journal is in
    subst (λ w. Fits tells log K ports (after_judging w m e failed s)
    × ((after_judging w m e failed s).text ≡ s.text ++ line_of (reply.Refused why))) (sym now)
    (record { journal = same ∙ fits.journal; logs = fits.logs }, refl)

-- only one machine's port was used, and its log is known only where it tells
pub answers-booked : {P : Type 0} (tells : P → Bool) (log : P → Log) (l : BookLimits) (J K : List Entry) (ports : Six P)
    (m : Machine) (e : Entry) (failed : Bool) (port port' : P) (n : ℕ)
    → first_of l J e ≡ None → K ≡ J ++ e ∷ [] → port ≡ at ports m → (tells port' ≡ true → tells port ≡ true)
    → (tells port' ≡ true → log port' ≡ after_sending (log port) (command_of e) failed) → n ≡ length K
    → AnswersBy tells log (λ s. after_judging (first_of l s.journal e) m e failed s) J ports K (put ports m port')
    (booked_as n failed)
answers-booked tells log l J K ports m e failed port port' n is grown picked still told size = λ s fits.
    let now : first_of l s.journal e ≡ None = subst (λ X. first_of l X e ≡ None) fits.journal is in
    let journal = grown ∙ ap (λ X. X ++ e ∷ []) fits.journal in
    let sent = after_sending (at s.logs m) (command_of e) failed in
    let mine : tells port' ≡ true → log port' ≡ sent = λ t. told t
    ∙ ap (λ p. after_sending (log p) (command_of e) failed) picked
    ∙ ap (λ g. after_sending g (command_of e) failed) (fits.logs m (subst (λ p. tells p ≡ true) picked (still t))) in
    subst (λ w. Fits tells log K (put ports m port') (after_judging w m e failed s)
    × ((after_judging w m e failed s).text ≡ s.text ++ line_of (booked_as n failed))) (sym now) (
      record {
        journal = journal;
        logs = both_put (λ p g. tells p ≡ true → log p ≡ g) m ports s.logs port' sent
            fits.logs mine;
      },
      ap (λ k. s.text ++ line_of (booked_as k failed)) (sym (size ∙ ap length journal)),
    )

pub answers-same : {P : Type 0} (tells : P → Bool) (log : P → Log) (f g : Stand
    → Stand) (J K : List Entry) (ports ports' : Six P) (r : Reply)
    → ((s : Stand) → f s ≡ g s) → AnswersBy tells log f J ports K ports' r → AnswersBy tells log g J ports K ports' r
answers-same tells log f g J K ports ports' r same h =
    λ s fits. subst (λ t. Fits tells log K ports' t × (t.text ≡ s.text ++ line_of r)) (same s) (h s fits)

-- a line that can't be read is answered and does nothing else
pub answers-unread : {P : Type 0} (tells : P → Bool) (log : P → Log) (J : List Entry) (ports : Six P)
    → AnswersBy tells log (λ s. saying s (line_of reply.Unreadable)) J ports J ports reply.Unreadable
answers-unread tells log J ports = λ s fits. (record { journal = fits.journal; logs = fits.logs }, refl)

-- an entry of a machine, or of the operator
pub machines-entry : (l : BookLimits) (e : Entry) (m : Machine) (failed : Bool) (s : Stand)
    → actor_of e ≡ actor.Machine m → after_judging (first_of l s.journal e) m e failed s
    ≡ after_ask l (ask.Book e) failed s
machines-entry l e m failed s is = ap (λ a. after_entry l a e failed s) (sym is)

-- what is the operator's can't be booked by a line, and is answered as if it couldn't be read
pub operators-entry : (l : BookLimits) (e : Entry) (failed : Bool) (s : Stand) → actor_of e ≡ actor.Operator
    → saying s (line_of reply.Unreadable) ≡ after_ask l (ask.Book e) failed s
operators-entry l e failed s is = ap (λ a. after_entry l a e failed s) (sym is)

-- ---- from stand to stand

pub goes-start : {P : Type 0} (tells : P → Bool) (log : P → Log) (l : BookLimits) (s : Stand) (at : Point)
    (all : Option (List (Option Row))) (J : List Entry) (ports : Six P) (D : Stand → Type 0) (w : Option (List ℕ))
    → Fits tells log J ports s → D s → Goes tells log l s at at all all J ports D w w
goes-start tells log l s at all J ports D w fits d = record {
  after = s;
  leads = leads-none l s at all;
  fits = fits;
  desk = d;
  text = λ first h. h;
}

-- nothing happened yet
pub goes-nothing : {P : Type 0} (tells : P → Bool) (log : P → Log) (l : BookLimits) (s : Stand) (at : Point)
    (all : Option (List (Option Row))) (J : List Entry) (ports : Six P) (w : Option (List ℕ))
    → Fits tells log J ports s → Goes tells log l s at at all all J ports (SameDesk s) w w
goes-nothing tells log l s at all J ports w fits =
    goes-start tells log l s at all J ports (SameDesk s) w fits (same-desk s)

pub goes-then : {P : Type 0} (tells : P → Bool) (log : P → Log) (l : BookLimits) (s : Stand) (from mid to : Point)
    (a b c : Option (List (Option Row))) (J K : List Entry) (ports ports' : Six P) (D E : Stand → Type 0)
    (w x y : Option (List ℕ))
    → (first : Goes tells log l s from mid a b J ports D w x) → Goes tells log l first.after mid to b c K ports' E x y
    → Goes tells log l s from to a c K ports' E w y
goes-then tells log l s from mid to a b c J K ports ports' D E w x y first next = record {
  after = next.after;
  leads = leads-more l s first.after next.after from mid to a b c first.leads next.leads;
  fits = next.fits;
  desk = next.desk;
  text = λ z h. next.text z (first.text z h);
}

-- a line that asks for an entry, or for nothing
line-leads : (l : BookLimits) (t : Stand) (row : Option Row) (o : Option Entry) (failed : Bool) (n : ℕ)
    (b c : Option (List (Option Row)))
    → TakesLine b c row true → n < 10000 → to_book o ≡ ask_of row
    → Leads l t (after_ask l (to_book o) failed t) (Talking n) (Talking (n + 1)) b c
line-leads l t row o failed n b c takes few is =
    subst (λ p. Leads l t (after_ask l (to_book o) failed t) (Talking n) p b c) (talks-on o n)
    (subst (λ q. Leads l t (after_ask l q failed t) (Talking n) (after_line q n) b c) (sym is)
    (leads-line l t row failed n b c takes few))

-- that a line was read, done and answered is one event
pub goes-line : {P : Type 0} (tells : P → Bool) (log : P → Log) (l : BookLimits) (s : Stand) (from : Point) (n : ℕ)
    (a b c : Option (List (Option Row))) (J K : List Entry) (ports ports' : Six P) (w x y : Option (List ℕ))
    (row : Option Row) (o : Option Entry) (failed : Bool) (r : Reply)
    → Goes tells log l s from (Talking n) a b J ports (SameDesk s) w x → TakesLine b c row true → n < 10000
    → to_book o ≡ ask_of row
    → AnswersBy tells log (after_ask l (to_book o) failed) J ports K ports' r → Appends x y (line_of r)
    → Goes tells log l s from (Talking (n + 1)) a c K ports' (SameDesk s) w y
goes-line tells log l s from n a b c J K ports ports' w x y row o failed r goes takes few is answers told =
    let t = goes.after in
    let did = answers t goes.fits in
    record {
      after = after_ask l (to_book o) failed t;
      leads = leads-more l s t (after_ask l (to_book o) failed t) from (Talking n) (Talking (n + 1)) a b c goes.leads
          (line-leads l t row o failed n b c takes few is);
      fits = did.0;
      desk = desk-then s t (after_ask l (to_book o) failed t) goes.desk (ask-desk l (to_book o) failed t);
      text = λ z h. subst (Appends z y) (sym did.1) (Appends-trans z x y t.text (line_of r) (goes.text z h) told);
    }

-- a line that closes the round
pub goes-close : {P : Type 0} (tells : P → Bool) (log : P → Log) (l : BookLimits) (s : Stand) (from : Point) (n : ℕ)
    (a b c : Option (List (Option Row))) (J : List Entry) (ports : Six P) (D : Stand → Type 0) (w x : Option (List ℕ))
    (row : Option Row) (asks : Ask)
    → Goes tells log l s from (Talking n) a b J ports D w x → TakesLine b c row true → n < 10000 → asks ≡ ask_of row
    → ((t : Stand) → after_ask l asks false t ≡ t)
    → Goes tells log l s from (after_line asks n) a c J ports D w x
goes-close tells log l s from n a b c J ports D w x row asks goes takes few is same =
    let t = goes.after in
    record {
      after = t;
      leads = leads-more l s t t from (Talking n) (after_line asks n) a b c goes.leads
          (subst (λ u. Leads l t u (Talking n) (after_line asks n) b c) (same t)
          (subst (λ q. Leads l t (after_ask l q false t) (Talking n) (after_line q n) b c) (sym is)
          (leads-line l t row false n b c takes few)));
      fits = goes.fits;
      desk = goes.desk;
      text = goes.text;
    }

-- that the lines are over is no event
leads-end : (l : BookLimits) (s : Stand) (at : Point) (a b : Option (List (Option Row))) (row : Option Row)
    → TakesLine a b row false
    → Leads l s s at at a b
unfolding after_events rows_of
leads-end l s at None b row h = record { events = []; order = order-none at; leads = refl; read = tt }
leads-end l s at (Some a) None row h = absurd h
leads-end l s at (Some a) (Some b) row h = record {
  events = [];
  order = order-none at;
  leads = refl;
  read = h.0 ∙ sym h.1;
}

pub goes-end : {P : Type 0} (tells : P → Bool) (log : P → Log) (l : BookLimits) (s : Stand) (from to : Point)
    (a b c : Option (List (Option Row))) (J : List Entry) (ports : Six P) (D : Stand → Type 0) (w x : Option (List ℕ))
    (row : Option Row)
    → Goes tells log l s from to a b J ports D w x → TakesLine b c row false
    → Goes tells log l s from to a c J ports D w x
goes-end tells log l s from to a b c J ports D w x row goes takes = record {
  after = goes.after;
  leads = leads-more l s goes.after goes.after from to to a b c goes.leads (leads-end l goes.after to b c row takes);
  fits = goes.fits;
  desk = goes.desk;
  text = goes.text;
}

-- it is the machine's turn to be shown
shown-comes : (m : Machine) (ms rest : List Machine) (r : Option Reading) → ms ≡ m ∷ rest
    → Comes (Showing ms) (Shown m r) (Showing rest)
shown-comes m ms rest r turn = subst (λ xs. Comes (Showing xs) (Shown m r) (Showing rest)) (sym turn) (refl, refl)

-- a machine was read: its port has one more reading, as the stand has
read-fits : {P : Type 0} (tells : P → Bool) (log : P → Log) (l : BookLimits) (J : List Entry) (ports : Six P)
    (t : Stand)
    (m : Machine) (r : Option Reading) (port port' : P)
    → Fits tells log J ports t → port ≡ at ports m → (tells port' ≡ true → tells port ≡ true)
    → (tells port' ≡ true → log port' ≡ after_read (log port) r)
    → Fits tells log J (put ports m port') (after_event l t (Shown m r))
read-fits tells log l J ports t m r port port' fits picked still told =
    let read = after_read (at t.logs m) r in
    let mine : tells port' ≡ true → log port' ≡ read = λ h. told h ∙ ap (λ p. after_read (log p) r) picked
    ∙ ap (λ g. after_read g r) (fits.logs m (subst (λ p. tells p ≡ true) picked (still h))) in
    record {
      journal = fits.journal;
      logs = both_put (λ p g. tells p ≡ true → log p ≡ g) m ports t.logs port' read fits.logs mine;
    }

pub goes-shown : {P : Type 0} (tells : P → Bool) (log : P → Log) (l : BookLimits) (s : Stand) (from : Point)
    (ms rest : List Machine)
    (a b : Option (List (Option Row))) (J : List Entry) (ports : Six P) (w x y : Option (List ℕ)) (m : Machine)
    (r : Option Reading) (port port' : P)
    → ms ≡ m ∷ rest → Goes tells log l s from (Showing ms) a b J ports (SameDesk s) w x → port ≡ at ports m
    → (tells port' ≡ true → tells port ≡ true)
    → (tells port' ≡ true → log port' ≡ after_read (log port) r) → Appends x y (reading_line m r)
    → Goes tells log l s from (Showing rest) a b J (put ports m port') (SameDesk s) w y
goes-shown tells log l s from ms rest a b J ports w x y m r port port' turn goes picked still told written =
    let t = goes.after in
    record {
      after = after_event l t (Shown m r);
      leads = leads-more l s t (after_event l t (Shown m r)) from (Showing ms) (Showing rest) a b b goes.leads
          (leads-one l t (Shown m r) (Showing ms) (Showing rest) b refl (shown-comes m ms rest r turn));
      fits = read-fits tells log l J ports t m r port port' goes.fits picked still told;
      desk = record {
        lines = goes.desk.lines;
        lost = goes.desk.lost;
        hands = goes.desk.hands;
        rounds = goes.desk.rounds;
      };
      text = λ z h. Appends-trans z x y t.text (reading_line m r) (goes.text z h) written;
    }

-- the line names the round by its number, which counts this one
pub goes-opened : {P O : Type 0} (tells : P → Bool) (log : P → Log) (telling : O → Bool) (acts : O → ActLog)
    (l : BookLimits) (s : Stand) (from : Point) (a b : Option (List (Option Row))) (J : List Entry) (ports : Six P)
    (script : List Line) (lost : Bool) (hands : O) (n k : ℕ) (w x y : Option (List ℕ))
    → FitsDesk telling acts script lost hands n s → n + 1 ≡ k
    → Goes tells log l s from (Showing []) a b J ports (SameDesk s) w x
    → Appends x y (round_line k)
    → Goes tells log l s from (Talking 0) a b J ports (FitsDesk telling acts script lost hands k) w y
goes-opened tells log telling acts l s from a b J ports script lost hands n k w x y desk next goes written =
    let t = goes.after in
    let d = desk-fits telling acts script lost hands n n s t desk goes.desk refl in
    let number : k ≡ t.rounds + 1 = sym next ∙ ap (λ i. i + 1) d.rounds in
    record {
      after = after_event l t Opened;
      leads = leads-more l s t (after_event l t Opened) from (Showing []) (Talking 0) a b b goes.leads
          (leads-one l t Opened (Showing []) (Talking 0) b refl refl);
      fits = record { journal = goes.fits.journal; logs = goes.fits.logs };
      desk = record { lines = d.lines; lost = d.lost; hands = d.hands; rounds = number };
      text = λ z h. Appends-trans z x y t.text (round_line (t.rounds + 1)) (goes.text z h)
          (subst (λ i. Appends x y (round_line i)) number written);
    }

-- the operator's turn may change the journal and his desk, but asks no machine
pub goes-operated : {P O : Type 0} (tells : P → Bool) (log : P → Log) (telling : O → Bool) (acts : O → ActLog)
    (l l' : BookLimits) (s : Stand) (from : Point) (a b : Option (List (Option Row))) (J K : List Entry) (ports : Six P)
    (script script' : List Line) (lost lost' : Bool) (hands hands' : O) (n : ℕ) (w x y : Option (List ℕ))
    (failed : Bool)
    → l' ≡ l → Goes tells log l s from Acting a b J ports (FitsDesk telling acts script lost hands n) w x
    → ((t : Stand) (k : ℕ) → t.journal ≡ J → FitsDesk telling acts script lost hands k t
    → Operates telling acts l' failed t K script' lost' hands' x y)
    → Goes tells log l s from between a b K ports (FitsDesk telling acts script' lost' hands' n) w y
goes-operated tells log telling acts l l' s from a b J K ports script script' lost lost' hands hands' n w x y failed
    same goes
    operates =
    let t = goes.after in
    let did = subst (λ m. Operates telling acts m failed t K script' lost' hands' x y) same
    (operates t n (sym goes.fits.journal) goes.desk) in
    let rest = operator-rest l t.lost failed t in
    record {
      after = after_event l t (Operated failed);
      leads = leads-more l s t (after_event l t (Operated failed)) from Acting between a b b goes.leads
          (leads-one l t (Operated failed) Acting between b refl refl);
      fits = record { journal = did.journal; logs = λ m h. goes.fits.logs m h ∙ ap (λ g. at g m) (sym rest.0) };
      desk = record {
        lines = did.lines;
        lost = did.lost;
        hands = did.hands;
        rounds = goes.desk.rounds ∙ sym rest.1;
      };
      text = λ z h. did.text z (goes.text z h);
    }

-- of a run that broke off the text isn't told, so that part is left out
pub broke-here : {P : Type 0} (tells : P → Bool) (log : P → Log) (l : BookLimits) (s : Stand) (from to : Point)
    (a b : Option (List (Option Row))) (J : List Entry) (ports : Six P) (D : Stand → Type 0) (w x : Option (List ℕ))
    → Goes tells log l s from to a b J ports D w x → Broke tells log l s from a J ports D
broke-here tells log l s from to a b J ports D w x goes = record {
  after = goes.after;
  left = b;
  to = to;
  leads = goes.leads;
  fits = goes.fits;
  desk = goes.desk;
}

pub broke-later : {P : Type 0} (tells : P → Bool) (log : P → Log) (l : BookLimits) (s : Stand) (from mid : Point)
    (a b : Option (List (Option Row))) (J K : List Entry) (ports ports' : Six P) (D E : Stand → Type 0)
    (w x : Option (List ℕ))
    → (goes : Goes tells log l s from mid a b J ports D w x) → Broke tells log l goes.after mid b K ports' E
    → Broke tells log l s from a K ports' E
broke-later tells log l s from mid a b J K ports ports' D E w x goes broke = record {
  after = broke.after;
  left = broke.left;
  to = broke.to;
  leads = leads-more l s goes.after broke.after from mid broke.to a b broke.left goes.leads broke.leads;
  fits = broke.fits;
  desk = broke.desk;
}

-- with less said of the stand where it broke off
pub broke-as : {P : Type 0} (tells : P → Bool) (log : P → Log) (l : BookLimits) (s : Stand) (from : Point)
    (a : Option (List (Option Row))) (J : List Entry) (ports : Six P) (D E : Stand → Type 0)
    → ((t : Stand) → D t → E t) → Broke tells log l s from a J ports D → Broke tells log l s from a J ports E
broke-as tells log l s from a J ports D E less broke = record {
  after = broke.after;
  left = broke.left;
  to = broke.to;
  leads = broke.leads;
  fits = broke.fits;
  desk = less broke.after broke.desk;
}

-- the answer to a line wasn't written
pub broke-line : {P : Type 0} (tells : P → Bool) (log : P → Log) (l : BookLimits) (s : Stand) (from : Point) (n : ℕ)
    (a b c : Option (List (Option Row))) (J K : List Entry) (ports ports' : Six P) (w x : Option (List ℕ))
    (row : Option Row) (o : Option Entry) (failed : Bool) (r : Reply)
    → Goes tells log l s from (Talking n) a b J ports (SameDesk s) w x → TakesLine b c row true → n < 10000
    → to_book o ≡ ask_of row
    → AnswersBy tells log (after_ask l (to_book o) failed) J ports K ports' r
    → Broke tells log l s from a K ports' (SameDesk s)
broke-line tells log l s from n a b c J K ports ports' w x row o failed r goes takes few is answers =
    let t = goes.after in
    record {
      after = after_ask l (to_book o) failed t;
      left = c;
      to = Talking (n + 1);
      leads = leads-more l s t (after_ask l (to_book o) failed t) from (Talking n) (Talking (n + 1)) a b c goes.leads
          (line-leads l t row o failed n b c takes few is);
      fits = (answers t goes.fits).0;
      desk = desk-then s t (after_ask l (to_book o) failed t) goes.desk (ask-desk l (to_book o) failed t);
    }

-- nothing was told at the start, so the run's text is all that was written
pub driven : {P O : Type 0} (tells : P → Bool) (log : P → Log) (telling : O → Bool) (acts : O → ActLog) (p : Plan)
    (l : BookLimits) (s : Stand) (to : Point) (a b : Option (List (Option Row))) (e : DriveEnd) (J : List Entry)
    (ports : Six P)
    (script : List Line) (lost : Bool) (hands : O) (n : ℕ) (w x : Option (List ℕ))
    → s.text ≡ [] → (goes : Goes tells log l s between to a b J ports (FitsDesk telling acts script lost hands n) w x)
    → EndsAs p goes.after to a b e → Driven tells log p l s a b e J ports (HandsFit telling acts hands) w x
driven tells log telling acts p l s to a b e J ports script lost hands n w x none goes is = record {
  after = goes.after;
  to = to;
  leads = goes.leads;
  ends = is;
  hands = goes.desk.hands;
  fits = goes.fits;
  text = goes.text w (subst (Appends w w) (sym none) (Appends-nil w));
}

-- a run fits its start
pub start-fits : {P : Type 0} (tells : P → Bool) (log : P → Log) (J : List Entry) (ports : Six P) (hands : ActLog)
    (lines : List Line)
    → Fits tells log J ports (start log J ports hands lines)
start-fits tells log J ports hands lines = record { journal = refl; logs = λ m h. map_at log ports m }

-- ---- the same within other limits that are these

pub answers-limits : {P : Type 0} (tells : P → Bool) (log : P → Log) (l l' : BookLimits) (a : Ask) (failed : Bool)
    (J K : List Entry) (ports ports' : Six P) (r : Reply)
    → l' ≡ l → AnswersBy tells log (after_ask l' a failed) J ports K ports' r
    → AnswersBy tells log (after_ask l a failed) J ports K ports' r
answers-limits tells log l l' a failed J K ports ports' r same h =
    subst (λ m. AnswersBy tells log (after_ask m a failed) J ports K ports' r) same h

pub goes-limits : {P : Type 0} (tells : P → Bool) (log : P → Log) (l l' : BookLimits) (s : Stand) (from to : Point)
    (a b : Option (List (Option Row))) (J : List Entry) (ports : Six P) (D : Stand → Type 0) (w x : Option (List ℕ))
    → l' ≡ l → Goes tells log l' s from to a b J ports D w x → Goes tells log l s from to a b J ports D w x
goes-limits tells log l l' s from to a b J ports D w x same h =
    subst (λ m. Goes tells log m s from to a b J ports D w x) same h

-- the point is this one
pub goes-at : {P : Type 0} (tells : P → Bool) (log : P → Log) (l : BookLimits) (s : Stand) (from to at : Point)
    (a b : Option (List (Option Row))) (J : List Entry) (ports : Six P) (D : Stand → Type 0) (w x : Option (List ℕ))
    → to ≡ at → Goes tells log l s from to a b J ports D w x → Goes tells log l s from at a b J ports D w x
goes-at tells log l s from to at a b J ports D w x is h =
    subst (λ p. Goes tells log l s from p a b J ports D w x) is h

pub broke-limits : {P O : Type 0} (tells : P → Bool) (log : P → Log) (telling : O → Bool) (acts : O → ActLog)
    (l l' : BookLimits) (s : Stand) (from : Point) (a : Option (List (Option Row))) (J : List Entry) (ports : Six P)
    (hands : O)
    (e : DriveError)
    → l' ≡ l → Broke tells log l' s from a J ports (BrokeBy telling acts l' hands e)
    → Broke tells log l s from a J ports (BrokeBy telling acts l hands e)
broke-limits tells log telling acts l l' s from a J ports hands e same h =
    subst (λ m. Broke tells log m s from a J ports (BrokeBy telling acts m hands e)) same h

-- a machine was read, and what it shows wasn't written
pub broke-shown : {P : Type 0} (tells : P → Bool) (log : P → Log) (l : BookLimits) (s : Stand) (from : Point)
    (ms rest : List Machine)
    (a b : Option (List (Option Row))) (J : List Entry) (ports : Six P) (w x : Option (List ℕ)) (m : Machine)
    (r : Option Reading) (port port' : P)
    → ms ≡ m ∷ rest → Goes tells log l s from (Showing ms) a b J ports (SameDesk s) w x → port ≡ at ports m
    → (tells port' ≡ true → tells port ≡ true)
    → (tells port' ≡ true → log port' ≡ after_read (log port) r)
    → Broke tells log l s from a J (put ports m port') (SameDesk s)
broke-shown tells log l s from ms rest a b J ports w x m r port port' turn goes picked still told =
    let t = goes.after in
    record {
      after = after_event l t (Shown m r);
      left = b;
      to = Showing rest;
      leads = leads-more l s t (after_event l t (Shown m r)) from (Showing ms) (Showing rest) a b b goes.leads
          (leads-one l t (Shown m r) (Showing ms) (Showing rest) b refl (shown-comes m ms rest r turn));
      fits = read-fits tells log l J ports t m r port port' goes.fits picked still told;
      desk = record {
        lines = goes.desk.lines;
        lost = goes.desk.lost;
        hands = goes.desk.hands;
        rounds = goes.desk.rounds;
      };
    }

-- ---- a round

-- the machines were read, the round was opened, and its lines were answered and closed so
pub lines-taken : {P O : Type 0} (tells : P → Bool) (log : P → Log) (telling : O → Bool) (acts : O → ActLog)
    (l : BookLimits) (s : Stand) (a b : Option (List (Option Row))) (J K : List Entry) (ports ports' : Six P)
    (script : List Line) (lost : Bool) (hands : O) (n k : ℕ) (w x y z : Option (List ℕ)) (closed here : Close)
    → FitsDesk telling acts script lost hands n s → n + 1 ≡ k
    → Goes tells log l s between (Showing []) a a J ports (SameDesk s) w x → Appends x y (round_line k)
    → closed ≡ here
    → ((t : Stand) → Fits tells log J ports t → (to : Point) × ClosesAt closed to a b
    × Goes tells log l t (Talking 0) to a b K ports' (SameDesk t) y z)
    → (to : Point) × ClosesAt here to a b
    × Goes tells log l s between to a b K ports' (FitsDesk telling acts script lost hands k) w z
lines-taken tells log telling acts l s a b J K ports ports' script lost hands n k w x y z closed here desk next shown
    written is took =
    let opened = goes-opened tells log telling acts l s between a a J ports script lost hands n k w x y desk next shown
    written in
    let t = opened.after in
    let (to, closes, rest) = took t opened.fits in
    let desk-rest : Goes tells log l t (Talking 0) to a b K ports' (FitsDesk telling acts script lost hands k) y z =
    record {
      after = rest.after;
      leads = rest.leads;
      fits = rest.fits;
      desk = desk-fits telling acts script lost hands k k t rest.after opened.desk rest.desk refl;
      text = rest.text;
    } in (
      to,
      subst (λ c. ClosesAt c to a b) is closes,
      goes-then tells log l s between (Talking 0) to a a b J K ports ports' (FitsDesk telling acts script lost hands k)
          (FitsDesk telling acts script lost hands k) w y z opened desk-rest,
    )

-- the lines were closed by the method, so the operator has his turn
pub lines-done : {P : Type 0} (tells : P → Bool) (log : P → Log) (l : BookLimits) (s : Stand)
    (a b : Option (List (Option Row))) (K : List Entry) (ports : Six P) (D : Stand → Type 0) (w z : Option (List ℕ))
    → (to : Point) × ClosesAt close.Done to a b × Goes tells log l s between to a b K ports D w z
    → Goes tells log l s between Acting a b K ports D w z
lines-done tells log l s a b K ports D w z (to, acting, goes) =
    goes-at tells log l s between to Acting a b K ports D w z acting goes

-- the operator did nothing, so his hands are as they were
hands-same : {O : Type 0} (telling : O → Bool) (acts : O → ActLog) (l : BookLimits) (script : List Line) (lost : Bool)
    (hands : O) (n : ℕ) (e : DriveError) (s t : Stand)
    → FitsDesk telling acts script lost hands n s → SameDesk s t → e ≢ error.OutOfMemory
    → BrokeBy telling acts l hands e t
hands-same telling acts l script lost hands n error.OutOfMemory s t d same other = absurd (other refl)
hands-same telling acts l script lost hands n error.ReadFault s t d same other = λ told. d.hands told ∙ sym same.hands
hands-same telling acts l script lost hands n error.WriteFault s t d same other = λ told. d.hands told ∙ sym same.hands

-- the readings broke off
pub readings-broke : {P O : Type 0} (tells : P → Bool) (log : P → Log) (telling : O → Bool) (acts : O → ActLog)
    (l : BookLimits) (s : Stand) (from : Point) (a : Option (List (Option Row))) (J : List Entry) (ports : Six P)
    (script : List Line) (lost : Bool) (hands : O) (n : ℕ) (e : DriveError)
    → FitsDesk telling acts script lost hands n s → e ≢ error.OutOfMemory
    → Broke tells log l s from a J ports (SameDesk s) → Broke tells log l s from a J ports
    (BrokeBy telling acts l hands e)
readings-broke tells log telling acts l s from a J ports script lost hands n e desk other =
    broke-as tells log l s from a J ports (SameDesk s) (BrokeBy telling acts l hands e)
    (λ t same. hands-same telling acts l script lost hands n e s t desk same other)

-- the lines of the round broke off
pub lines-broke : {P O : Type 0} (tells : P → Bool) (log : P → Log) (telling : O → Bool) (acts : O → ActLog)
    (l : BookLimits) (s : Stand) (a : Option (List (Option Row))) (J K : List Entry) (ports ports' : Six P)
    (script : List Line) (lost : Bool) (hands : O) (n k : ℕ) (w x y : Option (List ℕ)) (e : DriveError)
    → FitsDesk telling acts script lost hands n s → n + 1 ≡ k
    → Goes tells log l s between (Showing []) a a J ports (SameDesk s) w x
    → Appends x y (round_line k) → e ≢ error.OutOfMemory
    → ((t : Stand) → Fits tells log J ports t → Broke tells log l t (Talking 0) a K ports' (SameDesk t))
    → Broke tells log l s between a K ports' (BrokeBy telling acts l hands e)
lines-broke tells log telling acts l s a J K ports ports' script lost hands n k w x y e desk next shown written other
    took =
    let opened = goes-opened tells log telling acts l s between a a J ports script lost hands n k w x y desk next shown
    written
    in
    broke-later tells log l s between (Talking 0) a a J K ports ports' (FitsDesk telling acts script lost hands k)
    (BrokeBy telling acts l hands e) w y opened (readings-broke tells log telling acts l opened.after (Talking 0) a K
    ports' script
    lost hands k e opened.desk other (took opened.after opened.fits))

-- the operator's turn broke off
pub broke-operated : {P O : Type 0} (tells : P → Bool) (log : P → Log) (telling : O → Bool) (acts : O → ActLog)
    (l l' : BookLimits) (s : Stand) (from : Point) (a b : Option (List (Option Row))) (J K : List Entry) (ports : Six P)
    (script : List Line) (lost : Bool) (hands hands' : O) (n : ℕ) (w x : Option (List ℕ)) (e : DriveError)
    → l' ≡ l → Goes tells log l s from Acting a b J ports (FitsDesk telling acts script lost hands n) w x
    → ((t : Stand) (k : ℕ) → t.journal ≡ J → FitsDesk telling acts script lost hands k t
    → OperatorBroke telling acts l' e t K hands')
    → Broke tells log l s from a K ports (BrokeBy telling acts l hands' e)
broke-operated tells log telling acts l l' s from a b J K ports script lost hands hands' n w x e same goes operates =
    let t = goes.after in
    elim (subst (λ m. OperatorBroke telling acts m e t K hands') same
    (operates t n (sym goes.fits.journal) goes.desk)) [
      | inl here ↦ record {
        after = t;
        left = b;
        to = Acting;
        leads = goes.leads;
        fits = record { journal = here.0; logs = goes.fits.logs };
        desk = here.1;
      }
      | inr acted ↦ record {
        after = after_operator l t.lost false t;
        left = b;
        to = between;
        leads = leads-more l s t (after_event l t (Operated false)) from Acting between a b b goes.leads
            (leads-one l t (Operated false) Acting between b refl refl);
        fits = record {
          journal = acted.0;
          logs = λ m h. goes.fits.logs m h ∙ ap (λ g. at g m) (sym (operator-rest l t.lost false t).0);
        };
        desk = acted.1;
      }
    ]
