-- How the events of a run by commands follow each other
use Rattle.std.proofs.Common.{◌≡◌, ◌<◌, ◌∙◌, ◌+◌, ◌⊎◌, ℕ, List, [], ◌∷◌, ◌++◌, Option, Some, None, Bool, true, false}
use Rattle.std.proofs.Common.{ap, inl, inr, sym, refl, subst, append_assoc, append-nil}
use Rattle.std.specs.Io.KnownBytes.{Appends}
use Rattle.std.proofs.KnownBytes.{Appends-nil, Appends-trans}
use Rattle.cell_types.specs.Texts.{all_machine}
use Rattle.cell_types.specs.declared.words.Machine.{Machine}
use Rattle.cell_sim.specs.Readings.{after_reading, shown}
use Rattle.cell_sim.specs.Simulated.{Simulated}
use Rattle.cell_sim.specs.declared.fault.PlannedFault.{PlannedFault}
use Rattle.cell_ports.specs.declared.plan.Plan.{Plan}
use Rattle.cell_method.specs.Lines.{Row, TakesLine}
use Rattle.cell_method.specs.Order.{IsDry}
use Rattle.cell_method.specs.Rounds.{Reads}
use Rattle.cell_method.specs.Shown.{reading_line, round_line}
use Rattle.cell_method.specs.declared.rounds.DriveEnd.{DriveEnd}
use Rattle.cell_method.specs.declared.rounds.DriveEnd.TheVariants as ends
use Rattle.cell_drive.specs.Commanded.{Acting, Answered, Between, ClosesAt, Comes, Commanded, Ended, Ending, EndsAs}
use Rattle.cell_drive.specs.Commanded.{Event, Goes, GoesOn, HasQuit, InOrder, IsDone, Leads, Opened, Operated, Over}
use Rattle.cell_drive.specs.Commanded.{Point, QuitsAs, RoundEndsAt, Stand, Talking, after_event, after_events}
use Rattle.cell_drive.specs.Commanded.{after_line, after_readings, after_turn, after_wish, answer_to, closed_by}
use Rattle.cell_drive.specs.Commanded.{readings_told, round_told, row_of, rows_of, text_of, told_by}
use Rattle.cell_drive.specs.Wishes.{wish_of}
use Rattle.cell_drive.specs.declared.by_commands.Close.{Close}
use Rattle.cell_drive.specs.declared.by_commands.Close.TheVariants as close
use Rattle.cell_drive.specs.declared.hands.Deed.{Deed}
use Rattle.cell_drive.specs.declared.wish.Wish.{Wish}
use Rattle.cell_drive.specs.declared.wish.Wish.TheVariants as wish

-- the lines that are known
abbrev Rows : Type 0
Rows = Option (List (Option Row))

-- ---- events, one after the other

events-more : (faults : List PlannedFault) (s : Stand) (xs ys : List Event)
    → after_events faults s (xs ++ ys) ≡ after_events faults (after_events faults s xs) ys
unfolding after_events
events-more faults s [] ys = refl
events-more faults s (x ∷ xs) ys = events-more faults (after_event faults s x) xs ys

text-more : (faults : List PlannedFault) (s : Stand) (xs ys : List Event)
    → text_of faults s (xs ++ ys) ≡ text_of faults s xs ++ text_of faults (after_events faults s xs) ys
unfolding after_events text_of
text-more faults s [] ys = refl
text-more faults s (x ∷ xs) ys =
    ap (λ text. told_by faults s x ++ text) (text-more faults (after_event faults s x) xs ys)
    ∙ sym (append_assoc (told_by faults s x) (text_of faults (after_event faults s x) xs)
    (text_of faults (after_events faults (after_event faults s x) xs) ys))

rows-more : (xs ys : List Event) → rows_of (xs ++ ys) ≡ rows_of xs ++ rows_of ys
unfolding rows_of
rows-more [] ys = refl
rows-more (x ∷ xs) ys = ap (λ rows. row_of x ++ rows) (rows-more xs ys)
    ∙ sym (append_assoc (row_of x) (rows_of xs) (rows_of ys))

-- where the lines aren't known, nothing is claimed of them
reads-more : (a b c : Option (List (Option Row))) (xs ys : List (Option Row)) → Reads a xs b → Reads b ys c
    → Reads a (xs ++ ys) c
reads-more None b c xs ys h k = tt
reads-more (Some a) None c xs ys h k = absurd h
reads-more (Some a) (Some b) None xs ys h k = absurd k
reads-more (Some a) (Some b) (Some c) xs ys h k = h ∙ ap (λ rows. xs ++ rows) k ∙ sym (append_assoc xs ys c)

reads-nil : (a : Option (List (Option Row))) → Reads a [] a
reads-nil None = tt
reads-nil (Some a) = refl

reads-one : (a b : Option (List (Option Row))) (row : Option Row) → TakesLine a b row true → Reads a (row ∷ []) b
reads-one None b row h = tt
reads-one (Some a) None row h = absurd h
reads-one (Some a) (Some b) row h = h

reads-end : (a b : Option (List (Option Row))) (row : Option Row) → TakesLine a b row false → Reads a [] b
reads-end None b row h = tt
reads-end (Some a) None row h = absurd h
reads-end (Some a) (Some b) row h = h.0 ∙ sym h.1

order-none : (faults : List PlannedFault) (s : Stand) (at : Point) → InOrder faults s at [] at
unfolding InOrder
order-none faults s at = refl

order-one : (faults : List PlannedFault) (s : Stand) (from to : Point) (x : Event) → Comes s from x to
    → InOrder faults s from (x ∷ []) to
unfolding InOrder
order-one faults s from to x comes = (to, comes, refl)

order-more : (faults : List PlannedFault) (s : Stand) (from mid to : Point) (xs ys : List Event)
    → InOrder faults s from xs mid → InOrder faults (after_events faults s xs) mid ys to
    → InOrder faults s from (xs ++ ys) to
unfolding InOrder after_events
order-more faults s from mid to [] ys first next = subst (λ p. InOrder faults s p ys to) first next
order-more faults s from mid to (x ∷ xs) ys (at, comes, rest) next =
    (at, comes, order-more faults (after_event faults s x) at mid to xs ys rest next)

leads-none : (faults : List PlannedFault) (s : Stand) (at : Point) (all : Option (List (Option Row)))
    → Leads faults s s at at all all []
unfolding after_events rows_of text_of
leads-none faults s at all =
    record { events = []; order = order-none faults s at; leads = refl; read = reads-nil all; text = refl }

pub leads-more : (faults : List PlannedFault) (s t u : Stand) (from mid to : Point)
    (a b c : Option (List (Option Row))) (told more : List ℕ)
    → Leads faults s t from mid a b told → Leads faults t u mid to b c more
    → Leads faults s u from to a c (told ++ more)
leads-more faults s t u from mid to a b c told more x y = record {
  events = x.events ++ y.events;
  order = order-more faults s from mid to x.events y.events x.order
      (subst (λ z. InOrder faults z mid y.events to) x.leads y.order);
  leads = y.leads ∙ ap (λ z. after_events faults z y.events) x.leads
      ∙ sym (events-more faults s x.events y.events);
  read = subst (λ rows. Reads a rows c) (sym (rows-more x.events y.events))
      (reads-more a b c (rows_of x.events) (rows_of y.events) x.read y.read);
  text = ap (λ text. text ++ more) x.text ∙ ap (λ text. text_of faults s x.events ++ text)
      (y.text ∙ ap (λ z. text_of faults z y.events) x.leads)
      ∙ sym (text-more faults s x.events y.events);
}

-- one event that reads no line
leads-one : (faults : List PlannedFault) (s : Stand) (x : Event) (from to : Point) (all : Option (List (Option Row)))
    → row_of x ≡ [] → Comes s from x to → Leads faults s (after_event faults s x) from to all all (told_by faults s x)
unfolding after_events rows_of text_of
leads-one faults s x from to all none comes = record {
  events = x ∷ [];
  order = order-one faults s from to x comes;
  leads = refl;
  read = subst (λ rows. Reads all rows all) (sym (append-nil (row_of x) ∙ none)) (reads-nil all);
  text = sym (append-nil (told_by faults s x));
}

-- one line of the method
leads-line : (faults : List PlannedFault) (s : Stand) (row : Option Row) (n : ℕ) (a b : Option (List (Option Row)))
    → TakesLine a b row true → n < 10000
    → Leads faults s (after_wish faults s (wish_of row)) (Talking n) (after_line (closed_by (wish_of row)) n) a b
    (answer_to faults s (wish_of row))
unfolding after_events rows_of text_of
leads-line faults s row n a b takes few = record {
  events = Answered row ∷ [];
  order = order-one faults s (Talking n) (after_line (closed_by (wish_of row)) n) (Answered row) (few, refl);
  leads = refl;
  read = reads-one a b row takes;
  text = sym (append-nil (answer_to faults s (wish_of row)));
}

-- that the lines are over is no event
leads-end : (faults : List PlannedFault) (s : Stand) (at : Point) (a b : Option (List (Option Row))) (row : Option Row)
    → TakesLine a b row false → Leads faults s s at at a b []
unfolding after_events rows_of text_of
leads-end faults s at a b row takes =
    record { events = []; order = order-none faults s at; leads = refl; read = reads-end a b row takes; text = refl }

-- ---- and what they tell is written

pub goes-none : (faults : List PlannedFault) (s : Stand) (at : Point) (all : Option (List (Option Row)))
    (w : Option (List ℕ))
    → Goes faults s s at at all all w w
goes-none faults s at all w = record { told = []; leads = leads-none faults s at all; text = Appends-nil w }

pub goes-more : {faults : List PlannedFault} {s t u : Stand} {from mid to : Point}
    {a b c : Option (List (Option Row))} {w x y : Option (List ℕ)}
    → Goes faults s t from mid a b w x → Goes faults t u mid to b c x y → Goes faults s u from to a c w y
goes-more {faults} {s} {t} {u} {from} {mid} {to} {a} {b} {c} {w} {x} {y} first next = record {
  told = first.told ++ next.told;
  leads = leads-more faults s t u from mid to a b c first.told next.told first.leads next.leads;
  text = Appends-trans w x y first.told next.told first.text next.text;
}

goes-one : (faults : List PlannedFault) (s t : Stand) (x : Event) (from to : Point) (all : Option (List (Option Row)))
    (w y : Option (List ℕ))
    → row_of x ≡ [] → Comes s from x to → t ≡ after_event faults s x → Appends w y (told_by faults s x)
    → Goes faults s t from to all all w y
goes-one faults s t x from to all w y none comes is written = record {
  told = told_by faults s x;
  leads = subst (λ z. Leads faults s z from to all all (told_by faults s x)) (sym is)
      (leads-one faults s x from to all none comes);
  text = written;
}

-- a round was opened
pub goes-opened : (faults : List PlannedFault) (s t : Stand) (number : ℕ) (all : Option (List (Option Row)))
    (w y : Option (List ℕ))
    → GoesOn s → s.rounds + 1 ≡ number
    → t ≡ record s { world = after_readings all_machine s.world; rounds = number }
    → Appends w y (round_told number s.world) → Goes faults s t Between (Talking 0) all all w y
goes-opened faults s t number all w y on next is written =
    goes-one faults s t Opened Between (Talking 0) all w y refl (on, refl)
    (is ∙ ap (λ n. record s { world = after_readings all_machine s.world; rounds = n }) (sym next))
    (subst (λ n. Appends w y (round_told n s.world)) (sym next) written)

-- the operator had his turn
pub goes-operated : (faults : List PlannedFault) (s t : Stand) (all : Option (List (Option Row)))
    (w y : Option (List ℕ))
    → t ≡ after_event faults s Operated → Appends w y (told_by faults s Operated)
    → Goes faults s t Acting Ending all all w y
goes-operated faults s t all w y is written =
    goes-one faults s t Operated Acting Ending all w y refl refl is written

-- the round is over
pub goes-ended : (faults : List PlannedFault) (s t : Stand) (all : Option (List (Option Row))) (w : Option (List ℕ))
    → t ≡ after_event faults s Ended → Goes faults s t Ending Between all all w w
goes-ended faults s t all w is = goes-one faults s t Ended Ending Between all w w refl refl is (Appends-nil w)

-- a line that closes no round was answered
pub goes-line : (faults : List PlannedFault) (s t : Stand) (row : Option Row) (asked : Wish) (n : ℕ)
    (a b : Option (List (Option Row))) (w y : Option (List ℕ))
    → TakesLine a b row true → n < 10000 → asked ≡ wish_of row → closed_by asked ≡ None
    → t ≡ after_wish faults s asked → Appends w y (answer_to faults s asked)
    → Goes faults s t (Talking n) (Talking (n + 1)) a b w y
goes-line faults s t row asked n a b w y takes few is more now written = record {
  told = answer_to faults s asked;
  leads = subst (λ z. Leads faults s z (Talking n) (Talking (n + 1)) a b (answer_to faults s asked)) (sym now)
      (subst (λ (o : Option Close). Leads faults s (after_wish faults s asked) (Talking n) (after_line o n) a b
      (answer_to faults s asked)) more
      (subst (λ (q : Wish). Leads faults s (after_wish faults s q) (Talking n) (after_line (closed_by q) n) a b
      (answer_to faults s q)) (sym is) (leads-line faults s row n a b takes few)));
  text = written;
}

-- no line opens a round, nor does the operator
pub wish-rounds : (faults : List PlannedFault) (s : Stand) (asked : Wish)
    → (after_wish faults s asked).rounds ≡ s.rounds
wish-rounds faults s (wish.Send x) = refl
wish-rounds faults s (wish.Act x) = refl
wish-rounds faults s wish.Stay = refl
wish-rounds faults s (wish.Sync x) = refl
wish-rounds faults s wish.Pass = refl
wish-rounds faults s wish.Done = refl
wish-rounds faults s wish.Quit = refl
wish-rounds faults s wish.Nothing = refl

pub turn-rounds : (d : Option Deed) (s : Stand) → (after_turn d s).rounds ≡ s.rounds
turn-rounds None s = refl
turn-rounds (Some d) s = refl

-- a line that closes one does nothing else, and gets no answer
closes : (faults : List PlannedFault) (s : Stand) (asked : Wish) (c : Close) → closed_by asked ≡ Some c
    → (after_wish faults s asked ≡ s) × (answer_to faults s asked ≡ [])
closes faults s wish.Done c is = (refl, refl)
closes faults s wish.Quit c is = (refl, refl)
closes faults s (wish.Send x) c is = cc
closes faults s (wish.Act x) c is = cc
closes faults s wish.Stay c is = cc
closes faults s (wish.Sync x) c is = cc
closes faults s wish.Pass c is = cc
closes faults s wish.Nothing c is = cc

closes-at : (asked : Wish) (c : Close) (n : ℕ) (a b : Option (List (Option Row))) → closed_by asked ≡ Some c
    → ClosesAt c (after_line (Some c) n) a b
closes-at asked close.Done n a b is = refl
closes-at asked close.Quit n a b is = tt
closes-at wish.Done close.Long n a b is = cc
closes-at wish.Quit close.Long n a b is = cc
closes-at (wish.Send x) close.Long n a b is = cc
closes-at (wish.Act x) close.Long n a b is = cc
closes-at wish.Stay close.Long n a b is = cc
closes-at (wish.Sync x) close.Long n a b is = cc
closes-at wish.Pass close.Long n a b is = cc
closes-at wish.Nothing close.Long n a b is = cc

pub goes-closed : (faults : List PlannedFault) (s : Stand) (row : Option Row) (asked : Wish) (c : Close) (n : ℕ)
    (all a b : Option (List (Option Row))) (w : Option (List ℕ))
    → TakesLine a b row true → n < 10000 → asked ≡ wish_of row → closed_by asked ≡ Some c
    → ClosesAt c (after_line (Some c) n) all b × Goes faults s s (Talking n) (after_line (Some c) n) a b w w
goes-closed faults s row asked c n all a b w takes few is closed =
    let same = closes faults s asked c closed in (
      closes-at asked c n all b closed,
      record {
        told = [];
        leads = subst (λ (o : Option Close). Leads faults s s (Talking n) (after_line o n) a b []) closed
            (subst (λ z. Leads faults s z (Talking n) (after_line (closed_by asked) n) a b []) same.0
            (subst (λ text. Leads faults s (after_wish faults s asked) (Talking n) (after_line (closed_by asked) n) a b
            text) same.1
            (subst (λ (q : Wish). Leads faults s (after_wish faults s q) (Talking n) (after_line (closed_by q) n) a b
            (answer_to faults s q)) (sym is) (leads-line faults s row n a b takes few))));
        text = Appends-nil w;
      },
    )

-- the method wrote no more lines
pub goes-end : (faults : List PlannedFault) (s : Stand) (at : Point) (a b : Option (List (Option Row)))
    (row : Option Row) (w : Option (List ℕ))
    → TakesLine a b row false → Goes faults s s at at a b w w
goes-end faults s at a b row w takes =
    record { told = []; leads = leads-end faults s at a b row takes; text = Appends-nil w }

-- the point is this one
pub goes-at : {faults : List PlannedFault} {s t : Stand} {from to : Point} {a b : Option (List (Option Row))}
    {w x : Option (List ℕ)} (at : Point)
    → to ≡ at → Goes faults s t from to a b w x → Goes faults s t from at a b w x
goes-at {faults} {s} {t} {from} {to} {a} {b} {w} {x} at is goes =
    subst (λ p. Goes faults s t from p a b w x) is goes

-- ---- how a run ends

dry-earlier : (a b c : Option (List (Option Row))) (rows : List (Option Row)) → Reads a rows b → IsDry b c → IsDry a c
dry-earlier None b c rows read dry = tt
dry-earlier (Some a) None c rows read dry = absurd read
dry-earlier (Some a) (Some b) None rows read dry = tt
dry-earlier (Some a) (Some b) (Some c) rows read dry = dry

quit-earlier : (to : Point) (a b c : Option (List (Option Row))) (rows : List (Option Row)) → Reads a rows b
    → HasQuit to b c → HasQuit to a c
quit-earlier Over a b c rows read quit = tt
quit-earlier (Talking n) a b c rows read quit = dry-earlier a b c rows read quit
quit-earlier Between a b c rows read quit = absurd quit
quit-earlier Acting a b c rows read quit = absurd quit
quit-earlier Ending a b c rows read quit = absurd quit

-- behind a round that the method left, its lines are over from the first on
pub round-earlier : (closed here : Close) (to : Point) (a b c : Option (List (Option Row))) (rows : List (Option Row))
    → Reads a rows b → closed ≡ here → RoundEndsAt closed to b c → RoundEndsAt here to a c
round-earlier closed here to a b c rows read is ended = go here (subst (λ x. RoundEndsAt x to b c) is ended)
  where
    go : (x : Close) → RoundEndsAt x to b c → RoundEndsAt x to a c
    go close.Done h = h
    go close.Quit h = quit-earlier to a b c rows read h
    go close.Long h = h

-- the method left the run
pub quit-ends : (p : Plan) (t : Stand) (to : Point) (a b : Option (List (Option Row))) (e : DriveEnd)
    → HasQuit to a b → QuitsAs t e → EndsAs p t to a b e
quit-ends p t to a b ends.Finished quit is = inr (quit, is)
quit-ends p t to a b ends.Quit quit is = (quit, is)
quit-ends p t to a b ends.TurnLimit quit is = absurd is
quit-ends p t to a b ends.Full quit is = absurd is
quit-ends p t to a b ends.TooManyLines quit is = absurd is
quit-ends p t to a b ends.Memory quit is = absurd is

-- ---- the machines are told one after the other

pub told-more : (ms rest : List Machine) (m : Machine) (w : Simulated) → ms ≡ m ∷ rest
    → readings_told ms w ≡ reading_line m (shown w m) ++ readings_told rest (after_reading w m)
unfolding readings_told
told-more ms rest m w is = ap (λ xs. readings_told xs w) is

pub read-more : (ms rest : List Machine) (m : Machine) (w : Simulated) → ms ≡ m ∷ rest
    → after_readings ms w ≡ after_readings rest (after_reading w m)
unfolding after_readings
read-more ms rest m w is = ap (λ xs. after_readings xs w) is

pub told-none : (w : Simulated) → readings_told [] w ≡ []
unfolding readings_told
told-none w = refl

pub read-none : (w : Simulated) → after_readings [] w ≡ w
unfolding after_readings
read-none w = refl

-- one more machine was told
pub one-told : (ms rest : List Machine) (m : Machine) (first : List ℕ) (w v : Simulated)
    → ms ≡ m ∷ rest → readings_told all_machine w ≡ first ++ readings_told ms v
    → readings_told all_machine w
    ≡ (first ++ reading_line m (shown v m)) ++ readings_told rest (after_reading v m)
one-told ms rest m first w v is so =
    so ∙ ap (λ text. first ++ text) (told-more ms rest m v is)
    ∙ sym (append_assoc first (reading_line m (shown v m)) (readings_told rest (after_reading v m)))
