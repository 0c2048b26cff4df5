-- What holds of the simulated cell through the moves of a run, without a fault
use Rattle.std.proofs.Common.{◌≡◌, ◌≢◌, ◌++◌, [], Bool, true, false, not, Option, Some, None, Result, Ok, List}
use Rattle.std.proofs.Common.{refl, sym, ap, ◌∙◌, subst, IfSome}
use Rattle.std.specs.Option.{option_and_then}
use Rattle.std.specs.Prelude.{option_to_list}
use Rattle.cell_types.specs.declared.words.Command.{Command}
use Rattle.cell_types.specs.declared.words.Entry.{Entry}
use Rattle.cell_types.specs.declared.words.Machine.{Machine}
use Rattle.cell_types.specs.declared.words.Machine.TheVariants as machine
use Rattle.cell_types.specs.Entries.{command_of}
use Rattle.cell_diagnosis.specs.declared.reading.Reading.{Reading}
use Rattle.cell_turns.specs.declared.six.Six.{Six}
use Rattle.cell_turns.specs.Minds.{Mind, first_mind}
use Rattle.cell_turns.specs.Schedules.{Now, mind_sent}
use Rattle.cell_turns.specs.Six.{at, each, put}
use Rattle.cell_turns.specs.Turns.{IsDecided, mind_after}
use Rattle.cell_plant.specs.Asked.{Shown}
use Rattle.cell_plant.specs.declared.desk.Wish.{Wish}
use Rattle.cell_plant.specs.declared.gone.Gone.{Gone}
use Rattle.cell_plant.specs.declared.keeper.Unkept.{Unkept}
use Rattle.cell_workers.specs.declared.ends.End.TheVariants as end
use Rattle.operator_desk.specs.declared.action.Action.{Action}
use Rattle.operator_desk.specs.declared.line.Line.{Line}
use Rattle.operator_desk.specs.declared.line.Task.{Task}
use Rattle.operator_desk.specs.Next.{next_of}
use Rattle.cell_rounds.specs.Moves.{Books, Hands, if_kept, next_at}
use Rattle.cell_rounds.specs.Moves.{Keeps, Leads, Move, Orders, OrdersIf, Terms, Turn, after_act, after_close}
use Rattle.cell_rounds.specs.Moves.{after_wish, answered, if_reached, is_lost, moved}
use Rattle.cell_rounds.specs.Moves.Leads.{stays, goes}
use Rattle.cell_rounds.specs.Moves.Move.{begins, hears, heard, notes, rejects, turns, looks, finds, repeats, rests}
use Rattle.cell_rounds.specs.Moves.Move.{does, fails, asks, asked, denies, grants, misses, replies, closes}
use Rattle.cell_rounds.specs.Runs.{Halts, Has, Unbooked, end_of}
use Rattle.cell_rounds.specs.Runs.Unbooked.{noted, reading, act}
use Rattle.cell_rounds.specs.Runs.Halts.{breaks, lacks, fills, rests as comes_to_rest, tires}
use Rattle.cell_rounds.specs.Stands.{Answering, Closing, Noted, Noting, Serving, Turning, Wanted}
use Rattle.cell_rounds.specs.Stands.{Desk, Place, Point, Stand, desk, start, to}
use Rattle.cell_rounds.specs.declared.progress.Halt.{Halt}
use Rattle.cell_rounds.specs.declared.settle.LastCommand.{LastCommand}
use Rattle.cell_sim.specs.Commands.{after_command, fails as does_fail}
use Rattle.cell_sim.specs.Readings.{after_reading, after_round, shown}
use Rattle.cell_sim.specs.Simulated.{Simulated}
use Rattle.cell_sim.specs.declared.fault.PlannedFault.{PlannedFault}
use Rattle.sim_plant.specs.Answers.{AnswersSo, SimCell}
use Rattle.cell_runs.specs.Cells.{AllKept}
use Rattle.cell_world.specs.Starting.{after_order}
use Rattle.cell_world.specs.Switched.{with_mind}
use Rattle.cell_ports.specs.declared.port.Act.{Act}
use Rattle.cell_rules.specs.Legal.{first_of}
use Rattle.cell_turns.specs.Acts.{act_of}
use Rattle.operator_desk.specs.Next.{entry_of, left_after}
use Rattle.cell_world.specs.Going.{IsPlain}
use Rattle.cell_world.specs.Starting.{one_more}
use Rattle.cell_world.specs.Turning.{after_turn}
use Rattle.cell_world.proofs.Hand.{done_by, hand_counts}
use Rattle.cell_world.proofs.Rounds.{none_fails}

-- WHAT HOLDS

-- of the lines of the script that aren't done, the journal, the minds and the world
abbrev pub Holding : Type 1
Holding = List Line → List Entry → (Machine → Mind) → Simulated → Type 0

-- through a turn, the end of a round and what the operator does by his script; and what it says of the world
pub record HoldsOn (T : Terms) (H : Holding) : Type 0 where
  pub alike : (ls : List Line) (J : List Entry) (f g : Machine → Mind) (w : Simulated) → ((n : Machine) → f n ≡ g n)
      → H ls J f w → H ls J g w
  pub turn : (ls : List Line) (J : List Entry) (f : Machine → Mind) (w : Simulated) (m : Machine) (e : Option Entry)
      → H ls J f w → IsDecided T.limits J m T.plan (f m) (shown w m) e
      → IfSome e (λ x. first_of T.limits J x ≡ None)
      → H ls (J ++ option_to_list e) (with_mind m (mind_after J m T.plan (f m) (shown w m) e) f) (after_turn w m e)
  pub round : (ls : List Line) (J : List Entry) (f : Machine → Mind) (w : Simulated) → H ls J f w
      → H ls J f (after_round w)
  pub hand : (ls : List Line) (J : List Entry) (f : Machine → Mind) (w : Simulated) (a : Action) → H ls J f w
      → next_of ls (record { limits = T.limits; entries = J }) ≡ Some a → first_of T.limits J (entry_of a) ≡ None
      → H (left_after ls) (one_more J (entry_of a)) f (done_by (act_of (entry_of a)) w)
  pub plain : (ls : List Line) (J : List Entry) (f : Machine → Mind) (w : Simulated) → H ls J f w → IsPlain w
  pub counts : (ls : List Line) (J : List Entry) (f : Machine → Mind) (w : Simulated) → H ls J f w
      → w.collisions ≡ 0
  pub reads : (ls : List Line) (J : List Entry) (f : Machine → Mind) (w : Simulated) (m : Machine) → H ls J f w
      → (after_reading w m).collisions ≡ 0

-- THE SIX MINDS

pub mind_put : (s : Six Mind) (m n : Machine) (x : Mind) → with_mind m x (at s) n ≡ at (put s m x) n
mind_put s machine.Feed machine.Feed x = refl
mind_put s machine.Feed n x = refl
mind_put s machine.Table machine.Table x = refl
mind_put s machine.Table n x = refl
mind_put s machine.Robot machine.Robot x = refl
mind_put s machine.Robot n x = refl
mind_put s machine.Press1 machine.Press1 x = refl
mind_put s machine.Press1 n x = refl
mind_put s machine.Press2 machine.Press2 x = refl
mind_put s machine.Press2 n x = refl
mind_put s machine.Deposit machine.Deposit x = refl
mind_put s machine.Deposit n x = refl

pub each_at : (f : Machine → Mind) (n : Machine) → f n ≡ at (each f) n
each_at f machine.Feed = refl
each_at f machine.Table = refl
each_at f machine.Robot = refl
each_at f machine.Press1 = refl
each_at f machine.Press2 = refl
each_at f machine.Deposit = refl

-- the cell of a script, a journal, minds and a world is that of the same
cell_is : (H : Holding) (ls ms : List Line) (J K : List Entry) (a b : Six Mind) (v w : Simulated) → ms ≡ ls → K ≡ J
    → b ≡ a → w ≡ v → H ls J (at a) v → H ms K (at b) w
cell_is H ls ms J K a b v w q h i k t =
    subst (λ (x : List Line). H x K (at b) w) (sym q)
    (subst (λ (x : List Entry). H ls x (at b) w) (sym h)
    (subst (λ (x : Six Mind). H ls J (at x) w) (sym i)
    (subst (λ (x : Simulated). H ls J (at a) x) (sym k) t)))

-- STANDS

-- there something of the operator's that his script doesn't tell is to be booked or answered
abbrev is_his : Point → Bool
is_his (Noted n task) = true
is_his (Wanted n wish) = true
is_his (Answering n reply) = true
is_his _ = false

-- it holds of the cell, which has no fault, and nobody does or wants anything there but by the script
pub record Holds (T : Terms) (H : Holding) (s : Stand SimCell Unkept) : Type 0 where
  pub holds : H s.desk.lines s.now.journal (at s.now.minds) s.cell.world
  pub faults : s.cell.faults ≡ []
  pub settled : s.pending ≡ None
  pub point : is_his s.place.point ≡ false

-- all but the world is as before, elsewhere
record IsElsewhere (s t : Stand SimCell Unkept) : Type 0 where
  now : t.now ≡ s.now
  faults : t.cell.faults ≡ s.cell.faults
  pending : t.pending ≡ s.pending
  desk : t.desk ≡ s.desk
  point : is_his t.place.point ≡ false

elsewhere : (T : Terms) (H : Holding) (s t : Stand SimCell Unkept) → IsElsewhere s t
    → H s.desk.lines s.now.journal (at s.now.minds) t.cell.world → Holds T H s → Holds T H t
elsewhere T H s t i b c =
    record {
      holds = subst (λ (d : Desk). H d.lines t.now.journal (at t.now.minds) t.cell.world) (sym i.desk)
          (subst (λ (n : Now). H s.desk.lines n.journal (at n.minds) t.cell.world) (sym i.now) b);
      faults = i.faults ∙ c.faults;
      settled = i.pending ∙ c.settled;
      point = i.point;
    }

same_world : (T : Terms) (H : Holding) (s t : Stand SimCell Unkept) → IsElsewhere s t → t.cell.world ≡ s.cell.world
    → Holds T H s → Holds T H t
same_world T H s t i h c =
    elsewhere T H s t i
    (subst (λ (w : Simulated). H s.desk.lines s.now.journal (at s.now.minds) w) (sym h) c.holds) c

went : (s t : Stand SimCell Unkept) (point : Point) → t ≡ moved s t.cell point → is_his point ≡ false
    → t.cell.faults ≡ s.cell.faults → IsElsewhere s t
went s t point h o f =
    record {
      now = ap (λ (x : Stand SimCell Unkept). x.now) h;
      faults = f;
      pending = ap (λ (x : Stand SimCell Unkept). x.pending) h;
      desk = ap (λ (x : Stand SimCell Unkept). x.desk) h;
      point = ap (λ (x : Stand SimCell Unkept). is_his x.place.point) h ∙ o;
    }

-- the cell isn't asked
unasked : (T : Terms) (H : Holding) (s t : Stand SimCell Unkept) (point : Point) → t ≡ moved s s.cell point
    → is_his point ≡ false → Holds T H s → Holds T H t
unasked T H s t point h o c =
    same_world T H s t
    (record {
      now = ap (λ (x : Stand SimCell Unkept). x.now) h;
      faults = ap (λ (x : Stand SimCell Unkept). x.cell.faults) h;
      pending = ap (λ (x : Stand SimCell Unkept). x.pending) h;
      desk = ap (λ (x : Stand SimCell Unkept). x.desk) h;
      point = ap (λ (x : Stand SimCell Unkept). is_his x.place.point) h ∙ o;
    }) (ap (λ (x : Stand SimCell Unkept). x.cell.world) h) c

-- A TURN

pub kept_so : (e : Option Entry) (kept : Bool) (k j : Unkept) → Keeps AllKept e kept k j → kept ≡ true
kept_so None kept k j (same, told) = told
kept_so (Some x) kept k j h = h

-- a command is carried out where no fault is planned
record IsDone (x : Option Command) (lost : Bool) (point next : Point) (seen new : SimCell) : Type 0 where
  faults : new.faults ≡ []
  world : new.world ≡ after_order seen.world x
  carried : lost ≡ false
  goes : next ≡ point

order_done : (m : Machine) (x : Option Command) (lost : Bool) (point next : Point) (seen new : SimCell)
    → seen.faults ≡ [] → Orders AnswersSo m x lost point next seen new → IsDone x lost point next seen new
order_done m None lost point next seen new f (same, carried, there) =
    record {
      faults = ap (λ (c : SimCell). c.faults) same ∙ f;
      world = ap (λ (c : SimCell). c.world) same;
      carried = carried;
      goes = there;
    }
order_done m (Some x) lost point next seen new f (r, told, carried, there) =
    let ok : r ≡ Ok true = told.1.0
    ∙ (ap (λ (fs : List PlannedFault). Ok (not (does_fail fs seen.world x))) f
    ∙ ap (λ (b : Bool). Ok (not b)) (none_fails seen.world x)) in
    record {
      faults = told.0 ∙ f;
      world = told.1.1 ∙ ap (λ (fs : List PlannedFault). after_command fs seen.world x) f;
      carried = carried ∙ ap is_lost ok;
      goes = there ∙ ap (λ (a : Result Bool Gone). answered a point) ok;
    }

world_turned : (w seen new : Simulated) (m : Machine) (e : Option Entry) → seen ≡ after_reading w m
    → new ≡ after_order seen (option_and_then command_of e) → new ≡ after_turn w m e
world_turned w seen new m None g h = h ∙ g
world_turned w seen new m (Some x) g h = h ∙ ap (λ (v : Simulated). after_order v (command_of x)) g

turned : (T : Terms) (H : Holding) (m : Machine) (rest : List Machine) (s t : Stand SimCell Unkept) → HoldsOn T H
    → Turn AnswersSo AllKept T m rest s t → Holds T H s → Holds T H t
turned T H m rest s t on turn c =
    let l = T.limits in let p = T.plan in let J = s.now.journal in let minds = s.now.minds in let w = s.cell.world in
    let ls = s.desk.lines in
    let did = turn.turned in let e = did.booked in let reads = turn.shown.1.0 in
    let done = order_done m (option_and_then command_of e) did.lost (Turning rest) turn.next turn.seen t.cell
    (turn.shown.0 ∙ c.faults)
    (subst (λ (b : Bool). OrdersIf AnswersSo b m (option_and_then command_of e) did.lost (Turning rest) turn.next
    turn.seen t.cell) (kept_so e turn.kept s.keeper t.keeper turn.keeping) turn.orders) in
    let decided = subst (λ (r : Option Reading). IsDecided l J m p (at minds m) r e) reads did.decided in
    let mind = mind_after J m p (at minds m) (shown w m) e in
    let left = on.turn ls J (at minds) w m e c.holds decided did.allowed in
    let new = world_turned w turn.seen.world t.cell.world m e turn.shown.1.1 done.world in
    let sent : t.now.minds ≡ put minds m mind = did.minds
    ∙ (ap (λ (r : Option Reading). put minds m (mind_sent did.lost (mind_after J m p (at minds m) r e))) reads
    ∙ ap (λ (b : Bool). put minds m (mind_sent b mind)) done.carried) in
    record {
      holds = cell_is H ls t.desk.lines (J ++ option_to_list e) t.now.journal (put minds m mind) t.now.minds
          (after_turn w m e) t.cell.world (ap (λ (d : Desk). d.lines) turn.desk) did.journal sent new
          (on.alike ls (J ++ option_to_list e) (with_mind m mind (at minds)) (at (put minds m mind))
          (after_turn w m e) (λ n. mind_put minds m n mind) left);
      faults = done.faults;
      settled = turn.pending ∙ c.settled;
      point = ap (λ (a : Place). is_his a.point) turn.place ∙ ap is_his done.goes;
    }

-- WHAT THE OPERATOR DOES

pub record IsHanded (o : Option Act) (c d : SimCell) : Type 0 where
  pub faults : d.faults ≡ c.faults
  pub world : d.world ≡ done_by o c.world

pub hands_done : (o : Option Act) (c d : SimCell) → Hands AnswersSo o c d → IsHanded o c d
hands_done None c d h =
    record { faults = ap (λ (x : SimCell). x.faults) h; world = ap (λ (x : SimCell). x.world) h }
hands_done (Some a) c d h = record { faults = h.0; world = h.1.1 }

if_true : (b : Bool) (point : Point) → b ≡ true → is_his point ≡ false → is_his (if_kept b point) ≡ false
if_true b point h o = ap (λ (x : Bool). is_his (if_kept x point)) h ∙ o

acted : (T : Terms) (H : Holding) (s t : Stand SimCell Unkept) (a : Action) → HoldsOn T H
    → (books : Books AllKept T.limits (entry_of a) s t) → next_at T.limits s ≡ Some a
    → Hands AnswersSo (act_of (entry_of a)) s.cell t.cell → t.desk ≡ desk (left_after s.desk.lines) false
    → t.place ≡ to s.place (if_kept books.kept (Serving 0)) → Holds T H s → Holds T H t
acted T H s t a on books next hands desk place c =
    let J = s.now.journal in let w = s.cell.world in let x = entry_of a in
    let did = hands_done (act_of x) s.cell t.cell hands in
    record {
      holds = cell_is H (left_after s.desk.lines) t.desk.lines (one_more J x) t.now.journal s.now.minds t.now.minds
          (done_by (act_of x) w) t.cell.world (ap (λ (d : Desk). d.lines) desk)
          (ap (λ (n : Now). n.journal) books.now) (ap (λ (n : Now). n.minds) books.now) did.world
          (on.hand s.desk.lines J (at s.now.minds) w a c.holds next books.his.allowed);
      faults = did.faults ∙ c.faults;
      settled = books.pending ∙ c.settled;
      point = ap (λ (b : Place). is_his b.point) place ∙ if_true books.kept (Serving 0) books.keeping refl;
    }

-- THE MOVES

-- what the operator has to do doesn't come
not_his : (point other : Point) → point ≡ other → is_his point ≡ false → is_his other ≡ true → ⊥
not_his point other h o y = let x : true ≡ false = sym y ∙ (ap is_his (sym h) ∙ o) in cc x

pub none_pending : (o : Option LastCommand) (last : LastCommand) → o ≡ None → o ≡ Some last → ⊥
none_pending o last h k = let x : None ≡ Some last = sym h ∙ k in cc x

if_there : (ok : Bool) (point : Point) → ok ≡ true → is_his point ≡ false → is_his (if_reached ok point) ≡ false
if_there ok point h o = ap (λ (b : Bool). is_his (if_reached b point)) h ∙ o

move_kept : (T : Terms) (H : Holding) (s t : Stand SimCell Unkept) → HoldsOn T H → Holds T H s
    → Move AnswersSo AllKept T s t → Holds T H t
move_kept T H s t on c (begins ok here room told h) =
    same_world T H s t
    (record {
      now = ap (λ (x : Stand SimCell Unkept). x.now) h;
      faults = told.0;
      pending = ap (λ (x : Stand SimCell Unkept). x.pending) h;
      desk = ap (λ (x : Stand SimCell Unkept). x.desk) h;
      point = ap (λ (x : Stand SimCell Unkept). is_his x.place.point) h ∙ if_there ok (Noting 0) told.1.0 refl;
    }) told.1.1 c
move_kept T H s t on c (hears n done here told h) =
    same_world T H s t
    (went s t (after_act n done) h (ap (λ (o : Option Task). is_his (after_act n o)) told.1.0) told.0) told.1.1 c
move_kept T H s t on c (heard here h) = unasked T H s t _ h refl c
move_kept T H s t on c (notes n done books here same desk place) =
    absurd (not_his s.place.point (Noted n done) here c.point refl)
move_kept T H s t on c (rejects n done why here refused told h) =
    absurd (not_his s.place.point (Noted n done) here c.point refl)
move_kept T H s t on c (turns m rest here turn) = turned T H m rest s t on turn c
move_kept T H s t on c (looks m rest last r here waits its told h) =
    absurd (none_pending s.pending last c.settled waits)
move_kept T H s t on c (finds m rest last r here waits its told h) =
    absurd (none_pending s.pending last c.settled waits)
move_kept T H s t on c (repeats m rest last r seen here waits its told again) =
    absurd (none_pending s.pending last c.settled waits)
move_kept T H s t on c (rests here nothing h) = unasked T H s t (Serving 0) h refl c
move_kept T H s t on c (does a books here able next hands desk place) =
    acted T H s t a on books next hands desk place c
move_kept T H s t on c (fails a tries here able next desk place) = absurd (tries.not_done tries.hands.1.0)
move_kept T H s t on c (asks n wish here told h) =
    same_world T H s t
    (went s t (after_wish n wish) h (ap (λ (o : Option Wish). is_his (after_wish n o)) told.1.0) told.0) told.1.1 c
move_kept T H s t on c (asked here h) = unasked T H s t Closing h refl c
move_kept T H s t on c (denies n wish reply here denied h) =
    absurd (not_his s.place.point (Wanted n wish) here c.point refl)
move_kept T H s t on c (grants n done books here hands desk place) = absurd (not_his s.place.point _ here c.point refl)
move_kept T H s t on c (misses n done tries here desk place) = absurd (not_his s.place.point _ here c.point refl)
move_kept T H s t on c (replies n reply ok here told h) =
    absurd (not_his s.place.point (Answering n reply) here c.point refl)
move_kept T H s t on c (closes ok here goes_on told h) =
    let new = told.1.1 in
    elsewhere T H s t
    (record {
      now = ap (λ (x : Stand SimCell Unkept). x.now) h;
      faults = told.0;
      pending = ap (λ (x : Stand SimCell Unkept). x.pending) h;
      desk = ap (λ (x : Stand SimCell Unkept). x.desk) h;
      point = ap (λ (x : Stand SimCell Unkept). is_his x.place.point) h
          ∙ ap (λ (b : Bool). is_his (after_close s.place b).point) told.1.0;
    })
    (subst (λ (w : Simulated). H s.desk.lines s.now.journal (at s.now.minds) w) (sym new)
    (on.round s.desk.lines s.now.journal (at s.now.minds) s.cell.world c.holds)) c

leads_kept : (T : Terms) (H : Holding) (s t : Stand SimCell Unkept) → HoldsOn T H → Holds T H s
    → Leads AnswersSo AllKept T s t → Holds T H t
leads_kept T H s _ on c stays = c
leads_kept T H s u on c (goes {t = t} before move) = move_kept T H t u on (leads_kept T H s t on c before) move

-- THE RUN

-- from a cell without a fault, a journal and a script on
abbrev from : SimCell → Unkept → List Entry → List Line → Stand SimCell Unkept
from c k J ls = start c k J ls None

pub come : (T : Terms) (H : Holding) (c : SimCell) (k : Unkept) (J : List Entry) (ls : List Line)
    (t : Stand SimCell Unkept) → HoldsOn T H → c.faults ≡ [] → H ls J (λ m. first_mind J m) c.world
    → Leads AnswersSo AllKept T (from c k J ls) t → Holds T H t
come T H c k J ls t on none first leads =
    leads_kept T H (from c k J ls) t on
    (record {
      holds = on.alike ls J (λ m. first_mind J m) (at (each (λ m. first_mind J m))) c.world
          (each_at (λ m. first_mind J m)) first;
      faults = none;
      settled = refl;
      point = refl;
    }) leads

-- what holds of its end
abbrev pub EndsSo : Holding → List Entry → SimCell → Type 0
EndsSo H J c = (ls : List Line) × (minds : Machine → Mind) × H ls J minds c.world

at_stand : (T : Terms) (H : Holding) (t : Stand SimCell Unkept) (new : SimCell) (j : Unkept) (J : List Entry)
    → Holds T H t → Has t new j J → EndsSo H J new
at_stand T H t new j J c (cell, keeper, journal) = (
  t.desk.lines,
  at t.now.minds,
  subst (λ (x : List Entry). H t.desk.lines x (at t.now.minds) new.world) journal
      (subst (λ (x : SimCell). H t.desk.lines t.now.journal (at t.now.minds) x.world) cell c.holds),
)

pub ended : (T : Terms) (H : Holding) (s : Stand SimCell Unkept) (h : Halt) (new : SimCell) (j : Unkept)
    (J : List Entry) → ((t : Stand SimCell Unkept) → Leads AnswersSo AllKept T s t → Holds T H t)
    → Halts AnswersSo AllKept T s h new j J → end_of h ≢ end.Memory → end_of h ≢ end.Full → EndsSo H J new
ended T H s h new j J c (breaks t leads here has) memory full = at_stand T H t new j J (c t leads) has
ended T H s h new j J c (lacks t leads is unbooked has) memory full = absurd (memory (ap end_of is))
ended T H s h new j J c (fills t leads is away has) memory full = absurd (full (ap end_of is))
ended T H s h new j J c (comes_to_rest t e leads is rest has) memory full = at_stand T H t new j J (c t leads) has
ended T H s h new j J c (tires t leads is here rounds has) memory full = at_stand T H t new j J (c t leads) has

-- WHATEVER ITS END, NO COLLISION

ends_clear : (T : Terms) (H : Holding) (J : List Entry) (new : SimCell) → HoldsOn T H → EndsSo H J new
    → new.world.collisions ≡ 0
ends_clear T H J new on (ls, minds, t) = on.counts ls J minds new.world t

read_clear : (T : Terms) (H : Holding) (t : Stand SimCell Unkept) (new : SimCell) (m : Machine) (r : Option Reading)
    → HoldsOn T H → Holds T H t → AnswersSo t.cell new (Shown m r) → new.world.collisions ≡ 0
read_clear T H t new m r on c told =
    ap (λ (w : Simulated). w.collisions) told.1.1
    ∙ on.reads t.desk.lines t.now.journal (at t.now.minds) t.cell.world m c.holds

unbooked_clear : (T : Terms) (H : Holding) (t : Stand SimCell Unkept) (new : SimCell) → HoldsOn T H → Holds T H t
    → Unbooked AnswersSo T.limits t new → new.world.collisions ≡ 0
unbooked_clear T H t new on c (noted n done here same) =
    absurd (not_his t.place.point (Noted n done) here c.point refl)
unbooked_clear T H t new on c (reading m rest r here told) = read_clear T H t new m r on c told
unbooked_clear T H t new on c (act e due his hands) =
    ap (λ (w : Simulated). w.collisions) (hands_done (act_of e) t.cell new hands).world
    ∙ (hand_counts (act_of e) t.cell.world
    (on.plain t.desk.lines t.now.journal (at t.now.minds) t.cell.world c.holds)
    ∙ on.counts t.desk.lines t.now.journal (at t.now.minds) t.cell.world c.holds)

pub clear : (T : Terms) (H : Holding) (s : Stand SimCell Unkept) (h : Halt) (new : SimCell) (j : Unkept)
    (J : List Entry) → HoldsOn T H → ((t : Stand SimCell Unkept) → Leads AnswersSo AllKept T s t → Holds T H t)
    → Halts AnswersSo AllKept T s h new j J → new.world.collisions ≡ 0
clear T H s h new j J on c (breaks t leads here has) = ends_clear T H J new on (at_stand T H t new j J (c t leads) has)
clear T H s h new j J on c (lacks t leads is unbooked has) = unbooked_clear T H t new on (c t leads) unbooked
clear T H s h new j J on c (fills t leads is away has) =
    read_clear T H t new away.machine away.reading on (c t leads) away.shown
clear T H s h new j J on c (comes_to_rest t e leads is rest has) =
    ends_clear T H J new on (at_stand T H t new j J (c t leads) has)
clear T H s h new j J on c (tires t leads is here rounds has) =
    ends_clear T H J new on (at_stand T H t new j J (c t leads) has)
