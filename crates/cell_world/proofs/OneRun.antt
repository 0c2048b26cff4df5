-- Each move of a run of the simulated cell is the one that follows
use Rattle.std.proofs.Common.{◌≡◌, ◌<◌, ◌⊎◌, inl, inr, ◌++◌, ◌+◌, ◌∷◌, [], ℕ, zero, suc, Bool, true, false, not}
use Rattle.std.proofs.Common.{Option, Some, None, Result, Ok, List, IfSome, refl, sym, ap, ◌∙◌, subst}
use Rattle.std.specs.Option.{option_and_then}
use Rattle.std.specs.Prelude.{option_to_list}
use Rattle.cell_types.specs.Entries.{command_of}
use Rattle.cell_types.specs.Texts.{all_machine}
use Rattle.cell_types.specs.declared.words.Command.{Command}
use Rattle.cell_types.specs.declared.words.Entry.{Entry}
use Rattle.cell_types.specs.declared.words.Machine.{Machine}
use Rattle.cell_rules.specs.Legal.{first_of}
use Rattle.cell_rules.specs.declared.limits.BookLimits.{BookLimits}
use Rattle.cell_diagnosis.specs.declared.reading.Reading.{Reading}
use Rattle.cell_ports.specs.declared.plan.Plan.{Plan}
use Rattle.cell_ports.specs.declared.port.Act.{Act}
use Rattle.cell_turns.specs.Acts.{act_of}
use Rattle.cell_turns.specs.Minds.{Mind}
use Rattle.cell_turns.specs.Rulings.{ruling}
use Rattle.cell_turns.specs.Schedules.{Now, mind_sent, now}
use Rattle.cell_turns.specs.Six.{at, put}
use Rattle.cell_turns.specs.Turns.{IsDecided, IsRuled, mind_after}
use Rattle.cell_turns.specs.declared.six.Six.{Six}
use Rattle.cell_turns.specs.declared.turns.decide.Ruling.{Ruling}
use Rattle.cell_turns.specs.declared.turns.decide.Ruling.TheVariants.{Books as Decides, Nothing, PastLast, Proposes}
use Rattle.operator_desk.specs.Next.{entry_of, left_after}
use Rattle.operator_desk.specs.declared.action.Action.{Action}
use Rattle.operator_desk.specs.declared.line.Line.{Line}
use Rattle.operator_desk.specs.declared.line.Task.{Task}
use Rattle.cell_plant.specs.declared.desk.Wish.{Wish}
use Rattle.cell_plant.specs.declared.desk.Wish.TheVariants as wish
use Rattle.cell_plant.specs.declared.gone.Gone.{Gone}
use Rattle.cell_plant.specs.declared.keeper.Unkept.{Unkept}
use Rattle.cell_rounds.specs.Moves.{Books, Hands, Leads, Move, Orders, OrdersIf, Terms, Turn, after_act}
use Rattle.cell_rounds.specs.Moves.{GoesOn, after_close, after_wish, answered, if_kept, if_reached, most_heard, moved}
use Rattle.cell_rounds.specs.Moves.{next_at as due_at}
use Rattle.cell_rounds.specs.Moves.{is_lost as isnt_done}
use Rattle.cell_rounds.specs.Moves.Leads.{goes, stays}
use Rattle.cell_rounds.specs.Moves.Move.{asked, asks, begins, closes, denies, does, fails, finds, grants, heard, hears}
use Rattle.cell_rounds.specs.Moves.Move.{looks, misses, notes, rejects, repeats, replies, rests, turns}
use Rattle.cell_rounds.specs.Rest.{KeepsOn}
use Rattle.cell_rounds.specs.Stands.{Answering, Between, Closing, Desk, Noted, Noting, Place, Point, Serving}
use Rattle.cell_rounds.specs.Stands.{Stand, Turning, Wanted, desk, place, start, to}
use Rattle.cell_sim.specs.Commands.{after_command, fails as does_fail}
use Rattle.cell_sim.specs.Readings.{after_reading, after_round, shown}
use Rattle.cell_sim.specs.Simulated.{Simulated}
use Rattle.cell_sim.specs.declared.fault.PlannedFault.{PlannedFault}
use Rattle.sim_plant.specs.Answers.{AnswersSo, SimCell}
use Rattle.cell_runs.specs.Cells.{AllKept}
use Rattle.cell_world.specs.OneRun.{Moment, RunFollows, decided, handed, is_lost, later, moment, moment_of, next}
use Rattle.cell_world.specs.OneRun.{next_at, ordered, ruled, served, turned}
use Rattle.cell_world.proofs.Moves.{kept_so, none_pending}

-- the same moment, part by part
same_moment : (a b : Moment) → a.world ≡ b.world → a.now ≡ b.now → a.desk ≡ b.desk → a.place ≡ b.place → a ≡ b
same_moment a b h i j k =
    ap (λ (w : Simulated). moment w a.now a.desk a.place) h
    ∙ (ap (λ (n : Now). moment b.world n a.desk a.place) i
    ∙ (ap (λ (d : Desk). moment b.world b.now d a.place) j
    ∙ ap (λ (x : Place). moment b.world b.now b.desk x) k))

-- the points of a run at whose cell nobody does or wants anything, and which goes on
abbrev pub is_ordinary : Point → Bool
is_ordinary Between = true
is_ordinary (Noting n) = true
is_ordinary (Turning rest) = true
is_ordinary (Serving n) = true
is_ordinary Closing = true
is_ordinary _ = false

-- a stand of a run of the simulated cell
pub record IsOrdinary (planned : List PlannedFault) (s : Stand SimCell Unkept) : Type 0 where
  pub faults : s.cell.faults ≡ planned
  pub settled : s.pending ≡ None
  pub point : is_ordinary s.place.point ≡ true
  pub able : s.desk.lost ≡ false

-- what lets a run go on from a moment
abbrev pub MayGoOn : Terms → Point → Moment → Type 0
MayGoOn T Between a = a.place.rounds < T.plan.turns
MayGoOn T (Turning (m ∷ rest)) a =
    (e : Option Entry) × IsDecided T.limits a.now.journal m T.plan (at a.now.minds m) (shown a.world m) e
    × IfSome e (λ x. first_of T.limits a.now.journal x ≡ None)
MayGoOn T Closing a = a.now.journal ≡ a.place.begun → KeepsOn T.plan T.waits a.now.journal a.now.minds
MayGoOn T _ a = Unit {0}

-- a move leads to the moment that follows
pub record Follows (T : Terms) (faults : List PlannedFault) (s t : Stand SimCell Unkept) : Type 0 where
  pub ordinary : IsOrdinary faults t
  pub is : moment_of t ≡ next T faults (moment_of s)
  pub may : MayGoOn T s.place.point (moment_of s)

follows_at : (T : Terms) (faults : List PlannedFault) (s t : Stand SimCell Unkept) (x : Point) → s.place.point ≡ x
    → IsOrdinary faults t → moment_of t ≡ next_at T faults x (moment_of s) → MayGoOn T x (moment_of s)
    → Follows T faults s t
follows_at T faults s t x here ordinary is may = record {
  ordinary = ordinary;
  is = subst (λ (y : Point). moment_of t ≡ next_at T faults y (moment_of s)) (sym here) is;
  may = subst (λ (y : Point). MayGoOn T y (moment_of s)) (sym here) may;
}

pub not_ordinary : (x y : Point) → x ≡ y → is_ordinary x ≡ true → is_ordinary y ≡ false → ⊥
not_ordinary x y h o n = let z : true ≡ false = sym o ∙ (ap is_ordinary h ∙ n) in cc z

-- WHAT A TURN DECIDES ON

ruled_is : (l : BookLimits) (J : List Entry) (plates : ℕ) (m : Machine) (k : Ruling) (e : Option Entry)
    → IsRuled l J m plates k e → e ≡ ruled l J plates m k
ruled_is l J plates m Nothing e h = h
ruled_is l J plates m (Decides x) e h = h
ruled_is l J plates m PastLast e h = absurd h
ruled_is l J plates m Proposes e h = h

pub decided_is : (l : BookLimits) (p : Plan) (m : Machine) (r : Option Reading) (s : Now) (e : Option Entry)
    → IsDecided l s.journal m p (at s.minds m) r e → e ≡ decided l p m r s
decided_is l p m r s e h = ruled_is l s.journal p.plates m (ruling s.journal m p (at s.minds m) r) e h

-- ITS COMMAND

not_done : (b : Bool) → isnt_done (Ok (not b)) ≡ b
not_done true = refl
not_done false = refl

record IsOrdered (planned : List PlannedFault) (x : Option Command) (lost : Bool) (point next : Point)
    (seen new : SimCell) : Type 0 where
  faults : new.faults ≡ planned
  world : new.world ≡ ordered planned seen.world x
  failed : lost ≡ is_lost planned seen.world x
  goes : next ≡ point

is_ordered : (faults : List PlannedFault) (m : Machine) (x : Option Command) (lost : Bool) (point next : Point)
    (seen new : SimCell) → seen.faults ≡ faults → Orders AnswersSo m x lost point next seen new
    → IsOrdered faults x lost point next seen new
is_ordered faults m None lost point next seen new f (same, carried, there) =
    record {
      faults = ap (λ (c : SimCell). c.faults) same ∙ f;
      world = ap (λ (c : SimCell). c.world) same;
      failed = carried;
      goes = there;
    }
is_ordered faults m (Some x) lost point next seen new f (r, told, carried, there) =
    let answer : r ≡ Ok (not (does_fail faults seen.world x)) =
    told.1.0 ∙ ap (λ (fs : List PlannedFault). Ok (not (does_fail fs seen.world x))) f in
    record {
      faults = told.0 ∙ f;
      world = told.1.1 ∙ ap (λ (fs : List PlannedFault). after_command fs seen.world x) f;
      failed = carried ∙ (ap isnt_done answer ∙ not_done (does_fail faults seen.world x));
      goes = there ∙ ap (λ (a : Result Bool Gone). answered a point) answer;
    }

-- A TURN

-- what a turn left, in the words of its own reading and entry
turned_is : (T : Terms) (faults : List PlannedFault) (m : Machine) (rest : List Machine) (s t : Stand SimCell Unkept)
    → (turn : Turn AnswersSo AllKept T m rest s t)
    → IsOrdered faults (option_and_then command_of turn.turned.booked) turn.turned.lost (Turning rest) turn.next
    turn.seen t.cell
    → moment_of t ≡ turned T faults m rest turn.reading turn.turned.booked (moment_of s)
turned_is T faults m rest s t turn did =
    let done = turn.turned in let e = done.booked in let J = s.now.journal in let w = after_reading s.cell.world m in
    let x = option_and_then command_of e in
    let seen : turn.seen.world ≡ w = turn.shown.1.1 in
    let mind = mind_after J m T.plan (at s.now.minds m) turn.reading e in
    let lost : done.lost ≡ is_lost faults w x = did.failed ∙ ap (λ (v : Simulated). is_lost faults v x) seen in
    let minds : t.now.minds ≡ put s.now.minds m (mind_sent (is_lost faults w x) mind) =
    done.minds ∙ ap (λ (b : Bool). put s.now.minds m (mind_sent b mind)) lost in
    same_moment (moment_of t) (turned T faults m rest turn.reading e (moment_of s))
    (did.world ∙ ap (λ (v : Simulated). ordered faults v x) seen)
    (ap (λ (K : List Entry). now K t.now.minds) done.journal
    ∙ ap (λ (b : Six Mind). now (J ++ option_to_list e) b) minds)
    turn.desk (turn.place ∙ ap (λ (y : Point). to s.place y) did.goes)

turn_follows : (T : Terms) (faults : List PlannedFault) (m : Machine) (rest : List Machine)
    (s t : Stand SimCell Unkept) → IsOrdinary faults s → s.place.point ≡ Turning (m ∷ rest)
    → Turn AnswersSo AllKept T m rest s t → Follows T faults s t
turn_follows T faults m rest s t c here turn =
    let done = turn.turned in let e = done.booked in
    let reads : turn.reading ≡ shown s.cell.world m = turn.shown.1.0 in
    let did = is_ordered faults m (option_and_then command_of e) done.lost (Turning rest) turn.next turn.seen t.cell
    (turn.shown.0 ∙ c.faults)
    (subst (λ (b : Bool). OrdersIf AnswersSo b m (option_and_then command_of e) done.lost (Turning rest) turn.next
    turn.seen t.cell) (kept_so e turn.kept s.keeper t.keeper turn.keeping) turn.orders) in
    let decides = subst (λ (r : Option Reading). IsDecided T.limits s.now.journal m T.plan (at s.now.minds m) r e)
    reads done.decided in
    let entry = decided_is T.limits T.plan m (shown s.cell.world m) s.now e decides in
    follows_at T faults s t (Turning (m ∷ rest)) here
    (record {
      faults = did.faults;
      settled = turn.pending ∙ c.settled;
      point = ap (λ (a : Place). is_ordinary a.point) turn.place ∙ ap is_ordinary did.goes;
      able = ap (λ (d : Desk). d.lost) turn.desk ∙ c.able;
    })
    (turned_is T faults m rest s t turn did
    ∙ (ap (λ (r : Option Reading). turned T faults m rest r e (moment_of s)) reads
    ∙ ap (λ (o : Option Entry). turned T faults m rest (shown s.cell.world m) o (moment_of s)) entry))
    (e, decides, done.allowed)

-- THE OPERATOR

hands_did : (o : Option Act) (c d : SimCell) → Hands AnswersSo o c d
    → (d.faults ≡ c.faults) × (d.world ≡ handed c.world o)
hands_did None c d h = (ap (λ (x : SimCell). x.faults) h, ap (λ (x : SimCell). x.world) h)
hands_did (Some a) c d h = (h.0, h.1.1)

rests_follow : (T : Terms) (faults : List PlannedFault) (s t : Stand SimCell Unkept) → IsOrdinary faults s
    → s.place.point ≡ Turning [] → (s.desk.lost ≡ true) ⊎ (due_at T.limits s ≡ None)
    → t ≡ moved s s.cell (Serving 0) → Follows T faults s t
rests_follow T faults s t c here (inl lost) h = let x : true ≡ false = sym lost ∙ c.able in cc x
rests_follow T faults s t c here (inr none) h =
    follows_at T faults s t (Turning []) here
    (record {
      faults = ap (λ (x : Stand SimCell Unkept). x.cell.faults) h ∙ c.faults;
      settled = ap (λ (x : Stand SimCell Unkept). x.pending) h ∙ c.settled;
      point = ap (λ (x : Stand SimCell Unkept). is_ordinary x.place.point) h;
      able = ap (λ (x : Stand SimCell Unkept). x.desk.lost) h ∙ c.able;
    })
    (ap moment_of h ∙ ap (served (moment_of s)) (sym none)) tt

does_follow : (T : Terms) (faults : List PlannedFault) (s t : Stand SimCell Unkept) (a : Action) → IsOrdinary faults s
    → s.place.point ≡ Turning [] → (books : Books AllKept T.limits (entry_of a) s t) → due_at T.limits s ≡ Some a
    → Hands AnswersSo (act_of (entry_of a)) s.cell t.cell → t.desk ≡ desk (left_after s.desk.lines) false
    → t.place ≡ to s.place (if_kept books.kept (Serving 0)) → Follows T faults s t
does_follow T faults s t a c here books due hands left there =
    let did = hands_did (act_of (entry_of a)) s.cell t.cell hands in
    let goes : t.place ≡ to s.place (Serving 0) =
    there ∙ ap (λ (b : Bool). to s.place (if_kept b (Serving 0))) books.keeping in
    follows_at T faults s t (Turning []) here
    (record {
      faults = did.0 ∙ c.faults;
      settled = books.pending ∙ c.settled;
      point = ap (λ (x : Place). is_ordinary x.point) goes;
      able = ap (λ (d : Desk). d.lost) left;
    })
    (same_moment (moment_of t) (served (moment_of s) (Some a)) did.1 books.now left goes
    ∙ ap (served (moment_of s)) (sym due)) tt

-- THE MOVES

-- the cell is asked, and the run goes on elsewhere in the round
elsewhere : (T : Terms) (faults : List PlannedFault) (s t : Stand SimCell Unkept) (x y : Point) → IsOrdinary faults s
    → s.place.point ≡ x → t ≡ moved s t.cell y → t.cell.faults ≡ s.cell.faults → t.cell.world ≡ s.cell.world
    → is_ordinary y ≡ true → moment s.cell.world s.now s.desk (to s.place y) ≡ next_at T faults x (moment_of s)
    → MayGoOn T x (moment_of s) → Follows T faults s t
elsewhere T faults s t x y c here h f w o is may =
    follows_at T faults s t x here
    (record {
      faults = f ∙ c.faults;
      settled = ap (λ (u : Stand SimCell Unkept). u.pending) h ∙ c.settled;
      point = ap (λ (u : Stand SimCell Unkept). is_ordinary u.place.point) h ∙ o;
      able = ap (λ (u : Stand SimCell Unkept). u.desk.lost) h ∙ c.able;
    })
    (same_moment (moment_of t) (moment s.cell.world s.now s.desk (to s.place y)) w
    (ap (λ (u : Stand SimCell Unkept). u.now) h) (ap (λ (u : Stand SimCell Unkept). u.desk) h)
    (ap (λ (u : Stand SimCell Unkept). u.place) h) ∙ is) may

begins_follow : (T : Terms) (faults : List PlannedFault) (s t : Stand SimCell Unkept) (ok : Bool) → IsOrdinary faults s
    → s.place.point ≡ Between → s.place.rounds < T.plan.turns → t.cell.faults ≡ s.cell.faults → ok ≡ true
    → t.cell.world ≡ s.cell.world
    → t ≡ record s { cell = t.cell; place = place s.place.rounds s.now.journal (if_reached ok (Noting 0)) }
    → Follows T faults s t
begins_follow T faults s t ok c here room f went w h =
    let goes : t.place ≡ place s.place.rounds s.now.journal (Noting 0) =
    ap (λ (u : Stand SimCell Unkept). u.place) h
    ∙ ap (λ (b : Bool). place s.place.rounds s.now.journal (if_reached b (Noting 0))) went in
    follows_at T faults s t Between here
    (record {
      faults = f ∙ c.faults;
      settled = ap (λ (u : Stand SimCell Unkept). u.pending) h ∙ c.settled;
      point = ap (λ (x : Place). is_ordinary x.point) goes;
      able = ap (λ (u : Stand SimCell Unkept). u.desk.lost) h ∙ c.able;
    })
    (same_moment (moment_of t) (next_at T faults Between (moment_of s)) w
    (ap (λ (u : Stand SimCell Unkept). u.now) h) (ap (λ (u : Stand SimCell Unkept). u.desk) h) goes) room

closes_follow : (T : Terms) (faults : List PlannedFault) (s t : Stand SimCell Unkept) (ok : Bool) → IsOrdinary faults s
    → s.place.point ≡ Closing → GoesOn T s → t.cell.faults ≡ s.cell.faults → ok ≡ true
    → t.cell.world ≡ after_round s.cell.world → t ≡ record s { cell = t.cell; place = after_close s.place ok }
    → Follows T faults s t
closes_follow T faults s t ok c here on f went w h =
    let goes : t.place ≡ place (s.place.rounds + 1) s.place.begun Between =
    ap (λ (u : Stand SimCell Unkept). u.place) h ∙ ap (after_close s.place) went in
    follows_at T faults s t Closing here
    (record {
      faults = f ∙ c.faults;
      settled = ap (λ (u : Stand SimCell Unkept). u.pending) h ∙ c.settled;
      point = ap (λ (x : Place). is_ordinary x.point) goes;
      able = ap (λ (u : Stand SimCell Unkept). u.desk.lost) h ∙ c.able;
    })
    (same_moment (moment_of t) (next_at T faults Closing (moment_of s)) w
    (ap (λ (u : Stand SimCell Unkept). u.now) h) (ap (λ (u : Stand SimCell Unkept). u.desk) h) goes)
    (λ same. on same c.settled)

pub move_follows : (T : Terms) (faults : List PlannedFault) (s t : Stand SimCell Unkept) → IsOrdinary faults s
    → Move AnswersSo AllKept T s t → Follows T faults s t
move_follows T faults s t c (begins ok here room told h) =
    begins_follow T faults s t ok c here room told.0 told.1.0 told.1.1 h
move_follows T faults s t c (hears n task here told h) =
    elsewhere T faults s t (Noting n) (Turning all_machine) c here
    (h ∙ ap (λ (o : Option Task). moved s t.cell (after_act n o)) told.1.0) told.0 told.1.1 refl refl tt
move_follows T faults s t c (heard here h) =
    elsewhere T faults s t (Noting most_heard) (Turning all_machine) c here
    (h ∙ ap (λ (x : SimCell). moved s x (Turning all_machine)) (sym (ap (λ (u : Stand SimCell Unkept). u.cell) h)))
    (ap (λ (u : Stand SimCell Unkept). u.cell.faults) h) (ap (λ (u : Stand SimCell Unkept). u.cell.world) h) refl refl
    tt
move_follows T faults s t c (notes n done books here same left there) =
    absurd (not_ordinary s.place.point (Noted n done) here c.point refl)
move_follows T faults s t c (rejects n done why here refused told h) =
    absurd (not_ordinary s.place.point (Noted n done) here c.point refl)
move_follows T faults s t c (turns m rest here turn) = turn_follows T faults m rest s t c here turn
move_follows T faults s t c (looks m rest last r here waits its told h) =
    absurd (none_pending s.pending last c.settled waits)
move_follows T faults s t c (finds m rest last r here waits its told h) =
    absurd (none_pending s.pending last c.settled waits)
move_follows T faults s t c (repeats m rest last r seen here waits its told again) =
    absurd (none_pending s.pending last c.settled waits)
move_follows T faults s t c (rests here nothing h) = rests_follow T faults s t c here nothing h
move_follows T faults s t c (does a books here able due hands left there) =
    does_follow T faults s t a c here books due hands left there
move_follows T faults s t c (fails a tries here able due left there) = absurd (tries.not_done tries.hands.1.0)
move_follows T faults s t c (asks n wish here told h) =
    elsewhere T faults s t (Serving n) Closing c here
    (h ∙ ap (λ (o : Option Wish). moved s t.cell (after_wish n o)) told.1.0) told.0 told.1.1 refl refl tt
move_follows T faults s t c (asked here h) =
    elsewhere T faults s t (Serving most_heard) Closing c here
    (h ∙ ap (λ (x : SimCell). moved s x Closing) (sym (ap (λ (u : Stand SimCell Unkept). u.cell) h)))
    (ap (λ (u : Stand SimCell Unkept). u.cell.faults) h) (ap (λ (u : Stand SimCell Unkept). u.cell.world) h) refl refl
    tt
move_follows T faults s t c (denies n wish reply here denied h) =
    absurd (not_ordinary s.place.point (Wanted n wish) here c.point refl)
move_follows T faults s t c (grants n done books here hands left there) =
    absurd (not_ordinary s.place.point (Wanted n (wish.For done)) here c.point refl)
move_follows T faults s t c (misses n done tries here left there) =
    absurd (not_ordinary s.place.point (Wanted n (wish.For done)) here c.point refl)
move_follows T faults s t c (replies n reply ok here told h) =
    absurd (not_ordinary s.place.point (Answering n reply) here c.point refl)
move_follows T faults s t c (closes ok here on told h) =
    closes_follow T faults s t ok c here on told.0 told.1.0 told.1.1 h

-- THE RUN

-- so many moves, one after another
pub data Moves (T : Terms) (s : Stand SimCell Unkept) : ℕ → Stand SimCell Unkept → Type 0 where
  none : Moves T s zero s
  more : {n : ℕ} {t u : Stand SimCell Unkept} → Moves T s n t → Move AnswersSo AllKept T t u → Moves T s (suc n) u

pub moves_of : (T : Terms) (s t : Stand SimCell Unkept) → Leads AnswersSo AllKept T s t → (n : ℕ) × Moves T s n t
moves_of T s _ stays = (zero, none)
moves_of T s u (goes {t = t} before move) = let (n, m) = moves_of T s t before in (suc n, more m move)

-- a stand after so many moves, and the moment that it has
pub record Reached (T : Terms) (faults : List PlannedFault) (n : ℕ) (s t : Stand SimCell Unkept) : Type 0 where
  pub ordinary : IsOrdinary faults t
  pub is : moment_of t ≡ later T faults n (moment_of s)

pub reached : (T : Terms) (faults : List PlannedFault) (s : Stand SimCell Unkept) (n : ℕ) (t : Stand SimCell Unkept)
    → IsOrdinary faults s
    → Moves T s n t → Reached T faults n s t
reached T faults s _ _ c none = record { ordinary = c; is = refl }
reached T faults s _ u c (more {n = n} {t = t} before move) =
    let was = reached T faults s n t c before in
    let then = move_follows T faults t u was.ordinary move in
    record { ordinary = then.ordinary; is = then.is ∙ ap (next T faults) was.is }

pub starts_ordinary : (cell : SimCell) (k : Unkept) (J : List Entry) (lines : List Line)
    → IsOrdinary cell.faults (start cell k J lines None)
starts_ordinary cell k J lines = record { faults = refl; settled = refl; point = refl; able = refl }

pub run_follows : RunFollows
run_follows T cell k J lines s leads =
    let from = start cell k J lines None in
    let (n, moves) = moves_of T from s leads in
    (n, (reached T cell.faults from n s (starts_ordinary cell k J lines) moves).is)
