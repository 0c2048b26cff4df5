-- What the operator did, by his script or because it was wanted at the cell
use Rattle.std.proofs.Common.{◌≡◌, ◌∷◌, ◌+◌, [], List, ℕ, Bool, true, false, refl, sym, ap, subst, ◌∙◌, Option}
use Rattle.std.proofs.Common.{length-append}
use Rattle.std.specs.Prelude.{Some, None, Result, Ok, Err, length}
use Rattle.cell_types.specs.Entries.{actor_of}
use Rattle.cell_types.specs.declared.words.Actor.TheVariants as actor
use Rattle.cell_types.specs.declared.words.Entry.{Entry}
use Rattle.cell_rules.specs.History.{History}
use Rattle.cell_rules.specs.Legal.{first_of}
use Rattle.cell_rules.specs.declared.limits.BookLimits.{BookLimits}
use Rattle.cell_ports.specs.declared.plan.Plan.{Plan}
use Rattle.cell_ports.specs.declared.port.Act.{Act}
use Rattle.cell_turns.specs.Acts.{act_of}
use Rattle.cell_turns.specs.Minds.{Mind}
use Rattle.cell_turns.specs.Schedules.{now}
use Rattle.cell_turns.specs.declared.six.Six.{Six}
use Rattle.cell_turns.specs.declared.watch.Watch.{Watch}
use Rattle.cell_workers.specs.declared.ends.End.TheVariants as end
use Rattle.operator_desk.specs.Next.{entry_of, left_after, next_of}
use Rattle.operator_desk.specs.declared.action.Action.{Action}
use Rattle.operator_desk.specs.declared.line.Line.{Line}
use Rattle.operator_desk.specs.declared.line.Task.{Task}
use Rattle.operator_desk.specs.declared.line.Task.TheVariants as task
use Rattle.cell_plant.specs.Asked.{Asked}
use Rattle.cell_plant.specs.declared.desk.Denial.TheVariants as denial
use Rattle.cell_plant.specs.declared.desk.Reply.{Reply}
use Rattle.cell_plant.specs.declared.desk.Reply.TheVariants as reply
use Rattle.cell_plant.specs.declared.desk.Wish.TheVariants as wish
use Rattle.cell_rounds.specs.Calls.{IsKept, Misses, halted}
use Rattle.cell_rounds.specs.Moves.{Books, Fails, Hands, Move, answered, does, entry_wanted, fails, grants}
use Rattle.cell_rounds.specs.Moves.{if_kept, misses, notes, stays, terms_of}
use Rattle.cell_rounds.specs.Runs.{Goes, Unbooked, act, lacks, noted}
use Rattle.cell_rounds.specs.Stands.{Answering, Desk, Noted, Noting, Over, Point, Serving, Stand, State, Turning}
use Rattle.cell_rounds.specs.Stands.{Wanted}
use Rattle.cell_rounds.specs.Stands.{desk, place, stand}
use Rattle.cell_rounds.specs.declared.progress.Halt.{Halt}
use Rattle.cell_rounds.specs.declared.progress.Halt.TheVariants as halt
use Rattle.cell_rounds.specs.declared.settle.LastCommand.{LastCommand}
use Rattle.cell_rounds.proofs.Moving.{goes_move, goes_over}

-- what is wanted at the cell, or was done there, is the operator's
pub wanted_his : (J : List Entry) (t : Task) → actor_of (entry_wanted J t) ≡ actor.Operator
wanted_his J (task.Stop m) = refl
wanted_his J (task.Clear s) = refl
wanted_his J (task.Repair m) = refl
wanted_his J (task.Expect k) = refl

-- there is an entry of each task, and this is it
pub no_task : (o : Option Entry) (e : Entry) → o ≡ Some e → o ≡ None → ⊥
no_task (Some x) e is none = cc
no_task None e is none = cc

pub task_is : (o : Option Entry) (e : Entry) (h h' : History) (t : Task) → o ≡ Some e
    → o ≡ Some (entry_wanted h.entries t) → h ≡ h' → e ≡ entry_wanted h'.entries t
task_is (Some x) e h h' t is was same =
    cc-of is was ∙ ap (λ (q : History). entry_wanted q.entries t) same
  where
    cc-of : Some x ≡ Some e → Some x ≡ Some (entry_wanted h.entries t) → e ≡ entry_wanted h.entries t
    cc-of a b = cc
task_is None e h h' t is was same = cc

-- with one more entry the journal is longer by one
pub kept_longer : {K A : Type 0} (keeps : K → K → Entry → Bool → Type 0) (e : Entry) (r : Result A Halt) (a : A)
    (k k' : K) (h h' : History) → r ≡ Ok a → IsKept keeps e r k k' h h' → length h'.entries ≡ length h.entries + 1
kept_longer keeps e (Ok x) a k k' h h' is did =
    ap (λ (q : History). length q.entries) did.1 ∙ length-append h.entries (e ∷ [])
kept_longer keeps e (Err x) a k k' h h' is did = cc

module _ {C K : Type 0} (told : C → C → Asked → Type 0) (keeps : K → K → Entry → Bool → Type 0) (l : BookLimits)
    (p : Plan) where
  -- what a call that booked an entry is a move of
  abbrev Booking : Entry → Point → Point → State C K → C → Desk → Type 0
  Booking e f g x c D =
      (waits : Bool) (n : ℕ) (J : List Entry) (minds : Six Mind) (t : Stand C K)
      (books : Books keeps l e (stand x minds (place n J f)) t) → t.cell ≡ c → t.desk ≡ D
      → t.place ≡ place n J (if_kept books.kept g)
      → Move told keeps (terms_of l p waits) (stand x minds (place n J f)) t

  -- an entry of the operator is booked, and kept or not, or memory is refused to it
  goes_booked : (A : Type 0) (e : Entry) (r : Result A Halt) (f g : Point) (c c' : C) (k k' : K) (h h' : History)
      (ws : Six Watch) (o : Option LastCommand) (D D' : Desk) → actor_of e ≡ actor.Operator
      → ((n : ℕ) (J : List Entry) (minds : Six Mind) → first_of l h.entries e ≡ None → Unbooked told l
      (stand (record { cell = c; keeper = k; journal = h.entries; watches = ws; pending = o; desk = D }) minds
      (place n J f)) c')
      → first_of l h.entries e ≡ None
      → Booking e f g (record { cell = c; keeper = k; journal = h.entries; watches = ws; pending = o; desk = D }) c' D'
      → IsKept keeps e r k k' h h'
      → Goes told keeps l p (halted r) f g
      (record { cell = c; keeper = k; journal = h.entries; watches = ws; pending = o; desk = D })
      (record { cell = c'; keeper = k'; journal = h'.entries; watches = ws; pending = o; desk = D' })
  goes_booked A e (Ok a) f g c c' k k' h h' ws o D D' his left free move did =
      let x : State C K = record { cell = c; keeper = k; journal = h.entries; watches = ws; pending = o; desk = D } in
      let y : State C K = record {
        cell = c';
        keeper = k';
        journal = h'.entries;
        watches = ws;
        pending = o;
        desk = D';
      } in
      goes_move told keeps l p f g x y (λ waits n J minds fits. (
        minds,
        fits,
        move waits n J minds (stand y minds (place n J g)) (record {
          his = record { actor = his; allowed = free };
          now = ap (λ (q : History). now q.entries minds) did.1;
          kept = true;
          keeping = did.2;
          pending = refl;
        }) refl refl refl,
      ))
  goes_booked A e (Err halt.Unkept) f g c c' k k' h h' ws o D D' his left free move did =
      let x : State C K = record { cell = c; keeper = k; journal = h.entries; watches = ws; pending = o; desk = D } in
      let y : State C K = record {
        cell = c';
        keeper = k';
        journal = h'.entries;
        watches = ws;
        pending = o;
        desk = D';
      } in
      goes_over told keeps l p halt.Unkept f g x y
      (goes_move told keeps l p f (Over halt.Unkept) x y (λ waits n J minds fits. (
        minds,
        fits,
        move waits n J minds (stand y minds (place n J (Over halt.Unkept))) (record {
          his = record { actor = his; allowed = free };
          now = ap (λ (q : History). now q.entries minds) did.1;
          kept = false;
          keeping = did.2;
          pending = refl;
        }) refl refl refl,
      )))
  goes_booked A e (Err (halt.End end.Memory)) f g c c' k k' h h' ws o D D' his left free move did =
      λ waits n J minds fits.
      lacks (stand (record { cell = c; keeper = k; journal = h.entries; watches = ws; pending = o; desk = D }) minds
      (place n J f)) stays refl (left n J minds free)
      (refl, sym did.0, ap (λ (q : History). q.entries) (sym did.1))
  goes_booked A e (Err (halt.End end.Finished)) f g c c' k k' h h' ws o D D' his left free move did = elim did [ ]
  goes_booked A e (Err (halt.End end.Stalled)) f g c c' k k' h h' ws o D D' his left free move did = elim did [ ]
  goes_booked A e (Err (halt.End end.TurnLimit)) f g c c' k k' h h' ws o D D' his left free move did = elim did [ ]
  goes_booked A e (Err (halt.End end.Full)) f g c c' k k' h h' ws o D D' his left free move did = elim did [ ]
  goes_booked A e (Err halt.Gone) f g c c' k k' h h' ws o D D' his left free move did = elim did [ ]

  -- what was done at the cell is booked
  pub goes_noted : (A : Type 0) (i : ℕ) (done : Task) (r : Result A Halt) (c : C) (k k' : K) (h h' : History)
      (ws : Six Watch) (o : Option LastCommand) (D : Desk) → first_of l h.entries (entry_wanted h.entries done) ≡ None
      → IsKept keeps (entry_wanted h.entries done) r k k' h h'
      → Goes told keeps l p (halted r) (Noted i done) (Noting (i + 1))
      (record { cell = c; keeper = k; journal = h.entries; watches = ws; pending = o; desk = D })
      (record { cell = c; keeper = k'; journal = h'.entries; watches = ws; pending = o; desk = D })
  goes_noted A i done r c k k' h h' ws o D free did =
      goes_booked A (entry_wanted h.entries done) r (Noted i done) (Noting (i + 1)) c c k k' h h' ws o D D
      (wanted_his h.entries done) (λ n J minds free'. noted i done refl refl) free
      (λ waits n J minds t books same kept goes_on. notes i done books refl same kept goes_on) did

  -- the script's next action is done
  pub goes_done : (A : Type 0) (a : Action) (r : Result A Halt) (c c' : C) (k k' : K) (h h' : History)
      (ws : Six Watch) (o : Option LastCommand) (lines : List Line)
      → next_of lines (record { limits = l; entries = h.entries }) ≡ Some a → actor_of (entry_of a) ≡ actor.Operator
      → first_of l h.entries (entry_of a) ≡ None → Hands told (act_of (entry_of a)) c c'
      → IsKept keeps (entry_of a) r k k' h h'
      → Goes told keeps l p (halted r) (Turning []) (Serving 0)
      (record { cell = c; keeper = k; journal = h.entries; watches = ws; pending = o; desk = desk lines false })
      (record {
        cell = c';
        keeper = k';
        journal = h'.entries;
        watches = ws;
        pending = o;
        desk = desk (left_after lines) false;
      })
  goes_done A a r c c' k k' h h' ws o lines next his free hands did =
      goes_booked A (entry_of a) r (Turning []) (Serving 0) c c' k k' h h' ws o (desk lines false)
      (desk (left_after lines) false) his
      (λ n J minds free'.
      act (entry_of a) (a, next, refl) (record { actor = his; allowed = free' }) hands) free
      (λ waits n J minds t books same left goes_on.
      does a books refl refl next (subst (λ (q : C). Hands told (act_of (entry_of a)) c q) (sym same) hands) left
      goes_on) did

  -- what is wanted at the cell is done
  pub goes_granted : (A : Type 0) (i : ℕ) (done : Task) (answer : Reply) (r : Result A Halt) (c c' : C) (k k' : K)
      (h h' : History) (ws : Six Watch) (o : Option LastCommand) (D : Desk)
      → first_of l h.entries (entry_wanted h.entries done) ≡ None → Hands told (act_of
      (entry_wanted h.entries done)) c c'
      → answer ≡ reply.Booked (length h.entries + 1)
      → IsKept keeps (entry_wanted h.entries done) r k k' h h'
      → Goes told keeps l p (halted r) (Wanted i (wish.For done)) (Answering i answer)
      (record { cell = c; keeper = k; journal = h.entries; watches = ws; pending = o; desk = D })
      (record { cell = c'; keeper = k'; journal = h'.entries; watches = ws; pending = o; desk = D })
  goes_granted A i done answer r c c' k k' h h' ws o D free hands says did =
      goes_booked A (entry_wanted h.entries done) r (Wanted i (wish.For done)) (Answering i answer) c c' k k' h h' ws o
      D D (wanted_his h.entries done)
      (λ n J minds free'.
      act (entry_wanted h.entries done) refl
      (record { actor = wanted_his h.entries done; allowed = free' }) hands) free
      (λ waits n J minds t books same kept goes_on.
      grants i done books refl
      (subst (λ (q : C). Hands told (act_of (entry_wanted h.entries done)) c q) (sym same) hands) kept
      (subst (λ (q : Reply). t.place ≡ place n J (if_kept books.kept (Answering i q))) says goes_on)) did

  -- the act of an entry that is allowed isn't done: what a call is a move of that tried it
  abbrev Trying : Entry → Point → Point → State C K → Desk → Type 0
  Trying e f g x D =
      (waits : Bool) (n : ℕ) (J : List Entry) (minds : Six Mind) (t : Stand C K)
      (tries : Fails told l e (stand x minds (place n J f)) t) → t.desk ≡ D
      → t.place ≡ place n J (answered tries.answer g)
      → Move told keeps (terms_of l p waits) (stand x minds (place n J f)) t

  goes_tried : (e : Entry) (wanted : Option Act) (h : Option Halt) (f g : Point) (x : State C K) (c : C) (D : Desk)
      → actor_of e ≡ actor.Operator → first_of l x.journal e ≡ None → act_of e ≡ wanted
      → Trying e f g x D → Misses told wanted h x.cell c
      → Goes told keeps l p h f g x (record x { cell = c; desk = D })
  goes_tried e None h f g x c D his free is move missed = elim missed [ ]
  goes_tried e (Some a) h f g x c D his free is move (Ok b, not, did, on) = rw on
      (goes_move told keeps l p f g x (record x { cell = c; desk = D }) (λ waits n J minds fits. (
        minds,
        fits,
        move waits n J minds (stand (record x { cell = c; desk = D }) minds (place n J g)) (record {
          his = record { actor = his; allowed = free };
          act = a;
          wanted = is;
          answer = Ok b;
          not_done = not;
          hands = did;
          now = refl;
          keeper = refl;
          pending = refl;
        }) refl refl,
      )))
  goes_tried e (Some a) h f g x c D his free is move (Err why, not, did, on) = rw on
      (goes_over told keeps l p halt.Gone f g x (record x { cell = c; desk = D })
      (goes_move told keeps l p f (Over halt.Gone) x (record x { cell = c; desk = D }) (λ waits n J minds fits. (
        minds,
        fits,
        move waits n J minds (stand (record x { cell = c; desk = D }) minds (place n J (Over halt.Gone))) (record {
          his = record { actor = his; allowed = free };
          act = a;
          wanted = is;
          answer = Err why;
          not_done = not;
          hands = did;
          now = refl;
          keeper = refl;
          pending = refl;
        }) refl refl,
      ))))

  -- the operator fails at his script's next action
  pub goes_failed : (a : Action) (h : Option Halt) (x : State C K) (c : C) → x.desk.lost ≡ false
      → next_of x.desk.lines (record { limits = l; entries = x.journal }) ≡ Some a
      → actor_of (entry_of a) ≡ actor.Operator → first_of l x.journal (entry_of a) ≡ None
      → Misses told (act_of (entry_of a)) h x.cell c
      → Goes told keeps l p h (Turning []) (Serving 0) x (record x { cell = c; desk = desk x.desk.lines true })
  goes_failed a h x c able next his free missed =
      goes_tried (entry_of a) (act_of (entry_of a)) h (Turning []) (Serving 0) x c (desk x.desk.lines true) his free
      refl (λ waits n J minds t tries left goes_on. fails a tries refl able next left goes_on) missed

  -- or at what is wanted at the cell
  pub goes_missed : (i : ℕ) (done : Task) (h : Option Halt) (x : State C K) (c : C)
      → first_of l x.journal (entry_wanted x.journal done) ≡ None
      → Misses told (act_of (entry_wanted x.journal done)) h x.cell c
      → Goes told keeps l p h (Wanted i (wish.For done)) (Answering i (reply.Denied denial.Failed)) x
      (record x { cell = c })
  goes_missed i done h x c free missed =
      goes_tried (entry_wanted x.journal done) (act_of (entry_wanted x.journal done)) h (Wanted i (wish.For done))
      (Answering i (reply.Denied denial.Failed)) x c x.desk (wanted_his x.journal done) free refl
      (λ waits n J minds t tries kept goes_on. misses i done tries refl kept goes_on) missed
