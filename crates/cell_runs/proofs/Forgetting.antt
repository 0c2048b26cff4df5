-- A run over a cell that is always reached is one of rounds alone: what is left of it without the cell
use Rattle.std.proofs.Common.{◌≡◌, ◌⊎◌, inl, inr, ℕ, List, [], ◌∷◌, ◌++◌, map, Bool, true, false, Option, Some}
use Rattle.std.proofs.Common.{None, Result, Ok, Err, refl, sym, ap, subst, ◌∙◌, append_assoc, append-nil, arith}
use Rattle.std.specs.Prelude.{◌&&◌, is_some}
use Rattle.std.proofs.lemmas.List.{map-append, append_cancel_left}
use Rattle.cell_types.specs.declared.words.Command.{Command}
use Rattle.cell_types.specs.declared.words.Entry.{Entry}
use Rattle.cell_types.specs.declared.words.Machine.{Machine}
use Rattle.cell_types.specs.declared.words.Machine.TheVariants as machine
use Rattle.cell_rules.specs.declared.limits.BookLimits.{BookLimits}
use Rattle.cell_ports.specs.declared.plan.Plan.{Plan}
use Rattle.cell_ports.specs.declared.port.Act.{Act}
use Rattle.cell_turns.specs.Minds.{Mind}
use Rattle.cell_turns.specs.Six.{at}
use Rattle.cell_turns.specs.declared.six.Six.{Six}
use Rattle.cell_turns.specs.declared.schedule.Step.{Step}
use Rattle.cell_turns.specs.declared.schedule.Step.TheVariants.{Turn}
use Rattle.cell_turns.specs.Schedules.{Now, now, Leads}
use Rattle.cell_turns.specs.Schedules.Leads.{stays, turns as one_turn, refuses as one_refused, hands as one_hand}
use Rattle.cell_turns.specs.Schedules.Leads.{fails as one_failed}
use Rattle.cell_workers.specs.Ends.{IsDone, is_idle}
use Rattle.cell_workers.specs.declared.ends.End.{End}
use Rattle.cell_workers.specs.declared.ends.End.TheVariants as end
use Rattle.operator_desk.specs.Next.{entry_of, left_after, next_of}
use Rattle.operator_desk.specs.declared.line.Line.{Line}
use Rattle.cell_plant.specs.Asked.{Asked, Handed, Ordered}
use Rattle.cell_plant.specs.PlantLogs.{is_ported}
use Rattle.cell_plant.specs.declared.gone.Gone.{Gone}
use Rattle.cell_rounds.specs.Moves as moves
use Rattle.cell_rounds.specs.Moves.{Keeps, Move, OrdersIf, answered, if_kept, terms_of}
use Rattle.cell_rounds.specs.Rest.{are_idle}
use Rattle.cell_rounds.specs.Runs.{Controlled, Halts, IsDue, breaks, fills, lacks, rests, tires, noted, reading, act}
use Rattle.cell_rounds.specs.Stands as stands
use Rattle.cell_rounds.specs.Stands.{Desk, Point, Stand, to}
use Rattle.cell_rounds.specs.Stands.{Between, Noting, Noted, Turning, Serving, Wanted, Answering, Closing, Over}
use Rattle.cell_rounds.specs.declared.progress.Halt.{Halt}
use Rattle.cell_rounds.specs.declared.progress.Halt.TheVariants as halt
use Rattle.cell_runs.specs.Rounds.{ComesToRest, Ended, EndsIn, Operates, Place, Round, Rounds, history}
use Rattle.cell_runs.specs.Rounds.{machines, place, round_steps, start_from, turn_of, turns_of}
use Rattle.cell_runs.specs.Rounds.Operates.{rests as idles, waits as unasked, books as one_booked, fails as one_missed}
use Rattle.cell_runs.specs.Rounds.Rounds.{none as no_round, more as one_more}
use Rattle.cell_runs.proofs.OneRound.{ends, leads_grow, operates_grow, rested}

-- so many rounds were closed before this one, in which the machines but these have taken their turns
pub record InTurns (l : BookLimits) (p : Plan) (from : Place) (n : ℕ) (J : List Entry) (rest : List Machine) (s : Now)
    (D : Desk) : Type 0 where
  pub before : Now
  pub rounds : Rounds l p from n (place before D.lines D.lost)
  pub begun : before.journal ≡ J
  pub done : List Machine
  pub whole : done ++ rest ≡ machines
  pub steps : List Step
  pub failed : ℕ
  pub turned : map turn_of steps ≡ turns_of done
  pub leads : Leads l p before steps 0 failed s

-- and this is where a round led, but for what closes it
pub record AfterAll (l : BookLimits) (p : Plan) (from : Place) (n : ℕ) (J : List Entry) (s : Now)
    (D : Desk) : Type 0 where
  pub before : Place
  pub rounds : Rounds l p from n before
  pub begun : before.now.journal ≡ J
  pub round : Round l p before (place s D.lines D.lost)

-- what holds at a point of a run
abbrev pub At : BookLimits → Plan → Place → Point → ℕ → List Entry → Now → Desk → Type 0
At l p from Between n J s D = Rounds l p from n (place s D.lines D.lost)
At l p from (Noting i) n J s D = InTurns l p from n J machines s D
At l p from (Turning rest) n J s D = InTurns l p from n J rest s D
At l p from (Serving i) n J s D = AfterAll l p from n J s D
At l p from Closing n J s D = AfterAll l p from n J s D
At l p from _ n J s D = ⊥

differ : false ≡ true → ⊥
differ q = cc

unsettled : {A : Type 0} (o : Option A) (x : A) → o ≡ None → o ≡ Some x → ⊥
unsettled None x is was = cc
unsettled (Some y) x is was = cc

-- each of the six is idle where all are
and_true : (a x : Bool) → (a && x) ≡ true → (a ≡ true) × (x ≡ true)
and_true true x is = (refl, is)
and_true false x is = absurd (differ is)

idle_each : (J : List Entry) (p : Plan) (minds : Six Mind) → are_idle J p minds ≡ true → (m : Machine)
    → is_idle J m p (at minds m) ≡ true
idle_each J p minds is m =
    let feed = and_true (is_idle J machine.Feed p minds.feed) _ is in
    let table = and_true (is_idle J machine.Table p minds.table) _ feed.1 in
    let robot = and_true (is_idle J machine.Robot p minds.robot) _ table.1 in
    let press1 = and_true (is_idle J machine.Press1 p minds.press1) _ robot.1 in
    let press2 = and_true (is_idle J machine.Press2 p minds.press2) _ press1.1 in
    elim m as (λ k. is_idle J k p (at minds k) ≡ true) [
      | machine.Feed ↦ feed.0
      | machine.Table ↦ table.0
      | machine.Robot ↦ robot.0
      | machine.Press1 ↦ press1.0
      | machine.Press2 ↦ press2.0
      | machine.Deposit ↦ press2.1
    ]

operates_idle : (l : BookLimits) (p : Plan) (s : Now) (lines : List Line) (lost : Bool)
    → (lost ≡ true) ⊎ (next_of lines (history l s.journal) ≡ None)
    → Operates l p (place s lines lost) (place s lines lost)
operates_idle l p s lines true idle = idles
operates_idle l p s lines false (inl is) = absurd (differ is)
operates_idle l p s lines false (inr none) = unasked none

-- the steps of a round whose machines have had their turns, and those that are left
parted : (steps : List Step) (done rest : List Machine) → map turn_of steps ≡ turns_of done → done ++ rest ≡ machines
    → map turn_of steps ++ (turns_of rest ++ None ∷ []) ≡ round_steps
parted steps done rest turned whole =
    ap (λ (q : List (Option Machine)). q ++ (turns_of rest ++ None ∷ [])) turned
    ∙ sym (append_assoc (turns_of done) (turns_of rest) (None ∷ []))
    ∙ ap (λ (q : List (Option Machine)). q ++ None ∷ []) (sym (map-append (λ (m : Machine). Some m) done rest)
    ∙ ap turns_of whole)

-- one turn more
turned_more : (steps : List Step) (done : List Machine) (m : Machine) (x : Step) → turn_of x ≡ Some m
    → map turn_of steps ≡ turns_of done → map turn_of (steps ++ x ∷ []) ≡ turns_of (done ++ m ∷ [])
turned_more steps done m x is turned =
    map-append turn_of steps (x ∷ []) ∙ ap (λ (q : List (Option Machine)). q ++ turn_of x ∷ []) turned
    ∙ ap (λ (q : Option Machine). turns_of done ++ q ∷ []) is
    ∙ sym (map-append (λ (n : Machine). Some n) done (m ∷ []))

-- the round that comes of it with what the operator does
round_of : (l : BookLimits) (p : Plan) (from : Place) (n : ℕ) (J : List Entry) (s : Now) (D : Desk) (t : Now) (E : Desk)
    → InTurns l p from n J [] s D → Operates l p (place s D.lines D.lost) (place t E.lines E.lost)
    → AfterAll l p from n J t E
round_of l p from n J s D t E here operates = record {
  before = place here.before D.lines D.lost;
  rounds = here.rounds;
  begun = here.begun;
  round = record {
    steps = here.steps;
    failed = here.failed;
    turned = s;
    turns = here.turned ∙ ap turns_of (sym (append-nil here.done) ∙ here.whole);
    leads = here.leads;
    operates = operates;
  };
}

-- a round that booked nothing, after which all are idle
nil_both : (a b : List Entry) → a ++ b ≡ [] → b ≡ []
nil_both [] b is = is
nil_both (x ∷ a) b is = cc

ends_at_rest : (l : BookLimits) (p : Plan) (s : Place) (t : Now) (lines : List Line) (lost : Bool) (e : End)
    → Round l p s (place t lines lost) → t.journal ≡ s.now.journal
    → ((m : Machine) → is_idle t.journal m p (at t.minds m) ≡ true) → (e ≡ end.Finished → IsDone p.plates t.journal)
    → (IsDone p.plates t.journal → e ≡ end.Finished) → (e ≡ end.Finished) ⊎ (e ≡ end.Stalled)
    → EndsIn l p s t.journal e
ends_at_rest l p s t lines lost e r same idle finished stalled either =
    let (a, grew) = leads_grow l p s.now r.turned r.steps 0 r.failed r.leads in
    let (b, more) = operates_grow l p (place r.turned s.lines s.lost) (place t lines lost) r.operates in
    let none = nil_both a b (append_cancel_left s.now.journal (a ++ b) []
    (sym (append_assoc s.now.journal a b) ∙ ap (λ (J : List Entry). J ++ b) (sym grew) ∙ sym more ∙ same
    ∙ sym (append-nil s.now.journal))) in
    let still : t.journal ≡ r.turned.journal =
    more ∙ ap (λ (q : List Entry). r.turned.journal ++ q) none ∙ append-nil r.turned.journal in
    let rest : ComesToRest l p s t.journal = record {
      last = place t lines lost;
      round = r;
      journal = refl;
      unchanged = same;
      idle = idle;
      operator = rested l p (place r.turned s.lines s.lost) (place t lines lost) r.operates still;
    } in
    so rest either
  where
    other : end.Stalled ≡ end.Finished → ⊥
    other q = cc

    so : ComesToRest l p s t.journal → (e ≡ end.Finished) ⊎ (e ≡ end.Stalled) → EndsIn l p s t.journal e
    so rest (inl is) = subst (λ (x : End). EndsIn l p s t.journal x) (sym is) (rest, finished is)
    so rest (inr is) = subst (λ (x : End). EndsIn l p s t.journal x) (sym is)
        (rest, λ d. absurd (other (sym is ∙ stalled d)))

module _ {C K : Type 0} (told : C → C → Asked → Type 0) (keeps : K → K → Entry → Bool → Type 0) (l : BookLimits)
    (p : Plan) (ported : (c c' : C) (a : Asked) → told c c' a → is_ported a ≡ true)
    (kept : (k k' : K) (e : Entry) (b : Bool) → keeps k k' e b → b ≡ true) (from : Place) (waits : Bool) where
  -- a stand of such a run
  abbrev pub Stands : Stand C K → Type 0
  Stands t = (t.pending ≡ None) × At l p from t.place.point t.place.rounds t.place.begun t.now t.desk

  here : (s : Stand C K) (pt : Point) → s.place.point ≡ pt → Stands s
      → At l p from pt s.place.rounds s.place.begun s.now s.desk
  here s pt at st = subst (λ (q : Point). At l p from q s.place.rounds s.place.begun s.now s.desk) at st.1

  -- where the fields of a stand are known
  stands_at : (t : Stand C K) (a : stands.Place) (v : Now) (D : Desk) → t.pending ≡ None → t.place ≡ a → t.now ≡ v
      → t.desk ≡ D → At l p from a.point a.rounds a.begun v D → Stands t
  stands_at t a v D settled place now desk at = (settled, rw (place, now, desk) at)

  kept_is : (o : Option Entry) (b : Bool) (k k' : K) → Keeps keeps o b k k' → b ≡ true
  kept_is None b k k' (same, is) = is
  kept_is (Some e) b k k' keeping = kept k k' e b keeping

  next_is : (b : Bool) (m : Machine) (o : Option Command) (lost : Bool) (point next : Point) (c c' : C) → b ≡ true
      → OrdersIf told b m o lost point next c c' → next ≡ point
  next_is true m None lost point next c c' is (same, not, goes) = goes
  next_is true m (Some x) lost point next c c' is (Ok b, did, loses, goes) = goes
  next_is true m (Some x) lost point next c c' is (Err why, did, loses, goes) =
      absurd (differ (ported c c' (Ordered m x (Err why)) did))
  next_is false m o lost point next c c' is orders = absurd (differ is)

  answered_is : (r : Result Bool Gone) (a : Act) (c c' : C) (point : Point) → told c c' (Handed a r)
      → answered r point ≡ point
  answered_is (Ok b) a c c' point did = refl
  answered_is (Err why) a c c' point did = absurd (differ (ported c c' (Handed a (Err why)) did))

  if_kept_is : (b : Bool) (point : Point) → b ≡ true → if_kept b point ≡ point
  if_kept_is b point is = rw is refl

  stands_move : (s t : Stand C K) → Stands s → Move told keeps (terms_of l p waits) s t → Stands t
  stands_move s t st (moves.begins true at room did is) = subst Stands (sym is) (
    st.0,
    record {
      before = s.now;
      rounds = here s Between at st;
      begun = refl;
      done = [];
      whole = refl;
      steps = [];
      failed = 0;
      turned = refl;
      leads = stays;
    },
  )
  stands_move s t st (moves.begins false at room did is) = absurd (differ (ported _ _ _ did))
  stands_move s t st (moves.hears n None at did is) = subst Stands (sym is) (st.0, here s (Noting n) at st)
  stands_move s t st (moves.hears n (Some x) at did is) = absurd (differ (ported _ _ _ did))
  stands_move s t st (moves.heard at is) = subst Stands (sym is) (st.0, here s (Noting moves.most_heard) at st)
  stands_move s t st (moves.notes n x b at same left on) = absurd (here s (Noted n x) at st)
  stands_move s t st (moves.rejects n x why at refused did is) = absurd (here s (Noted n x) at st)
  stands_move s t st (moves.turns m rest at turn) =
      let was = here s (Turning (m ∷ rest)) at st in
      let on = next_is turn.kept m _ turn.turned.lost (Turning rest) turn.next turn.seen t.cell
      (kept_is _ turn.kept s.keeper t.keeper turn.keeping) turn.orders in
      stands_at t (to s.place (Turning rest)) t.now s.desk (turn.pending ∙ st.0)
      (turn.place ∙ ap (λ (q : Point). to s.place q) on) refl turn.desk (record {
        before = was.before;
        rounds = was.rounds;
        begun = was.begun;
        done = was.done ++ m ∷ [];
        whole = append_assoc was.done (m ∷ []) rest ∙ was.whole;
        steps = was.steps ++ Turn m turn.reading ∷ [];
        failed = was.failed;
        turned = turned_more was.steps was.done m (Turn m turn.reading) refl was.turned;
        leads = one_turn m turn.reading was.leads turn.turned;
      })
  stands_move s t st (moves.looks m rest last r at was own did is) = absurd (unsettled s.pending last st.0 was)
  stands_move s t st (moves.finds m rest last r at was own did is) = absurd (unsettled s.pending last st.0 was)
  stands_move s t st (moves.repeats m rest last r seen at was own did sent) =
      absurd (unsettled s.pending last st.0 was)
  stands_move s t st (moves.rests at idle is) = subst Stands (sym is) (
    st.0,
    round_of l p from s.place.rounds s.place.begun s.now s.desk s.now s.desk (here s (Turning []) at st)
        (operates_idle l p s.now s.desk.lines s.desk.lost idle),
  )
  stands_move s t st (moves.does a b at able next did left on) =
      let e = entry_of a in
      let v = now (s.now.journal ++ e ∷ []) s.now.minds in
      stands_at t (to s.place (Serving 0)) v (stands.desk (left_after s.desk.lines) false) (b.pending ∙ st.0)
      (on ∙ ap (λ (q : Point). to s.place q) (if_kept_is b.kept (Serving 0) (kept s.keeper t.keeper e b.kept
      b.keeping)))
      b.now left
      (round_of l p from s.place.rounds s.place.begun s.now s.desk v (stands.desk (left_after s.desk.lines) false)
      (here s (Turning []) at st)
      (subst (λ (x : Bool). Operates l p (place s.now s.desk.lines x) (place v (left_after s.desk.lines) false))
      (sym able) (one_booked a next (one_hand e stays b.his) refl)))
  stands_move s t st (moves.fails a tries at able next left on) =
      let e = entry_of a in
      stands_at t (to s.place (Serving 0)) s.now (stands.desk s.desk.lines true) (tries.pending ∙ st.0)
      (on ∙ ap (λ (q : Point). to s.place q)
      (answered_is tries.answer tries.act s.cell t.cell (Serving 0) tries.hands)) tries.now left
      (round_of l p from s.place.rounds s.place.begun s.now s.desk s.now (stands.desk s.desk.lines true)
      (here s (Turning []) at st)
      (subst (λ (x : Bool). Operates l p (place s.now s.desk.lines x) (place s.now s.desk.lines true)) (sym able)
      (one_missed a next (one_failed e stays tries.his (ap is_some tries.wanted)) refl)))
  stands_move s t st (moves.asks n None at did is) = subst Stands (sym is) (st.0, here s (Serving n) at st)
  stands_move s t st (moves.asks n (Some wish) at did is) = absurd (differ (ported _ _ _ did))
  stands_move s t st (moves.asked at is) = subst Stands (sym is) (st.0, here s (Serving moves.most_heard) at st)
  stands_move s t st (moves.denies n wish reply at denied is) = absurd (here s (Wanted n wish) at st)
  stands_move s t st (moves.grants n x b at did left on) = absurd (here s (Wanted n _) at st)
  stands_move s t st (moves.misses n x tries at left on) = absurd (here s (Wanted n _) at st)
  stands_move s t st (moves.replies n reply ok at did is) = absurd (here s (Answering n reply) at st)
  stands_move s t st (moves.closes true at on did is) =
      let was = here s Closing at st in
      subst Stands (sym is) (st.0, one_more was.rounds was.round)
  stands_move s t st (moves.closes false at on did is) = absurd (differ (ported _ _ _ did))

  stands_leads : (s t : Stand C K) → Stands s → moves.Leads told keeps (terms_of l p waits) s t → Stands t
  stands_leads s _ st moves.stays = st
  stands_leads s t st (moves.goes {t = mid} before move) = stands_move mid t (stands_leads s mid st before) move

  -- an end within the turns of a round
  broken : (n : ℕ) (J : List Entry) (rest : List Machine) (s : Now) (D : Desk) → InTurns l p from n J rest s D
      → Ended l p from s.journal end.Memory
  broken n J rest s D was = record {
    rounds = n;
    last = place was.before D.lines D.lost;
    led = was.rounds;
    ends = (
      0,
      record {
        steps = was.steps;
        left = turns_of rest ++ None ∷ [];
        failed = was.failed;
        minds = s.minds;
        first = parted was.steps was.done rest was.turned was.whole;
        leads = was.leads;
      },
    );
  }

  -- where an entry of his is due the machines have taken their turns
  due : (t : Stand C K) (pt : Point) (e : Entry) → IsDue l t pt e
      → At l p from pt t.place.rounds t.place.begun t.now t.desk → Ended l p from t.now.journal end.Memory
  due t (Turning []) e is at = broken t.place.rounds t.place.begun [] t.now t.desk at
  due t (Turning (m ∷ ms)) e is at = absurd is
  due t (Wanted n w) e is at = absurd at
  due t Between e is at = absurd is
  due t (Noting n) e is at = absurd is
  due t (Noted n x) e is at = absurd is
  due t (Serving n) e is at = absurd is
  due t (Answering n r) e is at = absurd is
  due t Closing e is at = absurd is
  due t (Over h) e is at = absurd is

  -- so it ends as a run in rounds does
  pub ended_of : (s : Stand C K) (h : Halt) (c : C) (k : K) (J : List Entry) → Stands s
      → Halts told keeps (terms_of l p waits) s h c k J → (e : End) × (h ≡ halt.End e) × Ended l p from J e
  ended_of s h c k J st (breaks t leads over has) = absurd (here t (Over h) over (stands_leads s t st leads))
  ended_of s h c k J st (lacks t leads is (noted n x at same) has) =
      absurd (here t (Noted n x) at (stands_leads s t st leads))
  ended_of s h c k J st (lacks t leads is (reading m rest r at did) has) = (
    end.Memory,
    is,
    subst (λ (q : List Entry). Ended l p from q end.Memory) has.2
        (broken t.place.rounds t.place.begun (m ∷ rest) t.now t.desk
        (here t (Turning (m ∷ rest)) at (stands_leads s t st leads))),
  )
  ended_of s h c k J st (lacks t leads is (act e is_due his did) has) = (
    end.Memory,
    is,
    subst (λ (q : List Entry). Ended l p from q end.Memory) has.2
        (due t t.place.point e is_due (stands_leads s t st leads).1),
  )
  ended_of s h c k J st (fills t leads is away has) =
      let m = away.machine in
      let was = here t (Turning (m ∷ away.rest)) away.point (stands_leads s t st leads) in (
        end.Full,
        is,
        subst (λ (q : List Entry). Ended l p from q end.Full) has.2 (record {
          rounds = t.place.rounds;
          last = place was.before t.desk.lines t.desk.lost;
          led = was.rounds;
          ends = (
            1,
            omega arith,
            record {
              steps = was.steps ++ Turn m away.reading ∷ [];
              left = turns_of away.rest ++ None ∷ [];
              failed = was.failed;
              minds = t.now.minds;
              first = parted (was.steps ++ Turn m away.reading ∷ []) (was.done ++ m ∷ []) away.rest
                  (turned_more was.steps was.done m (Turn m away.reading) refl was.turned)
                  (append_assoc was.done (m ∷ []) away.rest ∙ was.whole);
              leads = one_refused m away.reading away.why was.leads away.refused;
            },
          );
        }),
      )
  ended_of s h c k J st (rests t e leads is at_rest has) =
      let was = here t Closing at_rest.point (stands_leads s t st leads) in (
        e,
        is,
        subst (λ (q : List Entry). Ended l p from q e) has.2 (record {
          rounds = t.place.rounds;
          last = was.before;
          led = was.rounds;
          ends = ends l p t.place.rounds was.before t.now.journal e
              (ends_at_rest l p was.before t.now t.desk.lines t.desk.lost e was.round
              (at_rest.unchanged ∙ sym was.begun)
              (idle_each t.now.journal p t.now.minds at_rest.rest.idle) at_rest.rest.finished at_rest.rest.stalled
              (either at_rest.rest.either));
        }),
      )
    where
      either : (e ≡ end.Finished) ⊎ ((e ≡ end.Stalled) × (waits ≡ false)) → (e ≡ end.Finished) ⊎ (e ≡ end.Stalled)
      either (inl done) = inl done
      either (inr stalled) = inr stalled.0
  ended_of s h c k J st (tires t leads is at all has) = (
    end.TurnLimit,
    is,
    subst (λ (q : List Entry). Ended l p from q end.TurnLimit) has.2 (record {
      rounds = t.place.rounds;
      last = place t.now t.desk.lines t.desk.lost;
      led = here t Between at (stands_leads s t st leads);
      ends = (all, refl);
    }),
  )

-- a run over ports and hands, none of whose entries is kept, is one in rounds from its book's journal on
pub run_from : {C K : Type 0} (told : C → C → Asked → Type 0) (keeps : K → K → Entry → Bool → Type 0) (l : BookLimits)
    (p : Plan) (waits : Bool) (h : Halt) (c c' : C) (k k' : K) (B J : List Entry) (lines : List Line)
    → ((a b : C) (x : Asked) → told a b x → is_ported x ≡ true)
    → ((a b : K) (e : Entry) (ok : Bool) → keeps a b e ok → ok ≡ true)
    → Controlled told keeps (terms_of l p waits) h c k B lines None c' k' J
    → (e : End) × (h ≡ halt.End e) × Ended l p (start_from B lines) J e
run_from told keeps l p waits h c c' k k' B J lines ported kept run =
    ended_of told keeps l p ported kept (start_from B lines) waits (stands.start c k B lines None) h c' k' J
    (refl, no_round) run
