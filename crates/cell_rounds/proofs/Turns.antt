-- What a machine's part of a round did
use Rattle.std.proofs.Common.{◌≡◌, ◌∷◌, List, Bool, true, false, refl, sym, ap, subst, ◌∙◌, inl, inr, Option}
use Rattle.std.specs.Prelude.{Some, None, Result, Ok, Err, IfErr, is_some}
use Rattle.std.specs.Option.{option_and_then}
use Rattle.cell_types.specs.Entries.{command_of}
use Rattle.cell_types.specs.declared.words.Command.{Command}
use Rattle.cell_types.specs.declared.words.Entry.{Entry}
use Rattle.cell_types.specs.declared.words.Machine.{Machine}
use Rattle.cell_rules.specs.declared.limits.BookLimits.{BookLimits}
use Rattle.cell_rules.specs.declared.refusal.Refusal.{Refusal}
use Rattle.cell_diagnosis.specs.declared.reading.Reading.{Reading}
use Rattle.cell_ports.specs.declared.plan.Plan.{Plan}
use Rattle.cell_turns.specs.Minds.{FitsMind, Mind}
use Rattle.cell_turns.specs.Schedules.{FitAll, mind_sent}
use Rattle.cell_turns.specs.Six.{at, put}
use Rattle.cell_turns.specs.Turns.{IsExcused, IsTurnedAway, mind_after}
use Rattle.cell_turns.specs.declared.turns.TurnError.{TurnError}
use Rattle.cell_turns.specs.declared.turns.TurnError.TheVariants.{Refused}
use Rattle.cell_turns.specs.declared.six.Six.{Six}
use Rattle.cell_turns.specs.declared.watch.Watch.{Watch}
use Rattle.cell_turns.proofs.Sixes.{put_at}
use Rattle.cell_plant.specs.Asked.{Asked, Shown}
use Rattle.cell_plant.specs.declared.gone.Gone.{Gone}
use Rattle.cell_rounds.specs.Calls.{Resends, Sent, Settles, TurnHalts, Turned, again, gone as unreached, gone_by}
use Rattle.cell_rounds.specs.Calls.{halted}
use Rattle.cell_rounds.specs.Calls.{finds as settles_finds, looks as settles_looks, passes, sends as settles_sends}
use Rattle.cell_rounds.specs.Moves.{Keeps, OrdersIf, finds, is_lost, looks, loses, repeats, sends}
use Rattle.cell_rounds.specs.Moves.{stays, turns}
use Rattle.cell_rounds.specs.Runs.{Goes, fills, lacks, reading}
use Rattle.cell_rounds.specs.Stands.{Desk, Over, Point, State, Turning, place, stand}
use Rattle.cell_rounds.specs.declared.progress.Halt.{Halt}
use Rattle.cell_rounds.specs.declared.progress.Halt.TheVariants as halt
use Rattle.cell_rounds.specs.declared.settle.LastCommand.{LastCommand}
use Rattle.cell_rounds.proofs.Moving.{at_put, goes_move, goes_nothing, goes_over, put_put}

pub lost_of : (r : Result Bool Gone) (b : Bool) → r ≡ Ok b → b ≡ false → is_lost r ≡ true
lost_of r b is lost = rw (is, lost) refl

pub kept_of : (r : Result Bool Gone) (b : Bool) → r ≡ Ok b → b ≡ true → is_lost r ≡ false
kept_of r b is kept = rw (is, kept) refl

pub reached_of : (r : Result Bool Gone) (b : Bool) → r ≡ Ok b → gone_by r ≡ None
reached_of r b is = rw is refl

-- the watches are as they were, where a command was carried out
pub fits_kept : (r : Result Bool Gone) (ws : Six Watch) (m : Machine) → is_lost r ≡ false → (minds : Six Mind)
    → FitAll ws minds → FitAll ws (put minds m (mind_sent (is_lost r) (at minds m)))
fits_kept r ws m kept minds fits = rw kept (subst (λ (s : Six Mind). FitAll ws s) (sym (put_at minds m)) fits)

-- and where the cell was gone
pub fits_gone : (r : Result Bool Gone) (why : Gone) (ws : Six Watch) (m : Machine) → r ≡ Err why → (minds : Six Mind)
    → FitAll ws minds → FitAll ws (put minds m (mind_sent (is_lost r) (at minds m)))
fits_gone r why ws m is minds fits = rw is (subst (λ (s : Six Mind). FitAll ws s) (sym (put_at minds m)) fits)

-- why a turn was refused, for all that its watch may stand for
pub away_by : (l : BookLimits) (J : List Entry) (m : Machine) (p : Plan) (r : Option Reading) (w : Watch)
    (booked : Result (Option Entry) TurnError) (e : TurnError) (why : Refusal)
    → IfErr booked (λ x. IsExcused l J m p r w x) → booked ≡ Err e → e ≡ Refused why → (s : Mind) → FitsMind w s
    → IsTurnedAway l J m p s r why
away_by l J m p r w booked e why excused is same s fits =
    let so : IsExcused l J m p r w (Refused why) =
    subst (λ (x : TurnError). IsExcused l J m p r w x) same
    (subst (λ (x : Result (Option Entry) TurnError). IfErr x (λ y. IsExcused l J m p r w y)) is excused) in
    so.0 s fits

-- a command was sent again, and the call halted so
pub resent_as : {C : Type 0} (told : C → C → Asked → Type 0) (last : LastCommand) (h h' : Option Halt) (c c' : C)
    (ws ws' : Six Watch) → h ≡ h' → Resends told last h c c' ws ws' → Resends told last h' c c' ws ws'
resent_as told last h h' c c' ws ws' is sent = subst (λ (o : Option Halt). Resends told last o c c' ws ws') is sent

-- where the command that may not have gone out leaves a machine's part
abbrev pub settled : Result Bool Halt → Machine → List Machine → Point
settled (Ok true) m rest = Turning (m ∷ rest)
settled (Ok false) m rest = Turning rest
settled (Err h) m rest = Over h

module _ {C K : Type 0} (told : C → C → Asked → Type 0) (keeps : K → K → Entry → Bool → Type 0) (l : BookLimits)
    (p : Plan) where
  -- a turn whose entry, if there is one, was kept, and whose command led to this point
  turn_goes : (m : Machine) (rest : List Machine) (r : Option Reading) (booked : Option Entry) (kept lost : Bool)
      (next : Point) (x y : State C K) (seen : C) (ws : Six Watch) → told x.cell seen (Shown m r)
      → Turned l p m r booked x.journal x.watches y.journal ws → Keeps keeps booked kept x.keeper y.keeper
      → OrdersIf told kept m (option_and_then command_of booked) lost (Turning rest) next seen y.cell
      → (lost ≡ true → is_some (option_and_then command_of booked) ≡ true) → y.pending ≡ x.pending → y.desk ≡ x.desk
      → ((minds : Six Mind) → FitAll ws minds → FitAll y.watches (put minds m (mind_sent lost (at minds m))))
      → Goes told keeps l p None (Turning (m ∷ rest)) next x y
  turn_goes m rest r booked kept lost next x y seen ws shown turned keeping orders commanded pending desk fit =
      goes_move told keeps l p (Turning (m ∷ rest)) next x y (λ waits n J minds fits.
      let did = turned minds fits in
      let after = mind_after x.journal m p (at minds m) r booked in
      let between = put minds m after in
      let minds' = put between m (mind_sent lost (at between m)) in
      let same : minds' ≡ put minds m (mind_sent lost after) = put_put minds m after (mind_sent lost (at between m))
      ∙ ap (λ (s : Mind). put minds m (mind_sent lost s)) (at_put minds m after) in (
        minds',
        fit between did.3,
        turns m rest refl (record {
          reading = r;
          seen = seen;
          shown = shown;
          turned = record {
            booked = booked;
            lost = lost;
            decided = did.0;
            allowed = did.1;
            commanded = commanded;
            journal = did.2;
            minds = same;
          };
          kept = kept;
          keeping = keeping;
          next = next;
          orders = orders;
          pending = pending;
          desk = desk;
          place = refl;
        }),
      ))

  -- no command was lost, so that the watches are as they were
  unlost : (ws : Six Watch) (m : Machine) (minds : Six Mind) → FitAll ws minds
      → FitAll ws (put minds m (mind_sent false (at minds m)))
  unlost ws m minds fits = subst (λ (s : Six Mind). FitAll ws s) (sym (put_at minds m)) fits

  -- a turn that books nothing
  pub goes_idly : (m : Machine) (rest : List Machine) (r : Option Reading) (x : State C K) (seen : C) (J : List Entry)
      (ws : Six Watch) → told x.cell seen (Shown m r) → Turned l p m r None x.journal x.watches J ws
      → Goes told keeps l p None (Turning (m ∷ rest)) (Turning rest) x
      (record x { cell = seen; journal = J; watches = ws })
  goes_idly m rest r x seen J ws shown turned =
      turn_goes m rest r None true false (Turning rest) x (record x { cell = seen; journal = J; watches = ws }) seen ws
      shown turned (refl, refl) (refl, refl, refl) (λ lost. cc) refl refl (unlost ws m)

  -- one whose entry couldn't be kept: no command is sent
  pub goes_unkept : (m : Machine) (rest : List Machine) (r : Option Reading) (e : Entry) (g : Point) (x : State C K)
      (seen : C) (k : K) (J : List Entry) (ws : Six Watch) → told x.cell seen (Shown m r)
      → Turned l p m r (Some e) x.journal x.watches J ws → keeps x.keeper k e false
      → Goes told keeps l p (Some halt.Unkept) (Turning (m ∷ rest)) g x
      (record x { cell = seen; keeper = k; journal = J; watches = ws })
  goes_unkept m rest r e g x seen k J ws shown turned kept =
      let y = record x { cell = seen; keeper = k; journal = J; watches = ws } in
      goes_over told keeps l p halt.Unkept (Turning (m ∷ rest)) g x y
      (turn_goes m rest r (Some e) false false (Over halt.Unkept) x y seen ws shown turned kept (refl, refl, refl)
      (λ lost. cc) refl refl (unlost ws m))

  -- one whose command was sent, if it has one
  pub goes_turn : (m : Machine) (rest : List Machine) (r : Option Reading) (e : Entry) (o : Option Command)
      (h : Option Halt)
      (x : State C K) (seen c : C) (k : K) (J : List Entry) (ws ws' : Six Watch) → told x.cell seen (Shown m r)
      → Turned l p m r (Some e) x.journal x.watches J ws → keeps x.keeper k e true → command_of e ≡ o
      → Sent told m o h seen c ws ws'
      → Goes told keeps l p h (Turning (m ∷ rest)) (Turning rest) x
      (record x { cell = c; keeper = k; journal = J; watches = ws' })
  goes_turn m rest r e None h x seen c k J ws ws' shown turned kept is (on, same, unchanged) =
      rw (on, same, unchanged)
      (turn_goes m rest r (Some e) true false (Turning rest) x
      (record x { cell = seen; keeper = k; journal = J; watches = ws }) seen ws shown turned kept
      (rw is (refl, refl, refl)) (λ lost. cc) refl refl (unlost ws m))
  goes_turn m rest r e (Some y) h x seen c k J ws ws' shown turned kept is (Ok b, did, on, fit) = rw on
      (turn_goes m rest r (Some e) true (is_lost (Ok b)) (Turning rest) x
      (record x { cell = c; keeper = k; journal = J; watches = ws' }) seen ws shown turned kept
      (rw is (Ok b, did, refl, refl)) (λ lost. rw is refl) refl refl fit)
  goes_turn m rest r e (Some y) h x seen c k J ws ws' shown turned kept is (Err why, did, on, fit) = rw on
      (goes_over told keeps l p halt.Gone (Turning (m ∷ rest)) (Turning rest) x
      (record x { cell = c; keeper = k; journal = J; watches = ws' })
      (turn_goes m rest r (Some e) true false (Over halt.Gone) x
      (record x { cell = c; keeper = k; journal = J; watches = ws' }) seen ws shown turned kept
      (rw is (Err why, did, refl, refl)) (λ lost. cc) refl refl fit))

  -- one that halts the run
  pub goes_away : (m : Machine) (rest : List Machine) (r : Option Reading) (h : Halt) (g : Point) (x : State C K)
      (seen : C) → told x.cell seen (Shown m r) → TurnHalts l p m r x.journal x.watches h
      → Goes told keeps l p (Some h) (Turning (m ∷ rest)) g x (record x { cell = seen })
  goes_away m rest r h g x seen shown (inl memory) = λ waits n J minds fits.
      lacks (stand x minds (place n J (Turning (m ∷ rest)))) stays memory (reading m rest r refl shown)
      (refl, refl, refl)
  goes_away m rest r h g x seen shown (inr (full, away)) = λ waits n J minds fits.
      fills (stand x minds (place n J (Turning (m ∷ rest)))) stays full (record {
        machine = m;
        rest = rest;
        point = refl;
        reading = r;
        shown = shown;
        why = (away minds fits).0;
        refused = (away minds fits).1;
      }) (refl, refl, refl)

  -- it was sent again
  resent : (m : Machine) (rest : List Machine) (r : Option Reading) (last : LastCommand) (h : Option Halt)
      (x : State C K) (seen c : C) (ws : Six Watch) → x.pending ≡ Some last → last.machine ≡ m
      → told x.cell seen (Shown m r) → Resends told last h seen c x.watches ws
      → Goes told keeps l p h (Turning (m ∷ rest)) (Turning (m ∷ rest)) x
      (record x { cell = c; watches = ws; pending = None })
  resent m rest r last h x seen c ws was own shown (again stopped (Ok b) stop did on fit) = rw on
      (goes_move told keeps l p (Turning (m ∷ rest)) (Turning (m ∷ rest)) x
      (record x { cell = c; watches = ws; pending = None }) (λ waits n J minds fits. (
        put minds last.machine (mind_sent (is_lost (Ok b)) (at minds last.machine)),
        fit minds fits,
        repeats m rest last r seen refl was own shown (sends stopped (Ok b) stop did refl),
      )))
  resent m rest r last h x seen c ws was own shown (again stopped (Err why) stop did on fit) = rw on
      (goes_over told keeps l p halt.Gone (Turning (m ∷ rest)) (Turning (m ∷ rest)) x
      (record x { cell = c; watches = ws; pending = None })
      (goes_move told keeps l p (Turning (m ∷ rest)) (Over halt.Gone) x
      (record x { cell = c; watches = ws; pending = None }) (λ waits n J minds fits. (
        put minds last.machine (mind_sent false (at minds last.machine)),
        fit minds fits,
        repeats m rest last r seen refl was own shown (sends stopped (Err why) stop did refl),
      ))))
  resent m rest r last h x seen c ws was own shown (unreached stop on same) = rw on
      (goes_over told keeps l p halt.Gone (Turning (m ∷ rest)) (Turning (m ∷ rest)) x
      (record x { cell = c; pending = None })
      (goes_move told keeps l p (Turning (m ∷ rest)) (Over halt.Gone) x (record x { cell = c; pending = None })
      (λ waits n J minds fits. (
        minds,
        fits,
        repeats m rest last r seen refl was own shown (loses stop refl),
      ))))

  -- a command that may not have gone out is looked for, or sent again
  pub goes_settled : (m : Machine) (rest : List Machine) (answer : Result Bool Halt) (c c' : C) (k : K) (J : List Entry)
      (ws ws' : Six Watch) (o o' : Option LastCommand) (D : Desk) → Settles told m answer o c c' ws ws' o'
      → Goes told keeps l p (halted answer) (Turning (m ∷ rest)) (settled answer m rest)
      (record { cell = c; keeper = k; journal = J; watches = ws; pending = o; desk = D })
      (record { cell = c'; keeper = k; journal = J; watches = ws'; pending = o'; desk = D })
  goes_settled m rest answer c _ k J ws _ o _ D (passes is) = rw is
      (goes_nothing told keeps l p (Turning (m ∷ rest))
      (record { cell = c; keeper = k; journal = J; watches = ws; pending = o; desk = D }))
  goes_settled m rest answer c c' k J ws _ _ _ D (settles_looks {last} r is own shown) = rw is
      (goes_move told keeps l p (Turning (m ∷ rest)) (Turning rest)
      (record { cell = c; keeper = k; journal = J; watches = ws; pending = Some last; desk = D })
      (record { cell = c'; keeper = k; journal = J; watches = ws; pending = Some last; desk = D })
      (λ waits n J' minds fits. (minds, fits, looks m rest last r refl refl own shown refl)))
  goes_settled m rest answer c c' k J ws _ _ _ D (settles_finds {last} r is own shown) = rw is
      (goes_move told keeps l p (Turning (m ∷ rest)) (Turning (m ∷ rest))
      (record { cell = c; keeper = k; journal = J; watches = ws; pending = Some last; desk = D })
      (record { cell = c'; keeper = k; journal = J; watches = ws; pending = None; desk = D })
      (λ waits n J' minds fits. (minds, fits, finds m rest last r refl refl own shown refl)))
  goes_settled m rest (Ok true) c c' k J ws ws' _ _ D (settles_sends {last} {seen} r not own shown sent) =
      resent m rest r last None (record {
        cell = c;
        keeper = k;
        journal = J;
        watches = ws;
        pending = Some last;
        desk = D;
      })
      seen c' ws' refl own shown sent
  goes_settled m rest (Ok false) c c' k J ws ws' _ _ D (settles_sends {last} {seen} r not own shown sent) =
      absurd (not refl)
  goes_settled m rest (Err h) c c' k J ws ws' _ _ D (settles_sends {last} {seen} r not own shown sent) =
      resent m rest r last (Some h) (record {
        cell = c;
        keeper = k;
        journal = J;
        watches = ws;
        pending = Some last;
        desk = D;
      }) seen c' ws' refl own shown sent
