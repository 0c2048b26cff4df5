-- A run of a cell is a run of what is seen of it
use Rattle.std.proofs.Common.{◌≡◌, ◌∷◌, [], List, Bool, true, false, ap, inl, inr, subst, sym, Option}
use Rattle.std.specs.Prelude.{Some, None}
use Rattle.cell_types.specs.declared.words.Command.{Command}
use Rattle.cell_types.specs.declared.words.Entry.{Entry}
use Rattle.cell_types.specs.declared.words.Machine.{Machine}
use Rattle.cell_rules.specs.declared.limits.BookLimits.{BookLimits}
use Rattle.cell_ports.specs.declared.port.Act.{Act}
use Rattle.operator_desk.specs.declared.line.Line.{Line}
use Rattle.cell_workers.specs.declared.ends.End.{End}
use Rattle.cell_plant.specs.Asked.{Asked}
use Rattle.cell_plant.specs.declared.desk.Wish.TheVariants as wish
use Rattle.cell_rounds.specs.Moves.{Books, Fails, Hands, Leads, Move, Orders, OrdersIf, Repeats, Stops, Terms, Turn}
use Rattle.cell_rounds.specs.Moves.{asked, asks, begins, closes, denies, does, fails, finds, goes, grants, heard, hears}
use Rattle.cell_rounds.specs.Moves.{looks, loses, misses, moved, notes, rejects, repeats, replies, rests as idles}
use Rattle.cell_rounds.specs.Moves.{sends}
use Rattle.cell_rounds.specs.Moves.{stays}
use Rattle.cell_rounds.specs.Moves.{turns}
use Rattle.cell_rounds.specs.Pauses.{IsPaused, Paused, state_at}
use Rattle.cell_rounds.specs.Runs.{Controlled, Halts, Has, IsDue, Rests, TurnsAway, Unbooked, act, breaks, fills, lacks}
use Rattle.cell_rounds.specs.Runs.{noted, reading, rests, tires}
use Rattle.cell_rounds.specs.Stands.{Answering, Between, Closing, Noted, Noting, Over, Point, Serving, Stand, Turning}
use Rattle.cell_rounds.specs.Stands.{Wanted, place, stand, start}
use Rattle.cell_rounds.specs.declared.progress.Halt.{Halt}
use Rattle.cell_rounds.specs.declared.settle.LastCommand.{LastCommand}

-- Of a cell something holds that holds of each cell before it too; where it holds, what the cell was asked is seen
module _ {C D K : Type 0} (f : C → D) (told : C → C → Asked → Type 0) (seen : D → D → Asked → Type 0)
    (keeps : K → K → Entry → Bool → Type 0) (T : Terms) (R : C → Type 0)
    (back : (c c' : C) (a : Asked) → told c c' a → R c' → R c)
    (same : (c c' : C) (a : Asked) → told c c' a → R c' → seen (f c) (f c') a) where
  -- a stand, with what is seen of its cell
  abbrev pub map_stand : Stand C K → Stand D K
  map_stand s = record {
    cell = f s.cell;
    keeper = s.keeper;
    now = s.now;
    pending = s.pending;
    desk = s.desk;
    place = s.place;
  }

  orders_map : (m : Machine) (x : Option Command) (lost : Bool) (point next : Point) (c c' : C)
      → Orders told m x lost point next c c' → R c' → R c × Orders seen m x lost point next (f c) (f c')
  orders_map m None lost point next c c' (is, not, so) holds = (subst R is holds, (ap f is, not, so))
  orders_map m (Some x) lost point next c c' (r, did, is, so) holds =
      (back c c' _ did holds, (r, same c c' _ did holds, is, so))

  orders_if_map : (kept : Bool) (m : Machine) (x : Option Command) (lost : Bool) (point next : Point) (c c' : C)
      → OrdersIf told kept m x lost point next c c' → R c'
      → R c × OrdersIf seen kept m x lost point next (f c) (f c')
  orders_if_map true m x lost point next c c' did holds = orders_map m x lost point next c c' did holds
  orders_if_map false m x lost point next c c' (is, not, so) holds = (subst R is holds, (ap f is, not, so))

  turn_map : (m : Machine) (rest : List Machine) (s t : Stand C K) → Turn told keeps T m rest s t → R t.cell
      → R s.cell × Turn seen keeps T m rest (map_stand s) (map_stand t)
  turn_map m rest s t turn holds =
      let ordered = orders_if_map turn.kept m _ turn.turned.lost (Turning rest) turn.next turn.seen t.cell turn.orders
      holds in (
        back s.cell turn.seen _ turn.shown ordered.0,
        record {
          reading = turn.reading;
          seen = f turn.seen;
          shown = same s.cell turn.seen _ turn.shown ordered.0;
          turned = turn.turned;
          kept = turn.kept;
          keeping = turn.keeping;
          next = turn.next;
          orders = ordered.1;
          pending = turn.pending;
          desk = turn.desk;
          place = turn.place;
        },
      )

  hands_map : (a : Option Act) (c c' : C) → Hands told a c c' → R c' → R c × Hands seen a (f c) (f c')
  hands_map None c c' is holds = (subst R is holds, ap f is)
  hands_map (Some a) c c' did holds = (back c c' _ did holds, same c c' _ did holds)

  abbrev books_map : (l : BookLimits) (e : Entry) (s t : Stand C K) → Books keeps l e s t
      → Books keeps l e (map_stand s) (map_stand t)
  books_map l e s t books = record {
    his = books.his;
    now = books.now;
    kept = books.kept;
    keeping = books.keeping;
    pending = books.pending;
  }

  abbrev fails_map : (l : BookLimits) (e : Entry) (s t : Stand C K) → Fails told l e s t → R t.cell
      → Fails seen l e (map_stand s) (map_stand t)
  fails_map l e s t tries holds = record {
    his = tries.his;
    act = tries.act;
    wanted = tries.wanted;
    answer = tries.answer;
    not_done = tries.not_done;
    hands = same s.cell t.cell _ tries.hands holds;
    now = tries.now;
    keeper = tries.keeper;
    pending = tries.pending;
  }

  stops_map : (m : Machine) (reached : Bool) (c c' : C) → Stops told m reached c c' → R c'
      → R c × Stops seen m reached (f c) (f c')
  stops_map m reached c c' (inl (is, so)) holds = (subst R is holds, inl (ap f is, so))
  stops_map m reached c c' (inr (r, did, so)) holds = (back c c' _ did holds, inr (r, same c c' _ did holds, so))

  repeats_map : (last : LastCommand) (s t : Stand C K) → Repeats told last s t → R t.cell
      → R s.cell × Repeats seen last (map_stand s) (map_stand t)
  repeats_map last s t (sends stopped r stops did is) holds =
      let before = stops_map last.machine true s.cell stopped stops (back stopped t.cell _ did holds) in
      (before.0, sends (f stopped) r before.1 (same stopped t.cell _ did holds) (ap map_stand is))
  repeats_map last s t (loses stops is) holds =
      let before = stops_map last.machine false s.cell t.cell stops holds in
      (before.0, loses before.1 (ap map_stand is))

  -- a move that leaves the cell as it is
  stayed : (s t : Stand C K) (point : Point) → t ≡ moved s s.cell point → R t.cell → R s.cell
  stayed s t point is holds = subst R (ap (λ (u : Stand C K). u.cell) is) holds

  move_map : (s t : Stand C K) → Move told keeps T s t → R t.cell
      → R s.cell × Move seen keeps T (map_stand s) (map_stand t)
  move_map s t (begins ok at room did is) h =
      (back s.cell t.cell _ did h, begins ok at room (same s.cell t.cell _ did h) (ap map_stand is))
  move_map s t (hears n done at did is) h =
      (back s.cell t.cell _ did h, hears n done at (same s.cell t.cell _ did h) (ap map_stand is))
  move_map s t (heard at is) h = (stayed s t _ is h, heard at (ap map_stand is))
  move_map s t (notes n done books at is desk next) h =
      (subst R is h, notes n done (books_map T.limits _ s t books) at (ap f is) desk next)
  move_map s t (rejects n done why at refused did is) h =
      (back s.cell t.cell _ did h, rejects n done why at refused (same s.cell t.cell _ did h) (ap map_stand is))
  move_map s t (turns m rest at turn) h =
      let turned = turn_map m rest s t turn h in (turned.0, turns m rest at turned.1)
  move_map s t (looks m rest last r at open_yet his did is) h =
      (back s.cell t.cell _ did h, looks m rest last r at open_yet his (same s.cell t.cell _ did h) (ap map_stand is))
  move_map s t (finds m rest last r at open_yet his did is) h =
      (back s.cell t.cell _ did h, finds m rest last r at open_yet his (same s.cell t.cell _ did h) (ap map_stand is))
  move_map s t (repeats m rest last r looked at open_yet his did sent) h =
      let again = repeats_map last (record s { cell = looked }) t sent h in (
        back s.cell looked _ did again.0,
        repeats m rest last r (f looked) at open_yet his (same s.cell looked _ did again.0) again.1,
      )
  move_map s t (idles at none is) h = (stayed s t _ is h, idles at none (ap map_stand is))
  move_map s t (does a books at free next hands desk point) h =
      let handed = hands_map _ s.cell t.cell hands h in
      (handed.0, does a (books_map T.limits _ s t books) at free next handed.1 desk point)
  move_map s t (fails a tries at free next desk point) h =
      (back s.cell t.cell _ tries.hands h, fails a (fails_map T.limits _ s t tries h) at free next desk point)
  move_map s t (asks n wanted at did is) h =
      (back s.cell t.cell _ did h, asks n wanted at (same s.cell t.cell _ did h) (ap map_stand is))
  move_map s t (asked at is) h = (stayed s t _ is h, asked at (ap map_stand is))
  move_map s t (denies n wanted reply at denied is) h =
      (stayed s t _ is h, denies n wanted reply at denied (ap map_stand is))
  move_map s t (grants n done books at hands desk point) h =
      let handed = hands_map _ s.cell t.cell hands h in
      (handed.0, grants n done (books_map T.limits _ s t books) at handed.1 desk point)
  move_map s t (misses n done tries at desk point) h =
      (back s.cell t.cell _ tries.hands h, misses n done (fails_map T.limits _ s t tries h) at desk point)
  move_map s t (replies n reply ok at did is) h =
      (back s.cell t.cell _ did h, replies n reply ok at (same s.cell t.cell _ did h) (ap map_stand is))
  move_map s t (closes ok at on did is) h =
      (back s.cell t.cell _ did h, closes ok at on (same s.cell t.cell _ did h) (ap map_stand is))

  leads_map : (s t : Stand C K) → Leads told keeps T s t → R t.cell
      → R s.cell × Leads seen keeps T (map_stand s) (map_stand t)
  leads_map s _ stays holds = (holds, stays)
  leads_map s u (goes {t = t} before move) holds =
      let last = move_map t u move holds in
      let first = leads_map s t before last.0 in
      (first.0, goes first.1 last.1)

  due_map : (l : BookLimits) (s : Stand C K) (point : Point) (e : Entry) → IsDue l s point e
      → IsDue l (map_stand s) point e
  due_map l s Between e due = due
  due_map l s (Noting n) e due = due
  due_map l s (Noted n done) e due = due
  due_map l s (Turning []) e due = due
  due_map l s (Turning (m ∷ rest)) e due = due
  due_map l s (Serving n) e due = due
  due_map l s (Wanted n (wish.For task)) e due = due
  due_map l s (Wanted n wish.Unreadable) e due = due
  due_map l s (Wanted n wish.TooMuch) e due = due
  due_map l s (Answering n reply) e due = due
  due_map l s Closing e due = due
  due_map l s (Over h) e due = due

  unbooked_map : (l : BookLimits) (t : Stand C K) (c : C) → Unbooked told l t c → R c
      → R t.cell × Unbooked seen l (map_stand t) (f c)
  unbooked_map l t c (noted n done at is) holds = (subst R is holds, noted n done at (ap f is))
  unbooked_map l t c (reading m rest r at did) holds =
      (back t.cell c _ did holds, reading m rest r at (same t.cell c _ did holds))
  unbooked_map l t c (act e due his hands) holds =
      let handed = hands_map _ t.cell c hands holds in
      (handed.0, act e (due_map l t t.place.point e due) his handed.1)

  away_map : (t : Stand C K) (c : C) → TurnsAway told T t c → R c → R t.cell × TurnsAway seen T (map_stand t) (f c)
  away_map t c away holds = (
    back t.cell c _ away.shown holds,
    record {
      machine = away.machine;
      rest = away.rest;
      point = away.point;
      reading = away.reading;
      shown = same t.cell c _ away.shown holds;
      why = away.why;
      refused = away.refused;
    },
  )

  rests_map : (t : Stand C K) (e : End) → Rests T t e → Rests T (map_stand t) e
  rests_map t e rest =
      record { point = rest.point; unchanged = rest.unchanged; settled = rest.settled; rest = rest.rest }

  has_map : (t : Stand C K) (c : C) (k : K) (J : List Entry) → Has t c k J → Has (map_stand t) (f c) k J
  has_map t c k J (cell, keeper, journal) = (ap f cell, keeper, journal)

  halts_map : (s : Stand C K) (h : Halt) (c : C) (k : K) (J : List Entry) → Halts told keeps T s h c k J → R c
      → Halts seen keeps T (map_stand s) h (f c) k J
  halts_map s h c k J (breaks t led over has) holds =
      breaks (map_stand t) (leads_map s t led (subst R (sym has.0) holds)).1 over (has_map t c k J has)
  halts_map s h c k J (lacks t led is unbooked has) holds =
      let left = unbooked_map T.limits t c unbooked holds in
      lacks (map_stand t) (leads_map s t led left.0).1 is left.1 (has_map t t.cell k J has)
  halts_map s h c k J (fills t led is away has) holds =
      let left = away_map t c away holds in
      fills (map_stand t) (leads_map s t led left.0).1 is left.1 (has_map t t.cell k J has)
  halts_map s h c k J (rests t e led is rest has) holds =
      rests (map_stand t) e (leads_map s t led (subst R (sym has.0) holds)).1 is (rests_map t e rest)
      (has_map t c k J has)
  halts_map s h c k J (tires t led is point rounds has) holds =
      tires (map_stand t) (leads_map s t led (subst R (sym has.0) holds)).1 is point rounds (has_map t c k J has)

  pub controlled_map : (h : Halt) (c c' : C) (k k' : K) (J J' : List Entry) (lines : List Line)
      (last : Option LastCommand) → Controlled told keeps T h c k J lines last c' k' J' → R c'
      → Controlled seen keeps T h (f c) k J lines last (f c') k' J'
  controlled_map h c c' k k' J J' lines last made holds = halts_map (start c k J lines last) h c' k' J' made holds

  -- a run is paused so of what is seen of its cell
  pub paused_map : (s : Stand C K) (c : C) (k : K) (p : Paused) → IsPaused told keeps T s c k p → R c
      → IsPaused seen keeps T (map_stand s) (f c) k p
  paused_map s c k p (begun, led) holds = (
    begun,
    record {
      minds = led.minds;
      leads = (leads_map s (stand (state_at c k p) led.minds (place p.rounds begun Between)) led.leads holds).1;
      fits = led.fits;
    },
  )
