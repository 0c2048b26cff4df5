-- What is heard of the cell and told to it, and the beginning and the end of a round
use Rattle.std.proofs.Common.{◌≡◌, ◌<◌, ◌⊎◌, ◌∷◌, ◌++◌, ◌+◌, ◌∙◌, [], List, ℕ, Bool, true, refl, sym, ap, Option}
use Rattle.std.proofs.Common.{arith, append_assoc, append-nil, length-append, option_to_list}
use Rattle.std.specs.Prelude.{Some, None, length}
use Rattle.cell_types.specs.Texts.{all_machine}
use Rattle.cell_types.specs.declared.words.Entry.{Entry}
use Rattle.cell_rules.specs.Legal.{first_of}
use Rattle.cell_rules.specs.declared.limits.BookLimits.{BookLimits}
use Rattle.cell_rules.specs.declared.refusal.Refusal.{Refusal}
use Rattle.cell_ports.specs.declared.plan.Plan.{Plan}
use Rattle.cell_turns.specs.Minds.{Mind}
use Rattle.cell_turns.specs.Schedules.{FitAll}
use Rattle.cell_turns.specs.declared.six.Six.{Six}
use Rattle.cell_workers.specs.declared.ends.End.{End}
use Rattle.cell_workers.specs.declared.ends.End.TheVariants as end
use Rattle.operator_desk.specs.Next.{next_of}
use Rattle.operator_desk.specs.declared.line.Task.{Task}
use Rattle.cell_plant.specs.Asked.{Acted, Asked, Closed, Opened, Refused, Replied, Wished}
use Rattle.cell_plant.specs.declared.desk.Reply.{Reply}
use Rattle.cell_plant.specs.declared.desk.Wish.{Wish}
use Rattle.cell_rounds.specs.Moves.{IsDenied, Leads, Move, after_act, after_close, after_wish, asked, asks}
use Rattle.cell_rounds.specs.Moves.{begins, closes, denies, does, entry_wanted, fails, finds, goes, grants, heard}
use Rattle.cell_rounds.specs.Moves.{hears}
use Rattle.cell_rounds.specs.Moves.{if_reached, looks, loses, misses, most_heard, notes, rejects, repeats, replies}
use Rattle.cell_rounds.specs.Moves.{rests as idles, sends, stays, turns, Terms}
use Rattle.cell_rounds.specs.Rest.{IsAtRest, KeepsOn}
use Rattle.cell_rounds.specs.Runs.{Goes, Runs, rests, tires}
use Rattle.cell_rounds.specs.Stands.{Answering, Between, Closing, Noted, Noting, Place, Point, Serving, Stand}
use Rattle.cell_rounds.specs.Stands.{State, Turning, Wanted, place, stand}
use Rattle.cell_rounds.specs.declared.progress.Halt.TheVariants as halt
use Rattle.cell_rounds.proofs.Moving.{goes_move, runs_move}

module _ {C K : Type 0} (told : C → C → Asked → Type 0) (keeps : K → K → Entry → Bool → Type 0) (l : BookLimits)
    (p : Plan) where
  -- what was done at the cell
  pub goes_hears : (i : ℕ) (done : Option Task) (g : Point) (x : State C K) (c : C) → g ≡ after_act i done
      → told x.cell c (Acted done) → Goes told keeps l p None (Noting i) g x (record x { cell = c })
  goes_hears i done g x c is did = rw is
      (goes_move told keeps l p (Noting i) (after_act i done) x (record x { cell = c }) (λ waits n J minds fits. (
        minds,
        fits,
        hears i done refl did refl,
      )))

  pub goes_heard : (i : ℕ) (x : State C K) → i ≡ most_heard
      → Goes told keeps l p None (Noting i) (Turning all_machine) x x
  goes_heard i x is = rw is
      (goes_move told keeps l p (Noting most_heard) (Turning all_machine) x x (λ waits n J minds fits. (
        minds,
        fits,
        heard refl refl,
      )))

  pub goes_rejects : (i : ℕ) (done : Task) (why : Refusal) (x : State C K) (c : C)
      → first_of l x.journal (entry_wanted x.journal done) ≡ Some why → told x.cell c (Refused done why)
      → Goes told keeps l p None (Noted i done) (Noting (i + 1)) x (record x { cell = c })
  goes_rejects i done why x c is did =
      goes_move told keeps l p (Noted i done) (Noting (i + 1)) x (record x { cell = c }) (λ waits n J minds fits. (
        minds,
        fits,
        rejects i done why refl is did refl,
      ))

  -- the operator has nothing to do by his script
  pub goes_idle : (x : State C K)
      → (x.desk.lost ≡ true) ⊎ (next_of x.desk.lines (record { limits = l; entries = x.journal }) ≡ None)
      → Goes told keeps l p None (Turning []) (Serving 0) x x
  goes_idle x idle =
      goes_move told keeps l p (Turning []) (Serving 0) x x (λ waits n J minds fits. (
        minds,
        fits,
        idles refl idle refl,
      ))

  -- what is wanted at the cell
  pub goes_asks : (i : ℕ) (wish : Option Wish) (g : Point) (x : State C K) (c : C) → g ≡ after_wish i wish
      → told x.cell c (Wished wish) → Goes told keeps l p None (Serving i) g x (record x { cell = c })
  goes_asks i wish g x c is did = rw is
      (goes_move told keeps l p (Serving i) (after_wish i wish) x (record x { cell = c }) (λ waits n J minds fits. (
        minds,
        fits,
        asks i wish refl did refl,
      )))

  pub goes_asked : (i : ℕ) (x : State C K) → i ≡ most_heard → Goes told keeps l p None (Serving i) Closing x x
  goes_asked i x is = rw is
      (goes_move told keeps l p (Serving most_heard) Closing x x (λ waits n J minds fits. (
        minds,
        fits,
        asked refl refl,
      )))

  pub goes_denies : (i : ℕ) (wish : Wish) (reply : Reply) (x : State C K) → IsDenied l x.journal wish reply
      → Goes told keeps l p None (Wanted i wish) (Answering i reply) x x
  goes_denies i wish reply x denied =
      goes_move told keeps l p (Wanted i wish) (Answering i reply) x x (λ waits n J minds fits. (
        minds,
        fits,
        denies i wish reply refl denied refl,
      ))

  -- it is answered, or the cell is gone
  pub goes_replies : (i : ℕ) (reply : Reply) (ok : Bool) (x : State C K) (c : C) → told x.cell c (Replied reply ok)
      → Goes told keeps l p None (Answering i reply) (if_reached ok (Serving (i + 1))) x (record x { cell = c })
  goes_replies i reply ok x c did =
      goes_move told keeps l p (Answering i reply) (if_reached ok (Serving (i + 1))) x (record x { cell = c })
      (λ waits n J minds fits. (minds, fits, replies i reply ok refl did refl))

module _ {C K : Type 0} (told : C → C → Asked → Type 0) (keeps : K → K → Entry → Bool → Type 0) (T : Terms) where
  -- a round begins
  pub runs_begins : (n : ℕ) (J : List Entry) (ok : Bool) (x : State C K) (c : C) → n < T.plan.turns
      → told x.cell c (Opened ok)
      → Runs told keeps T None (place n J Between) (place n x.journal (if_reached ok (Noting 0))) x
      (record x { cell = c })
  runs_begins n J ok x c room did =
      runs_move told keeps T (place n J Between) (place n x.journal (if_reached ok (Noting 0))) x
      (record x { cell = c })
      (λ minds fits. (minds, fits, begins ok refl room did refl))

  -- it is closed
  pub runs_closes : (n : ℕ) (J : List Entry) (ok : Bool) (x : State C K) (c : C)
      → ((minds : Six Mind) → FitAll x.watches minds → x.journal ≡ J → x.pending ≡ None
      → KeepsOn T.plan T.waits x.journal minds) → told x.cell c (Closed ok)
      → Runs told keeps T None (place n J Closing) (after_close (place n J Closing) ok) x (record x { cell = c })
  runs_closes n J ok x c on did =
      runs_move told keeps T (place n J Closing) (after_close (place n J Closing) ok) x (record x { cell = c })
      (λ minds fits. (minds, fits, closes ok refl (λ same settled. on minds fits same settled) did refl))

  -- or it ends the run
  pub runs_rests : (n : ℕ) (J : List Entry) (a b : Place) (e : End) (x y : State C K)
      → Runs told keeps T None a (place n J Closing) x y
      → y.journal ≡ J → y.pending ≡ None
      → ((minds : Six Mind) → FitAll y.watches minds → IsAtRest T.plan T.waits y.journal minds e)
      → Runs told keeps T (Some (halt.End e)) a b x y
  runs_rests n J a b e x y runs same settled rest = λ minds fits.
      let led = runs minds fits in
      rests (stand y led.minds (place n J Closing)) e led.leads refl (record {
        point = refl;
        unchanged = same;
        settled = settled;
        rest = rest led.minds led.fits;
      }) (refl, refl, refl)

  -- as many rounds as may be
  pub runs_tires : (n : ℕ) (J : List Entry) (a b : Place) (x y : State C K) → n ≡ T.plan.turns
      → Runs told keeps T None a (place n J Between) x y → Runs told keeps T (Some (halt.End end.TurnLimit)) a b x y
  runs_tires n J a b x y all runs = λ minds fits.
      let led = runs minds fits in
      tires (stand y led.minds (place n J Between)) led.leads refl refl all (refl, refl, refl)

  -- each move leaves what is booked booked
  move_grows : (s t : Stand C K) → Move told keeps T s t
      → (added : List Entry) × (t.now.journal ≡ s.now.journal ++ added)
  move_grows s t (begins ok at room did is) = ([], ap (λ u. u.now.journal) is ∙ sym (append-nil s.now.journal))
  move_grows s t (hears n act at did is) = ([], ap (λ u. u.now.journal) is ∙ sym (append-nil s.now.journal))
  move_grows s t (heard at is) = ([], ap (λ u. u.now.journal) is ∙ sym (append-nil s.now.journal))
  move_grows s t (notes n act books at same left on) = (_, ap (λ u. u.journal) books.now)
  move_grows s t (rejects n act why at refused did is) = (
    [],
    ap (λ u. u.now.journal) is ∙ sym
        (append-nil s.now.journal),
  )
  move_grows s t (turns m rest at turn) = (option_to_list turn.turned.booked, turn.turned.journal)
  move_grows s t (looks m rest last r at was own did is) =
      ([], ap (λ u. u.now.journal) is ∙ sym (append-nil s.now.journal))
  move_grows s t (finds m rest last r at was own did is) =
      ([], ap (λ u. u.now.journal) is ∙ sym (append-nil s.now.journal))
  move_grows s t (repeats m rest last r seen at was own did (sends stopped answer stop sent is)) =
      ([], ap (λ u. u.now.journal) is ∙ sym (append-nil s.now.journal))
  move_grows s t (repeats m rest last r seen at was own did (loses stop is)) =
      ([], ap (λ u. u.now.journal) is ∙ sym (append-nil s.now.journal))
  move_grows s t (idles at idle is) = ([], ap (λ u. u.now.journal) is ∙ sym (append-nil s.now.journal))
  move_grows s t (does a books at able next did left on) = (_, ap (λ u. u.journal) books.now)
  move_grows s t (fails a tries at able next left on) =
      ([], ap (λ u. u.journal) tries.now ∙ sym (append-nil s.now.journal))
  move_grows s t (asks n wish at did is) = ([], ap (λ u. u.now.journal) is ∙ sym (append-nil s.now.journal))
  move_grows s t (asked at is) = ([], ap (λ u. u.now.journal) is ∙ sym (append-nil s.now.journal))
  move_grows s t (denies n wish reply at denied is) = ([], ap (λ u. u.now.journal) is ∙ sym (append-nil s.now.journal))
  move_grows s t (grants n act books at did left on) = (_, ap (λ u. u.journal) books.now)
  move_grows s t (misses n act tries at left on) =
      ([], ap (λ u. u.journal) tries.now ∙ sym (append-nil s.now.journal))
  move_grows s t (replies n reply ok at did is) = ([], ap (λ u. u.now.journal) is ∙ sym (append-nil s.now.journal))
  move_grows s t (closes ok at on did is) = ([], ap (λ u. u.now.journal) is ∙ sym (append-nil s.now.journal))

  pub leads_grow : (s t : Stand C K) → Leads told keeps T s t
      → (added : List Entry) × (t.now.journal ≡ s.now.journal ++ added)
  leads_grow s _ stays = ([], sym (append-nil s.now.journal))
  leads_grow s t (goes {t = mid} before move) =
      let (first, is) = leads_grow s mid before in
      let (then, more) = move_grows mid t move in (
        first ++ then,
        more ∙ ap (λ J. J ++ then) is ∙ append_assoc s.now.journal first then,
      )

  -- so a journal that isn't longer is the same
  pub runs_unchanged : (a b : Place) (x y : State C K) (minds : Six Mind) → FitAll x.watches minds
      → Runs told keeps T None a b x y → length y.journal ≡ length x.journal → y.journal ≡ x.journal
  runs_unchanged a b x y minds fits runs short =
      let led = runs minds fits in
      let (added, is) = leads_grow (stand x minds a) (stand y led.minds b) led.leads in
      is ∙ ap (λ more. x.journal ++ more) (empty added (omega (
        arith,
        ap length is,
        length-append x.journal added,
        short,
      )))
      ∙ append-nil x.journal
    where
      empty : (more : List Entry) → length more ≡ 0 → more ≡ []
      empty [] none = refl
      empty (e ∷ more) none = cc
