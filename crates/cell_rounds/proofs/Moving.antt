-- Moves follow one another, and what a call did is one of them
use Rattle.std.proofs.Common.{◌≡◌, List, ℕ, Bool, false, refl, sym, ap, subst, Option}
use Rattle.std.specs.Result.{IsErr, IsErrAnd}
use Rattle.std.specs.Prelude.{Some, None, Result, Ok, Err}
use Rattle.cell_types.specs.declared.words.Entry.{Entry}
use Rattle.cell_types.specs.declared.words.Machine.{Machine}
use Rattle.cell_types.specs.declared.words.Machine.TheVariants as machine
use Rattle.cell_rules.specs.declared.limits.BookLimits.{BookLimits}
use Rattle.cell_ports.specs.declared.plan.Plan.{Plan}
use Rattle.cell_turns.specs.Minds.{FitsMind, Mind, first_mind, machine_of_watch}
use Rattle.cell_turns.specs.Schedules.{FitAll, now}
use Rattle.cell_turns.specs.Six.{at, each, put}
use Rattle.cell_turns.specs.declared.six.Six.{Six}
use Rattle.cell_turns.specs.declared.watch.Watch.{Watch}
use Rattle.cell_turns.proofs.Sixes.{all_put}
use Rattle.operator_desk.specs.declared.line.Line.{Line}
use Rattle.cell_plant.specs.Asked.{Asked}
use Rattle.cell_rounds.specs.Calls.{halted}
use Rattle.cell_rounds.specs.Moves.{Leads, Move, Terms, goes, stays, terms_of}
use Rattle.cell_rounds.specs.Runs.{Controlled, Goes, Halts, Reaches, Runs, breaks, fills, lacks, rests, tires}
use Rattle.cell_rounds.specs.Stands.{Between, Over, Place, Point, Stand, State, desk, place, stand}
use Rattle.cell_rounds.specs.declared.progress.Halt.{Halt}
use Rattle.cell_rounds.specs.declared.settle.LastCommand.{LastCommand}

pub at_put : {T : Type 0} (s : Six T) (m : Machine) (x : T) → at (put s m x) m ≡ x
at_put s machine.Feed x = refl
at_put s machine.Table x = refl
at_put s machine.Robot x = refl
at_put s machine.Press1 x = refl
at_put s machine.Press2 x = refl
at_put s machine.Deposit x = refl

pub put_put : {T : Type 0} (s : Six T) (m : Machine) (x y : T) → put (put s m x) m y ≡ put s m y
put_put s machine.Feed x y = refl
put_put s machine.Table x y = refl
put_put s machine.Robot x y = refl
put_put s machine.Press1 x y = refl
put_put s machine.Press2 x y = refl
put_put s machine.Deposit x y = refl

-- each watch is its machine's, with another of this machine too
pub machines_put : (ws : Six Watch) (m : Machine) (w : Watch) → ((n : Machine) → machine_of_watch (at ws n) ≡ n)
    → machine_of_watch w ≡ m → (n : Machine) → machine_of_watch (at (put ws m w) n) ≡ n
machines_put ws m w all own =
    all_put (λ n (a : Watch) (b : Watch) (c : Watch). machine_of_watch a ≡ n) m ws ws ws w w w all own

-- all fit, with another watch that fits another mind
pub fits_put : (ws : Six Watch) (minds : Six Mind) (m : Machine) (w : Watch) (s : Mind) → FitAll ws minds
    → FitsMind w s → FitAll (put ws m w) (put minds m s)
fits_put ws minds m w s all fit = record {
  each = all_put (λ n (a : Watch) (b : Mind) (c : Mind). FitsMind a b) m ws minds minds w s s all.each fit;
}

-- a call that fails for what another failed for halts as that
pub halted_by : {A B : Type 0} (r : Result A Halt) (s : Result B Halt) (h : Halt) → IsErrAnd r (λ x. x ≡ h) → s ≡ Err h
    → halted s ≡ halted r
halted_by (Ok x) s h is was = absurd is
halted_by (Err x) s h is was = rw (was, is) refl

-- one that fails isn't done
pub not_done : {A : Type 0} (r : Result A Halt) (a : A) → IsErr r → r ≡ Ok a → ⊥
not_done (Ok x) a is same = cc
not_done (Err x) a is same = cc

-- one that fails for this
pub halted_is : {A : Type 0} (r : Result A Halt) (h : Halt) → IsErrAnd r (λ x. x ≡ h) → halted r ≡ Some h
halted_is (Ok x) h is = absurd is
halted_is (Err x) h is = ap (λ (y : Halt). Some y) is

module _ {C K : Type 0} (told : C → C → Asked → Type 0) (keeps : K → K → Entry → Bool → Type 0) (T : Terms) where
  pub leads_more : (s t u : Stand C K) → Leads told keeps T s t → Leads told keeps T t u → Leads told keeps T s u
  leads_more s t _ first stays = first
  leads_more s t u first (goes {t = mid} then move) = goes (leads_more s t mid first then) move

  -- moves, and then how the run halts
  pub halts_after : (s t : Stand C K) (h : Halt) (c : C) (k : K) (J : List Entry) → Leads told keeps T s t
      → Halts told keeps T t h c k J → Halts told keeps T s h c k J
  halts_after s t h c k J first (breaks u then over has) = breaks u (leads_more s t u first then) over has
  halts_after s t h c k J first (lacks u then is left has) = lacks u (leads_more s t u first then) is left has
  halts_after s t h c k J first (fills u then is away has) = fills u (leads_more s t u first then) is away has
  halts_after s t h c k J first (rests u e then is at_rest has) = rests u e (leads_more s t u first then) is at_rest has
  halts_after s t h c k J first (tires u then is here all has) = tires u (leads_more s t u first then) is here all has

  pub reaches_after : (h : Option Halt) (s t : Stand C K) (b : Place) (y : State C K) → Leads told keeps T s t
      → Reaches told keeps T t h b y → Reaches told keeps T s h b y
  reaches_after None s t b y first led = record {
    minds = led.minds;
    leads = leads_more s t (stand y led.minds b) first led.leads;
    fits = led.fits;
  }
  reaches_after (Some h) s t b y first halts = halts_after s t h y.cell y.keeper y.journal first halts

  -- nothing was done
  pub runs_nothing : (a : Place) (x : State C K) → Runs told keeps T None a a x x
  runs_nothing a x = λ minds fits. record { minds = minds; leads = stays; fits = fits }

  -- one call and then another
  pub runs_then : (h : Option Halt) (a b c : Place) (x y z : State C K) → Runs told keeps T None a b x y
      → Runs told keeps T h b c y z → Runs told keeps T h a c x z
  runs_then h a b c x y z first then = λ minds fits.
      let led = first minds fits in
      reaches_after h (stand x minds a) (stand y led.minds b) c z led.leads (then led.minds led.fits)

  -- one move
  pub runs_move : (a b : Place) (x y : State C K)
      → ((minds : Six Mind) → FitAll x.watches minds → (minds' : Six Mind) × FitAll y.watches minds'
      × Move told keeps T (stand x minds a) (stand y minds' b))
      → Runs told keeps T None a b x y
  runs_move a b x y move = λ minds fits.
      let made = move minds fits in record { minds = made.0; leads = goes stays made.2; fits = made.1 }

  -- a call that led to where nothing more is done has halted the run
  pub runs_over : (h : Halt) (a b c : Place) (x y : State C K) → b.point ≡ Over h → Runs told keeps T None a b x y
      → Runs told keeps T (Some h) a c x y
  runs_over h a b c x y over runs = λ minds fits.
      let led = runs minds fits in breaks (stand y led.minds b) led.leads over (refl, refl, refl)

  -- a run halted where a call failed for what another failed for, wherever it would have gone
  pub runs_halted : (A B : Type 0) (r : Result A Halt) (s : Result B Halt) (h : Halt) (a b b' : Place)
      (x y : State C K) → IsErrAnd s (λ q. q ≡ h) → r ≡ Err h → Runs told keeps T (halted r) a b x y
      → Runs told keeps T (halted s) a b' x y
  runs_halted A B r (Ok q) h a b b' x y is was runs = absurd is
  runs_halted A B r (Err q) h a b b' x y is was runs =
      let so : Runs told keeps T (Some h) a b x y =
      subst (λ (o : Option Halt). Runs told keeps T o a b x y) (ap halted was) runs in
      subst (λ (o : Option Halt). Runs told keeps T o a b' x y) (ap (λ (z : Halt). Some z) (sym is)) so

module _ {C K : Type 0} (told : C → C → Asked → Type 0) (keeps : K → K → Entry → Bool → Type 0) (l : BookLimits)
    (p : Plan) where
  pub goes_nothing : (f : Point) (x : State C K) → Goes told keeps l p None f f x x
  goes_nothing f x = λ waits n J. runs_nothing told keeps (terms_of l p waits) (place n J f) x

  -- one call and then another, whose book has the same limits
  pub goes_then : (l' : BookLimits) (h : Option Halt) (f g i : Point) (x y z : State C K) → l' ≡ l
      → Goes told keeps l p None f g x y → Goes told keeps l' p h g i y z → Goes told keeps l p h f i x z
  goes_then l' h f g i x y z same first then = λ waits n J.
      runs_then told keeps (terms_of l p waits) h (place n J f) (place n J g) (place n J i) x y z (first waits n J)
      (subst (λ (q : BookLimits). Goes told keeps q p h g i y z) same then waits n J)

  -- one move
  pub goes_move : (f g : Point) (x y : State C K)
      → ((waits : Bool) (n : ℕ) (J : List Entry) (minds : Six Mind) → FitAll x.watches minds
      → (minds' : Six Mind) × FitAll y.watches minds'
      × Move told keeps (terms_of l p waits) (stand x minds (place n J f)) (stand y minds' (place n J g)))
      → Goes told keeps l p None f g x y
  goes_move f g x y move = λ waits n J.
      runs_move told keeps (terms_of l p waits) (place n J f) (place n J g) x y (move waits n J)

  -- what led to where nothing more is done has halted the run
  pub goes_over : (h : Halt) (f g : Point) (x y : State C K) → Goes told keeps l p None f (Over h) x y
      → Goes told keeps l p (Some h) f g x y
  goes_over h f g x y over = λ waits n J.
      runs_over told keeps (terms_of l p waits) h (place n J f) (place n J (Over h)) (place n J g) x y refl
      (over waits n J)

  -- the run halted where a call failed for what another failed for, wherever it would have gone
  pub goes_halted : (A B : Type 0) (r : Result A Halt) (s : Result B Halt) (h : Halt) (f g g' : Point)
      (x y : State C K) → IsErrAnd s (λ q. q ≡ h) → r ≡ Err h → Goes told keeps l p (halted r) f g x y
      → Goes told keeps l p (halted s) f g' x y
  goes_halted A B r s h f g g' x y is was runs = λ waits n J.
      runs_halted told keeps (terms_of l p waits) A B r s h (place n J f) (place n J g) (place n J g') x y is was
      (runs waits n J)

  -- the same halt by another name
  pub goes_as : (h h' : Option Halt) (f g : Point) (x y : State C K) → h ≡ h' → Goes told keeps l p h f g x y
      → Goes told keeps l p h' f g x y
  goes_as h h' f g x y is runs = subst (λ (o : Option Halt). Goes told keeps l p o f g x y) is runs

-- a run from a book's journal on, where the book, the command and the limits have other names
pub controlled_as : {C K : Type 0} (told : C → C → Asked → Type 0) (keeps : K → K → Entry → Bool → Type 0) (p : Plan)
    (waits : Bool) (l l' : BookLimits) (h : Halt) (c c' : C) (k k' : K) (J J0 J' J'' : List Entry) (lines : List Line)
    (o last : Option LastCommand) → l ≡ l' → J ≡ J0 → J' ≡ J'' → o ≡ last
    → Halts told keeps (terms_of l p waits) (record {
      cell = c;
      keeper = k;
      now = now J (each (λ m. first_mind J0 m));
      pending = o;
      desk = desk lines false;
      place = place 0 J0 Between;
    }) h c' k' J'
    → Controlled told keeps (terms_of l' p waits) h c k J0 lines last c' k' J''
controlled_as told keeps p waits l l' h c c' k k' J J0 J' J'' lines o last limits first then same halts =
    subst (λ (x : BookLimits). Controlled told keeps (terms_of x p waits) h c k J0 lines last c' k' J'') limits
    (subst (λ (x : List Entry). Controlled told keeps (terms_of l p waits) h c k J0 lines last c' k' x) then
    (subst (λ (x : Option LastCommand). Controlled told keeps (terms_of l p waits) h c k J0 lines x c' k' J') same
    (subst (λ (x : List Entry). Halts told keeps (terms_of l p waits) (record {
      cell = c;
      keeper = k;
      now = now x (each (λ m. first_mind J0 m));
      pending = o;
      desk = desk lines false;
      place = place 0 J0 Between;
    }) h c' k' J') first halts)))
