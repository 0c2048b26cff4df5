-- A run that is paused goes on
use Rattle.std.proofs.Common.{◌≡◌, List, ℕ, Bool, false, refl, Option}
use Rattle.std.specs.Prelude.{Some, None}
use Rattle.cell_types.specs.declared.words.Entry.{Entry}
use Rattle.cell_rules.specs.declared.limits.BookLimits.{BookLimits}
use Rattle.cell_turns.specs.Minds.{first_mind}
use Rattle.cell_turns.specs.Schedules.{now}
use Rattle.cell_turns.specs.Six.{each}
use Rattle.cell_workers.specs.declared.ends.End.TheVariants as end
use Rattle.operator_desk.specs.declared.line.Line.{Line}
use Rattle.cell_plant.specs.Asked.{Asked}
use Rattle.cell_rounds.specs.Moves.{Leads, Terms, stays}
use Rattle.cell_rounds.specs.Pauses.{IsPaused, IsUnbegun, Paused, state_at}
use Rattle.cell_rounds.specs.Runs.{Halts, Runs, tires}
use Rattle.cell_rounds.specs.Stands.{Between, Desk, Stand, State, desk, place, stand, start}
use Rattle.cell_rounds.specs.declared.progress.Halt.{Halt}
use Rattle.cell_rounds.specs.declared.progress.Halt.TheVariants as halt
use Rattle.cell_rounds.specs.declared.settle.LastCommand.{LastCommand}
use Rattle.cell_rounds.proofs.Moving.{reaches_after}

module _ {C K : Type 0} (told : C → C → Asked → Type 0) (keeps : K → K → Entry → Bool → Type 0) (T : Terms) where
  -- what is done from a pause on leads to another
  pub paused_then : (s : Stand C K) (c c' : C) (k k' : K) (p q : Paused) → IsPaused told keeps T s c k p
      → ((J : List Entry) → (begun : List Entry) × Runs told keeps T None (place p.rounds J Between)
      (place q.rounds begun Between) (state_at c k p) (state_at c' k' q)) → IsPaused told keeps T s c' k' q
  paused_then s c c' k k' p q paused runs =
      let (J, led) = paused in
      let (begun, more) = runs J in (
        begun,
        reaches_after told keeps T None s (stand (state_at c k p) led.minds (place p.rounds J Between))
            (place q.rounds begun Between) (state_at c' k' q) led.leads (more led.minds led.fits),
      )

  -- or halts the run
  pub paused_halts : (s : Stand C K) (c : C) (k : K) (p : Paused) (h : Halt) (n : ℕ) (y : State C K)
      → IsPaused told keeps T s c k p
      → ((J : List Entry) → (begun : List Entry) × Runs told keeps T (Some h) (place p.rounds J Between)
      (place n begun Between) (state_at c k p) y) → Halts told keeps T s h y.cell y.keeper y.journal
  paused_halts s c k p h n y paused runs =
      let (J, led) = paused in
      let (begun, more) = runs J in
      reaches_after told keeps T (Some h) s (stand (state_at c k p) led.minds (place p.rounds J Between))
      (place n begun Between) y led.leads (more led.minds led.fits)

  -- a run that is paused after as many rounds as may be has halted
  pub paused_tires : (s : Stand C K) (c : C) (k : K) (p : Paused) → IsPaused told keeps T s c k p
      → p.rounds ≡ T.plan.turns → Halts told keeps T s (halt.End end.TurnLimit) c k p.journal
  paused_tires s c k p paused all =
      let (J, led) = paused in
      tires (stand (state_at c k p) led.minds (place p.rounds J Between)) led.leads refl refl all (refl, refl, refl)

  begun_at : (c : C) (k : K) (J J' : List Entry) (lines : List Line) (last last' : Option LastCommand) (d : Desk)
      (n : ℕ) → J' ≡ J → last' ≡ last → d ≡ desk lines false → n ≡ 0
      → Leads told keeps T (start c k J lines last) (record {
        cell = c;
        keeper = k;
        now = now J' (each (λ m. first_mind J m));
        pending = last';
        desk = d;
        place = place n J Between;
      })
  begun_at c k J J' lines last last' d n entries command desks rounds = rw (entries, command, desks, rounds) stays

  -- a run that isn't begun is paused
  pub unbegun_paused : (c : C) (k : K) (l : BookLimits) (J : List Entry) (lines : List Line) (last : Option LastCommand)
      (p : Paused) → IsUnbegun l J lines last p → IsPaused told keeps T (start c k J lines last) c k p
  unbegun_paused c k l J lines last p new = (
    J,
    record {
      minds = each (λ m. first_mind J m);
      leads = begun_at c k J p.journal lines last p.pending p.desk p.rounds new.journal new.pending new.desk new.rounds;
      fits = new.fits;
    },
  )
