-- What is done from a pause on is done from where the run began
use Rattle.std.proofs.Common.{◌≡◌, ◌∙◌, ap, sym, subst, List, Bool, ℕ, Option}
use Rattle.std.specs.Prelude.{Some, None}
use Rattle.cell_types.specs.declared.words.Entry.{Entry}
use Rattle.cell_rules.specs.History.{History}
use Rattle.cell_rules.specs.declared.limits.BookLimits.{BookLimits}
use Rattle.cell_turns.specs.declared.six.Six.{Six}
use Rattle.cell_turns.specs.declared.watch.Watch.{Watch}
use Rattle.operator_desk.specs.declared.line.Line.{Line}
use Rattle.cell_rounds.specs.Moves.{terms_of}
use Rattle.cell_rounds.specs.Pauses.{IsPaused, Paused}
use Rattle.cell_rounds.specs.Runs.{Halts, Runs}
use Rattle.cell_rounds.specs.Stands.{Between, desk, last_of, place, state}
use Rattle.cell_rounds.specs.declared.settle.PendingCommand.{PendingCommand}
use Rattle.cell_rounds.proofs.Pausing.{paused_halts, paused_then}
use Rattle.cell_rounds.proofs.run.go_on.Goals as goal

abbrev paused : History → Six Watch → Option PendingCommand → List Line → Bool → ℕ → Paused
paused b ws o lines lost n =
    record {
      limits = b.limits;
      journal = b.entries;
      watches = ws;
      pending = last_of o;
      desk = desk lines lost;
      rounds = n;
    }

pub returns-in-Ok-clause-goes_on : goal.returns-in-Ok-clause-goes_on
returns-in-Ok-clause-goes_on g c = λ s is_paused.
    let told = g.C.Plant.told in
    let keeps = g.K.Keeper.keeps in
    let p = c.args.leg.terms.plan.now in
    let waits = c.args.leg.terms.waits in
    let l = g.R.Run.limits in
    let T = terms_of l p waits in
    let in_it = c.pause.inside in
    let was = paused in_it.book in_it.watches in_it.pending in_it.script in_it.lost in_it.rounds in
    let next = c.take_rounds.new.cell in
    let y = state c.take_rounds.new.plant c.take_rounds.new.keeper next.kept.entries next.watches next.pending
    next.script next.lost in
    let book = c.new-kept.ensures.book in
    let limits : in_it.book.limits ≡ l = ap (λ (q : Paused). q.limits) c.pause.view_is ∙ c.requires.limits in
    let led = subst (λ (x : BookLimits). (J : List Entry) → (begun : List Entry) × Runs told keeps (terms_of x p waits)
    None
    (place in_it.rounds J Between) (place c.args.leg.until begun Between)
    (state c.args.plant.now c.args.keeper.now in_it.book.entries in_it.watches in_it.pending in_it.script in_it.lost) y)
    limits
    (subst (λ (b : History). (J : List Entry) → (begun : List Entry) × Runs told keeps (terms_of b.limits p waits) None
    (place in_it.rounds J Between) (place c.args.leg.until begun Between)
    (state c.args.plant.now c.args.keeper.now b.entries in_it.watches in_it.pending in_it.script in_it.lost) y) book
    c.in-Ok.ensures.led) in
    subst (λ (q : Paused). IsPaused told keeps T s c.take_rounds.new.plant c.take_rounds.new.keeper q)
    (sym c.pause-in-Ok.ensures)
    (paused_then told keeps T s c.args.plant.now c.take_rounds.new.plant c.args.keeper.now c.take_rounds.new.keeper was
    (paused next.kept next.watches next.pending next.script next.lost c.args.leg.until)
    (subst (λ (q : Paused). IsPaused told keeps T s c.args.plant.now c.args.keeper.now q) (sym c.pause.view_is)
    is_paused)
    led)

pub returns-in-Err-clause-goes_on : goal.returns-in-Err-clause-goes_on
returns-in-Err-clause-goes_on g c = λ s is_paused.
    let told = g.C.Plant.told in
    let keeps = g.K.Keeper.keeps in
    let p = c.args.leg.terms.plan.now in
    let waits = c.args.leg.terms.waits in
    let l = g.R.Run.limits in
    let T = terms_of l p waits in
    let in_it = c.pause.inside in
    let was = paused in_it.book in_it.watches in_it.pending in_it.script in_it.lost in_it.rounds in
    let next = c.take_rounds.new.cell in
    let y = state c.take_rounds.new.plant c.take_rounds.new.keeper next.kept.entries next.watches next.pending
    next.script next.lost in
    let book = c.new-kept.ensures.book in
    let limits : in_it.book.limits ≡ l = ap (λ (q : Paused). q.limits) c.pause.view_is ∙ c.requires.limits in
    let h = c.in-Err.halt in
    let led = subst (λ (x : BookLimits). (J : List Entry) → (begun : List Entry) × Runs told keeps (terms_of x p waits)
    (Some h) (place in_it.rounds J Between) (place c.args.leg.until begun Between)
    (state c.args.plant.now c.args.keeper.now in_it.book.entries in_it.watches in_it.pending in_it.script in_it.lost) y)
    limits
    (subst (λ (b : History). (J : List Entry) → (begun : List Entry) × Runs told keeps (terms_of b.limits p waits)
    (Some h)
    (place in_it.rounds J Between) (place c.args.leg.until begun Between)
    (state c.args.plant.now c.args.keeper.now b.entries in_it.watches in_it.pending in_it.script in_it.lost) y) book
    c.in-Err.ensures.led) in
    subst (λ (J : List Entry). Halts told keeps T s h c.take_rounds.new.plant c.take_rounds.new.keeper J)
    (sym (ap (λ (b : History). b.entries) c.into_book.ensures))
    (paused_halts told keeps T s c.args.plant.now c.args.keeper.now was h c.args.leg.until y
    (subst (λ (q : Paused). IsPaused told keeps T s c.args.plant.now c.args.keeper.now q) (sym c.pause.view_is)
    is_paused)
    led)
