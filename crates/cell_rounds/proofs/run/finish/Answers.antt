-- A run that goes on as long as it may has halted then, if it hasn't before
use Rattle.std.proofs.Common.{◌≡◌, ap, sym, subst, List, Bool}
use Rattle.std.specs.Prelude.{MatchResult, Result, Ok, Err, IfOk}
use Rattle.cell_types.specs.declared.words.Entry.{Entry}
use Rattle.cell_rules.specs.History.{History}
use Rattle.cell_workers.specs.declared.ends.End.TheVariants as end
use Rattle.cell_plant.specs.Asked.{Asked}
use Rattle.cell_rounds.specs.Moves.{Terms, terms_of}
use Rattle.cell_rounds.specs.Pauses.{IsPaused, Paused}
use Rattle.cell_rounds.specs.Runs.{Halts}
use Rattle.cell_rounds.specs.Stands.{Stand}
use Rattle.cell_rounds.specs.declared.progress.Halt.{Halt}
use Rattle.cell_rounds.specs.declared.progress.Halt.TheVariants as halt
use Rattle.cell_rounds.specs.declared.run.Outcome.{Outcome}
use Rattle.cell_rounds.proofs.Pausing.{paused_tires}
use Rattle.cell_rounds.proofs.run.finish.Goals as goal

ended : {C K : Type 0} (told : C → C → Asked → Type 0) (keeps : K → K → Entry → Bool → Type 0) (T : Terms)
    (s : Stand C K) (c : C) (k : K) (r : Result Paused Outcome) (o : Outcome)
    → MatchResult r (λ q. (o.halt ≡ halt.End end.TurnLimit)
    × (o.book ≡ record { limits = q.limits; entries = q.journal })) (λ x. o ≡ x)
    → IfOk r (λ q. q.rounds ≡ T.plan.turns)
    → MatchResult r (λ q. IsPaused told keeps T s c k q) (λ x. Halts told keeps T s x.halt c k x.book.entries)
    → Halts told keeps T s o.halt c k o.book.entries
ended told keeps T s c k (Ok q) o (so, book) all paused =
    subst (λ (h : Halt). Halts told keeps T s h c k o.book.entries) (sym so)
    (subst (λ (J : List Entry). Halts told keeps T s (halt.End end.TurnLimit) c k J)
    (sym (ap (λ (b : History). b.entries) book)) (paused_tires told keeps T s c k q paused all))
ended told keeps T s c k (Err x) o is all halts =
    subst (λ (x : Outcome). Halts told keeps T s x.halt c k x.book.entries) (sym is) halts

pub returns-clause-halts : goal.returns-clause-halts
returns-clause-halts g c = λ s paused.
    ended g.C.Plant.told g.K.Keeper.keeps (terms_of g.R.Run.limits c.args.terms.plan.now c.args.terms.waits) s
    c.go_on.new.plant c.go_on.new.keeper c.go_on.result c.outcome_of-outcome.result c.outcome_of-outcome.ensures
    c.go_on.ensures.rounds (c.go_on.ensures.goes_on s paused)
