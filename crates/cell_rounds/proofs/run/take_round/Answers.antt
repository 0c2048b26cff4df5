-- A round is begun, its parts follow one another, and it is closed, unless the run ends
use Rattle.std.proofs.Common.{◌+◌, ◌∙◌, ap, length, refl, subst, sym}
use Rattle.std.specs.Prelude.{Bool, None, Option, is_ok}
use Rattle.cell_rules.specs.History.{History}
use Rattle.cell_rounds.specs.Calls.{halted}
use Rattle.cell_rounds.specs.Moves.{after_close, if_reached, terms_of}
use Rattle.cell_rounds.specs.Runs.{Runs}
use Rattle.cell_rounds.specs.Stands.{Between, Closing, Noting, Over, place, state}
use Rattle.cell_rounds.specs.declared.progress.Halt.{Halt}
use Rattle.cell_rounds.specs.declared.progress.Halt.TheVariants as halt
use Rattle.cell_rounds.proofs.Hearing.{runs_begins, runs_closes, runs_rests, runs_unchanged}
use Rattle.cell_rounds.proofs.Moving.{goes_as, halted_is, runs_halted, runs_over, runs_then}
use Rattle.cell_rounds.proofs.run.take_round.Goals as goal

pub returns-in_err-begin_round-clause-led : goal.returns-in_err-begin_round-clause-led
returns-in_err-begin_round-clause-led g c = λ n J room.
    let told = g.C.Plant.told in
    let keeps = g.K.Keeper.keeps in
    let was = c.args.cell.now in
    let l = was.kept.limits in
    let T = terms_of l c.args.terms.plan.now c.args.terms.waits in
    let a = place n J Between in
    let x = state c.args.plant.now c.args.keeper.now was.kept.entries was.watches was.pending was.script was.lost in
    let y = state c.begin_round.new.self c.args.keeper.now was.kept.entries was.watches was.pending was.script was.lost
    in
    subst (λ (h : Option Halt). Runs told keeps T h a (place (n + 1) was.kept.entries Between) x y)
    (sym (halted_is _ halt.Gone c.from_residual.ensures.1))
    (runs_over told keeps T halt.Gone a (place n was.kept.entries (Over halt.Gone)) (place
    (n + 1) was.kept.entries Between) x y refl
    (subst (λ (b : Bool). Runs told keeps T None a (place n was.kept.entries (if_reached b (Noting 0))) x y)
    (ap is_ok c.in_err-begin_round.was)
    (runs_begins told keeps T n J (is_ok c.begin_round.result) x c.begin_round.new.self room
    c.begin_round.ensures.told)))

pub returns-in_err-act-clause-led : goal.returns-in_err-act-clause-led
returns-in_err-act-clause-led g c = λ n J room.
    let told = g.C.Plant.told in
    let keeps = g.K.Keeper.keeps in
    let was = c.args.cell.now in
    let l = was.kept.limits in
    let T = terms_of l c.args.terms.plan.now c.args.terms.waits in
    let a = place n J Between in
    let x = state c.args.plant.now c.args.keeper.now was.kept.entries was.watches was.pending was.script was.lost in
    let y = state c.begin_round.new.self c.args.keeper.now was.kept.entries was.watches was.pending was.script was.lost
    in
    let begun = subst (λ (b : Bool). Runs told keeps T None a (place n was.kept.entries (if_reached b (Noting 0))) x y)
    (ap is_ok c.in_ok-begin_round.was)
    (runs_begins told keeps T n J (is_ok c.begin_round.result) x c.begin_round.new.self room
    c.begin_round.ensures.told) in
    let next = c.act.new.cell in
    let z = state c.act.new.plant c.act.new.keeper next.kept.entries next.watches next.pending next.script next.lost in
    runs_halted told keeps T _ _ c.act.result _ c.in_err-act.field-0.0 a (place n was.kept.entries Closing)
    (place (n + 1) was.kept.entries Between) x z c.from_residual-in_err-act.ensures.1 c.in_err-act.was
    (runs_then told keeps T (halted c.act.result) a (place n was.kept.entries (Noting 0))
    (place n was.kept.entries Closing) x y z begun (c.act.ensures.led c.args.terms.waits n was.kept.entries))

-- all are at rest
pub returns-in-Some-clause-led : goal.returns-in-Some-clause-led
returns-in-Some-clause-led g c = λ n J room minds fits.
    let told = g.C.Plant.told in
    let keeps = g.K.Keeper.keeps in
    let was = c.args.cell.now in
    let l = was.kept.limits in
    let T = terms_of l c.args.terms.plan.now c.args.terms.waits in
    let a = place n J Between in
    let x = state c.args.plant.now c.args.keeper.now was.kept.entries was.watches was.pending was.script was.lost in
    let y = state c.begin_round.new.self c.args.keeper.now was.kept.entries was.watches was.pending was.script was.lost
    in
    let begun = subst (λ (b : Bool). Runs told keeps T None a (place n was.kept.entries (if_reached b (Noting 0))) x y)
    (ap is_ok c.in_ok-begin_round.was)
    (runs_begins told keeps T n J (is_ok c.begin_round.result) x c.begin_round.new.self room
    c.begin_round.ensures.told) in
    let next = c.act.new.cell in
    let z = state c.act.new.plant c.act.new.keeper next.kept.entries next.watches next.pending next.script next.lost in
    let acted = runs_then told keeps T None a (place n was.kept.entries (Noting 0)) (place n was.kept.entries Closing) x
    y z
    begun (goes_as told keeps l c.args.terms.plan.now (halted c.act.result) None (Noting 0) Closing y z
    (ap halted c.in_ok-act.was) c.act.ensures.led c.args.terms.waits n was.kept.entries) in
    runs_rests told keeps T n was.kept.entries a (place (n + 1) was.kept.entries Between) c.in-Some.end x z acted
    (runs_unchanged told keeps T a (place n was.kept.entries Closing) x z minds fits acted
    (c.in-Some.ensures.ends.0 ∙ (c.len-before.ensures.value ∙ (ap (λ j. length j.entries) c.journal.ensures
    ∙ ap (λ (h : History). length h.entries) c.book.ensures))))
    c.in-Some.ensures.ends.1 c.in-Some.ensures.ends.2 minds fits

-- the cell is gone before the round is closed
pub returns-in_err-end_round-clause-led : goal.returns-in_err-end_round-clause-led
returns-in_err-end_round-clause-led g c = λ n J room.
    let told = g.C.Plant.told in
    let keeps = g.K.Keeper.keeps in
    let was = c.args.cell.now in
    let l = was.kept.limits in
    let T = terms_of l c.args.terms.plan.now c.args.terms.waits in
    let a = place n J Between in
    let x = state c.args.plant.now c.args.keeper.now was.kept.entries was.watches was.pending was.script was.lost in
    let y = state c.begin_round.new.self c.args.keeper.now was.kept.entries was.watches was.pending was.script was.lost
    in
    let begun = subst (λ (b : Bool). Runs told keeps T None a (place n was.kept.entries (if_reached b (Noting 0))) x y)
    (ap is_ok c.in_ok-begin_round.was)
    (runs_begins told keeps T n J (is_ok c.begin_round.result) x c.begin_round.new.self room
    c.begin_round.ensures.told) in
    let next = c.act.new.cell in
    let z = state c.act.new.plant c.act.new.keeper next.kept.entries next.watches next.pending next.script next.lost in
    let acted = runs_then told keeps T None a (place n was.kept.entries (Noting 0)) (place n was.kept.entries Closing) x
    y z
    begun (goes_as told keeps l c.args.terms.plan.now (halted c.act.result) None (Noting 0) Closing y z
    (ap halted c.in_ok-act.was) c.act.ensures.led c.args.terms.waits n was.kept.entries) in
    let u = state c.end_round.new.self c.act.new.keeper next.kept.entries next.watches next.pending next.script
    next.lost in
    subst (λ (h : Option Halt). Runs told keeps T h a (place (n + 1) was.kept.entries Between) x u)
    (sym (halted_is _ halt.Gone c.from_residual-in_err-end_round.ensures.1))
    (runs_over told keeps T halt.Gone a (place n was.kept.entries (Over halt.Gone)) (place
    (n + 1) was.kept.entries Between) x u refl
    (runs_then told keeps T None a (place n was.kept.entries Closing) (place n was.kept.entries (Over halt.Gone)) x z u
    acted
    (subst (λ (b : Bool). Runs told keeps T None (place n was.kept.entries Closing)
    (after_close (place n was.kept.entries Closing) b) z u) (ap is_ok c.in_err-end_round.was)
    (runs_closes told keeps T n was.kept.entries (is_ok c.end_round.result) z c.end_round.new.self
    (λ minds fits same settled. c.end_after.ensures.goes_on c.in_default.is
    (ap length same ∙ sym (c.len-before.ensures.value ∙ (ap (λ j. length j.entries) c.journal.ensures
    ∙ ap (λ (h : History). length h.entries) c.book.ensures))) settled minds fits)
    c.end_round.ensures.told))))

pub returns-clause-led : goal.returns-clause-led
returns-clause-led g c = λ n J room.
    let told = g.C.Plant.told in
    let keeps = g.K.Keeper.keeps in
    let was = c.args.cell.now in
    let l = was.kept.limits in
    let T = terms_of l c.args.terms.plan.now c.args.terms.waits in
    let a = place n J Between in
    let x = state c.args.plant.now c.args.keeper.now was.kept.entries was.watches was.pending was.script was.lost in
    let y = state c.begin_round.new.self c.args.keeper.now was.kept.entries was.watches was.pending was.script was.lost
    in
    let begun = subst (λ (b : Bool). Runs told keeps T None a (place n was.kept.entries (if_reached b (Noting 0))) x y)
    (ap is_ok c.in_ok-begin_round.was)
    (runs_begins told keeps T n J (is_ok c.begin_round.result) x c.begin_round.new.self room
    c.begin_round.ensures.told) in
    let next = c.act.new.cell in
    let z = state c.act.new.plant c.act.new.keeper next.kept.entries next.watches next.pending next.script next.lost in
    let acted = runs_then told keeps T None a (place n was.kept.entries (Noting 0)) (place n was.kept.entries Closing) x
    y z
    begun (goes_as told keeps l c.args.terms.plan.now (halted c.act.result) None (Noting 0) Closing y z
    (ap halted c.in_ok-act.was) c.act.ensures.led c.args.terms.waits n was.kept.entries) in
    let u = state c.end_round.new.self c.act.new.keeper next.kept.entries next.watches next.pending next.script
    next.lost in
    runs_then told keeps T None a (place n was.kept.entries Closing) (place (n + 1) was.kept.entries Between) x z u
    acted
    (subst (λ (b : Bool). Runs told keeps T None (place n was.kept.entries Closing)
    (after_close (place n was.kept.entries Closing) b) z u) (ap is_ok c.in_ok-end_round.was)
    (runs_closes told keeps T n was.kept.entries (is_ok c.end_round.result) z c.end_round.new.self
    (λ minds fits same settled. c.end_after.ensures.goes_on c.in_default.is
    (ap length same ∙ sym (c.len-before.ensures.value ∙ (ap (λ j. length j.entries) c.journal.ensures
    ∙ ap (λ (h : History). length h.entries) c.book.ensures))) settled minds fits)
    c.end_round.ensures.told))
