-- Each act is heard, and booked or refused
use Rattle.std.proofs.Common.{rules, tests, ◌≡◌, ◌+◌, ◌∙◌, ap, refl, sym}
use Rattle.std.specs.Prelude.{None}
use Rattle.cell_types.specs.Texts.{all_machine}
use Rattle.cell_rounds.specs.Calls.{halted}
use Rattle.cell_rounds.specs.Moves.{after_act, most_heard}
use Rattle.cell_rounds.specs.Stands.{Noted, Noting, Turning, state}
use Rattle.cell_rounds.proofs.Hearing.{goes_heard, goes_hears}
use Rattle.cell_rounds.proofs.Moving.{goes_as, goes_halted, goes_nothing, goes_then}
use Rattle.cell_rounds.proofs.desk.book_acts.Goals as goal

pub loop-count-init : goal.loop-count-init
loop-count-init g c =
    let cell = c.args.cell.now in
    record {
      machines = c.requires;
      limits = refl;
      led = λ p. goes_nothing g.C.Plant.told g.K.Keeper.keeps cell.kept.limits p (Noting 0)
          (state c.args.plant.now c.args.keeper.now cell.kept.entries cell.watches cell.pending cell.script cell.lost);
    }

-- nothing more is heard
pub returns-in_default-clause-led : goal.returns-in_default-clause-led
returns-in_default-clause-led g c = λ p.
    let told = g.C.Plant.told in
    let keeps = g.K.Keeper.keeps in
    let was = c.args.cell.now in
    let so = c.loop-count in
    let l = was.kept.limits in
    let x = state c.args.plant.now c.args.keeper.now was.kept.entries was.watches was.pending was.script was.lost in
    let y = state so.plant so.keeper so.cell.kept.entries so.cell.watches so.cell.pending so.cell.script so.cell.lost in
    goes_then told keeps l p l None (Noting 0) (Noting so._count) (Turning all_machine) x y _ refl (so.invariant.led p)
    (goes_hears told keeps l p so._count c.act_done.result (Turning all_machine) y c.act_done.new.self
    (sym (ap (after_act so._count) c.in_default.is)) c.act_done.ensures.told)

-- what is heard halts the run
pub returns-in_err-book_act-clause-led : goal.returns-in_err-book_act-clause-led
returns-in_err-book_act-clause-led g c = λ p.
    let told = g.C.Plant.told in
    let keeps = g.K.Keeper.keeps in
    let was = c.args.cell.now in
    let so = c.loop-count in
    let next = c.book_act.new.cell in
    let l = was.kept.limits in
    let n = so._count in
    let x = state c.args.plant.now c.args.keeper.now was.kept.entries was.watches was.pending was.script was.lost in
    let y = state so.plant so.keeper so.cell.kept.entries so.cell.watches so.cell.pending so.cell.script so.cell.lost in
    let z = state c.act_done.new.self so.keeper so.cell.kept.entries so.cell.watches so.cell.pending so.cell.script
    so.cell.lost in
    let u = state c.book_act.new.plant c.book_act.new.keeper next.kept.entries next.watches next.pending next.script
    next.lost in
    let heard = goes_hears told keeps l p n c.act_done.result (Noted n c.in-Some.task) y c.act_done.new.self
    (sym (ap (after_act n) c.in-Some.is)) c.act_done.ensures.told in
    goes_halted told keeps l p _ _ c.book_act.result _ c.in_err-book_act.field-0.0 (Noting 0) (Noting (n + 1))
    (Turning all_machine) x u
    c.from_residual.ensures.1 c.in_err-book_act.was
    (goes_then told keeps l p so.cell.kept.limits (halted c.book_act.result) (Noting 0) (Noted n c.in-Some.task) (Noting
    (n + 1))
    x z u so.invariant.limits
    (goes_then told keeps l p l None (Noting 0) (Noting n) (Noted n c.in-Some.task) x y z refl
    (so.invariant.led p) heard)
    (c.book_act.ensures.led p n))

pub loop-count-preserved : goal.loop-count-preserved
loop-count-preserved g c =
    let told = g.C.Plant.told in
    let keeps = g.K.Keeper.keeps in
    let was = c.args.cell.now in
    let so = c.loop-count in
    let next = c.book_act.new.cell in
    let l = was.kept.limits in
    let n = so._count in
    let x = state c.args.plant.now c.args.keeper.now was.kept.entries was.watches was.pending was.script was.lost in
    let y = state so.plant so.keeper so.cell.kept.entries so.cell.watches so.cell.pending so.cell.script so.cell.lost in
    let z = state c.act_done.new.self so.keeper so.cell.kept.entries so.cell.watches so.cell.pending so.cell.script
    so.cell.lost in
    let u = state c.book_act.new.plant c.book_act.new.keeper next.kept.entries next.watches next.pending next.script
    next.lost in
    record {
      machines = c.book_act.ensures.machines;
      limits = c.book_act.ensures.limits ∙ so.invariant.limits;
      led = λ p.
          goes_then told keeps l p so.cell.kept.limits None (Noting 0) (Noted n c.in-Some.task) (Noting (n + 1)) x z u
          so.invariant.limits
          (goes_then told keeps l p l None (Noting 0) (Noting n) (Noted n c.in-Some.task) x y z refl
          (so.invariant.led p)
          (goes_hears told keeps l p n c.act_done.result (Noted n c.in-Some.task) y c.act_done.new.self
          (sym (ap (after_act n) c.in-Some.is)) c.act_done.ensures.told))
          (goes_as told keeps so.cell.kept.limits p (halted c.book_act.result) None (Noted n c.in-Some.task)
          (Noting (n + 1)) z u (ap halted c.in_ok-book_act.was) (c.book_act.ensures.led p n));
    }

-- no more than so much is heard
pub returns-clause-led : goal.returns-clause-led
returns-clause-led g c = λ p.
    let told = g.C.Plant.told in
    let keeps = g.K.Keeper.keeps in
    let was = c.args.cell.now in
    let so = c.loop-count in
    let l = was.kept.limits in
    let x = state c.args.plant.now c.args.keeper.now was.kept.entries was.watches was.pending was.script was.lost in
    let y = state so.plant so.keeper so.cell.kept.entries so.cell.watches so.cell.pending so.cell.script so.cell.lost in
    let all : so._count ≡ most_heard = search (rules, tests) in
    goes_then told keeps l p l None (Noting 0) (Noting so._count) (Turning all_machine) x y y refl (so.invariant.led p)
    (goes_heard told keeps l p so._count y all)
