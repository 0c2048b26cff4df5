-- Each wish is heard, done or not, and answered
use Rattle.std.proofs.Common.{rules, tests, ◌≡◌, ◌+◌, ◌∙◌, ap, refl, sym}
use Rattle.std.specs.Prelude.{None}
use Rattle.cell_rounds.specs.Calls.{halted}
use Rattle.cell_rounds.specs.Moves.{after_wish, most_heard}
use Rattle.cell_rounds.specs.Stands.{Closing, Serving, Wanted, state}
use Rattle.cell_rounds.proofs.Hearing.{goes_asked, goes_asks}
use Rattle.cell_rounds.proofs.Moving.{goes_as, goes_halted, goes_nothing, goes_then}
use Rattle.cell_rounds.proofs.desk.serve.Goals as goal

pub loop-count-init : goal.loop-count-init
loop-count-init g c =
    let cell = c.args.cell.now in
    record {
      machines = c.requires;
      limits = refl;
      led = λ p. goes_nothing g.C.Plant.told g.K.Keeper.keeps cell.kept.limits p (Serving 0)
          (state c.args.plant.now c.args.keeper.now cell.kept.entries cell.watches cell.pending cell.script cell.lost);
    }

-- nothing more is heard
pub returns-in_default-clause-led : goal.returns-in_default-clause-led
returns-in_default-clause-led g c = λ p.
    let told = g.C.Plant.told in
    let keeps = g.K.Keeper.keeps in
    let was = c.args.cell.now in
    let so = c.loop-count in
    let l = was.kept.limits in
    let x = state c.args.plant.now c.args.keeper.now was.kept.entries was.watches was.pending was.script was.lost in
    let y = state so.plant so.keeper so.cell.kept.entries so.cell.watches so.cell.pending so.cell.script so.cell.lost in
    goes_then told keeps l p l None (Serving 0) (Serving so._count) Closing x y _ refl (so.invariant.led p)
    (goes_asks told keeps l p so._count c.wish.result Closing y c.wish.new.self
    (sym (ap (after_wish so._count) c.in_default.is)) c.wish.ensures.told)

-- what is heard halts the run
pub returns-in_err-answer-clause-led : goal.returns-in_err-answer-clause-led
returns-in_err-answer-clause-led g c = λ p.
    let told = g.C.Plant.told in
    let keeps = g.K.Keeper.keeps in
    let was = c.args.cell.now in
    let so = c.loop-count in
    let next = c.answer.new.cell in
    let l = was.kept.limits in
    let n = so._count in
    let x = state c.args.plant.now c.args.keeper.now was.kept.entries was.watches was.pending was.script was.lost in
    let y = state so.plant so.keeper so.cell.kept.entries so.cell.watches so.cell.pending so.cell.script so.cell.lost in
    let z = state c.wish.new.self so.keeper so.cell.kept.entries so.cell.watches so.cell.pending so.cell.script
    so.cell.lost in
    let u = state c.answer.new.plant c.answer.new.keeper next.kept.entries next.watches next.pending next.script
    next.lost in
    let heard = goes_asks told keeps l p n c.wish.result (Wanted n c.in-Some.wish) y c.wish.new.self
    (sym (ap (after_wish n) c.in-Some.is)) c.wish.ensures.told in
    goes_halted told keeps l p _ _ c.answer.result _ c.in_err-answer.field-0.0 (Serving 0) (Serving (n + 1)) Closing x u
    c.from_residual.ensures.1 c.in_err-answer.was
    (goes_then told keeps l p so.cell.kept.limits (halted c.answer.result) (Serving 0) (Wanted n c.in-Some.wish)
    (Serving (n + 1))
    x z u so.invariant.limits
    (goes_then told keeps l p l None (Serving 0) (Serving n) (Wanted n c.in-Some.wish) x y z refl
    (so.invariant.led p) heard)
    (c.answer.ensures.led p n))

pub loop-count-preserved : goal.loop-count-preserved
loop-count-preserved g c =
    let told = g.C.Plant.told in
    let keeps = g.K.Keeper.keeps in
    let was = c.args.cell.now in
    let so = c.loop-count in
    let next = c.answer.new.cell in
    let l = was.kept.limits in
    let n = so._count in
    let x = state c.args.plant.now c.args.keeper.now was.kept.entries was.watches was.pending was.script was.lost in
    let y = state so.plant so.keeper so.cell.kept.entries so.cell.watches so.cell.pending so.cell.script so.cell.lost in
    let z = state c.wish.new.self so.keeper so.cell.kept.entries so.cell.watches so.cell.pending so.cell.script
    so.cell.lost in
    let u = state c.answer.new.plant c.answer.new.keeper next.kept.entries next.watches next.pending next.script
    next.lost in
    record {
      machines = c.answer.ensures.machines;
      limits = c.answer.ensures.limits ∙ so.invariant.limits;
      led = λ p.
          goes_then told keeps l p so.cell.kept.limits None (Serving 0) (Wanted n c.in-Some.wish) (Serving
          (n + 1)) x z u
          so.invariant.limits
          (goes_then told keeps l p l None (Serving 0) (Serving n) (Wanted n c.in-Some.wish) x y z refl
          (so.invariant.led p)
          (goes_asks told keeps l p n c.wish.result (Wanted n c.in-Some.wish) y c.wish.new.self
          (sym (ap (after_wish n) c.in-Some.is)) c.wish.ensures.told))
          (goes_as told keeps so.cell.kept.limits p (halted c.answer.result) None (Wanted n c.in-Some.wish)
          (Serving (n + 1)) z u (ap halted c.in_ok-answer.was) (c.answer.ensures.led p n));
    }

-- no more than so much is heard
pub returns-clause-led : goal.returns-clause-led
returns-clause-led g c = λ p.
    let told = g.C.Plant.told in
    let keeps = g.K.Keeper.keeps in
    let was = c.args.cell.now in
    let so = c.loop-count in
    let l = was.kept.limits in
    let x = state c.args.plant.now c.args.keeper.now was.kept.entries was.watches was.pending was.script was.lost in
    let y = state so.plant so.keeper so.cell.kept.entries so.cell.watches so.cell.pending so.cell.script so.cell.lost in
    let all : so._count ≡ most_heard = search (rules, tests) in
    goes_then told keeps l p l None (Serving 0) (Serving so._count) Closing x y y refl (so.invariant.led p)
    (goes_asked told keeps l p so._count y all)
