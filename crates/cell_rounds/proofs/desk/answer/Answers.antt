-- What was done for a wish, or wasn't, is answered
use Rattle.std.proofs.Common.{◌+◌, ap, refl, subst, sym}
use Rattle.std.specs.Prelude.{None, Some, Bool, is_ok}
use Rattle.cell_rounds.specs.Calls.{halted}
use Rattle.cell_rounds.specs.Moves.{if_reached}
use Rattle.cell_rounds.specs.Runs.{Goes, answering}
use Rattle.cell_rounds.specs.Stands.{Answering, Over, Serving, Wanted, state}
use Rattle.cell_rounds.specs.declared.progress.Halt.TheVariants as halt
use Rattle.cell_rounds.proofs.Hearing.{goes_replies}
use Rattle.cell_rounds.proofs.Moving.{goes_as, goes_halted, goes_over, goes_then, halted_is}
use Rattle.cell_rounds.proofs.desk.answer.Goals as goal

pub returns-in_err-reply-clause-led : goal.returns-in_err-reply-clause-led
returns-in_err-reply-clause-led g c = λ p n.
    let cell = c.args.cell.now in
    let next = c.reply_to.new.cell in
    goes_halted g.C.Plant.told g.K.Keeper.keeps cell.kept.limits p _ _ c.reply_to.result _ c.in_err-reply.field-0.0
    (Wanted n c.args.wish) (answering n c.reply_to.result) (Serving (n + 1))
    (state c.args.plant.now c.args.keeper.now cell.kept.entries cell.watches cell.pending cell.script cell.lost)
    (state c.reply_to.new.plant c.reply_to.new.keeper next.kept.entries next.watches next.pending next.script next.lost)
    c.from_residual.ensures.1 c.in_err-reply.was (c.reply_to.ensures.led p n)

-- the cell is gone before it is answered
pub returns-in_err-reply-2-clause-led : goal.returns-in_err-reply-2-clause-led
returns-in_err-reply-2-clause-led g c = λ p n.
    let told = g.C.Plant.told in
    let keeps = g.K.Keeper.keeps in
    let cell = c.args.cell.now in
    let next = c.reply_to.new.cell in
    let l = cell.kept.limits in
    let reply = c.in_ok-reply.reply in
    let x = state c.args.plant.now c.args.keeper.now cell.kept.entries cell.watches cell.pending cell.script cell.lost
    in
    let y = state c.reply_to.new.plant c.reply_to.new.keeper next.kept.entries next.watches next.pending next.script
    next.lost in
    let z = state c.reply.new.self c.reply_to.new.keeper next.kept.entries next.watches next.pending next.script
    next.lost in
    let did = subst (λ (r : _). Goes told keeps l p (halted r) (Wanted n c.args.wish) (answering n r) x y)
    c.in_ok-reply.was (c.reply_to.ensures.led p n) in
    let over = subst (λ (b : Bool). Goes told keeps l p None (Answering n reply) (if_reached b (Serving (n + 1))) y z)
    (ap is_ok c.in_err-reply-2.was)
    (goes_replies told keeps l p n reply (is_ok c.reply.result) y c.reply.new.self c.reply.ensures.told) in
    goes_as told keeps l p (Some halt.Gone) _ (Wanted n c.args.wish) (Serving (n + 1)) x z
    (sym (halted_is _ halt.Gone c.from_residual-in_err-reply-2.ensures.1))
    (goes_over told keeps l p halt.Gone (Wanted n c.args.wish) (Serving (n + 1)) x z
    (goes_then told keeps l p l None (Wanted n c.args.wish) (Answering n reply) (Over halt.Gone) x y z refl did over))

pub returns-clause-led : goal.returns-clause-led
returns-clause-led g c = λ p n.
    let told = g.C.Plant.told in
    let keeps = g.K.Keeper.keeps in
    let cell = c.args.cell.now in
    let next = c.reply_to.new.cell in
    let l = cell.kept.limits in
    let reply = c.in_ok-reply.reply in
    let x = state c.args.plant.now c.args.keeper.now cell.kept.entries cell.watches cell.pending cell.script cell.lost
    in
    let y = state c.reply_to.new.plant c.reply_to.new.keeper next.kept.entries next.watches next.pending next.script
    next.lost in
    let z = state c.reply.new.self c.reply_to.new.keeper next.kept.entries next.watches next.pending next.script
    next.lost in
    let did = subst (λ (r : _). Goes told keeps l p (halted r) (Wanted n c.args.wish) (answering n r) x y)
    c.in_ok-reply.was (c.reply_to.ensures.led p n) in
    let on = subst (λ (b : Bool). Goes told keeps l p None (Answering n reply) (if_reached b (Serving (n + 1))) y z)
    (ap is_ok c.in_ok-reply-2.was)
    (goes_replies told keeps l p n reply (is_ok c.reply.result) y c.reply.new.self c.reply.ensures.told) in
    goes_then told keeps l p l None (Wanted n c.args.wish) (Answering n reply) (Serving (n + 1)) x y z refl did on
