-- The operator rests, waits, fails, or does what his script says next
use Rattle.std.proofs.Common.{◌∙◌, [], ap, inl, inr, sym}
use Rattle.std.specs.Prelude.{None, Some}
use Rattle.operator_desk.specs.Next.{next_of}
use Rattle.cell_rounds.specs.Calls.{halted}
use Rattle.cell_rounds.specs.Stands.{Serving, Turning, last_of, state}
use Rattle.cell_rounds.specs.declared.progress.Halt.{Halt}
use Rattle.cell_rounds.specs.declared.progress.Halt.TheVariants as halt
use Rattle.cell_rounds.proofs.Hearing.{goes_idle}
use Rattle.cell_rounds.proofs.Moving.{goes_as, halted_is}
use Rattle.cell_rounds.proofs.Operating.{goes_done, goes_failed}
use Rattle.cell_rounds.proofs.Scripts.{action_free, action_his}
use Rattle.cell_rounds.proofs.hands.operate.Goals as goal

-- his hands failed before
pub returns-then-cell-clause-led : goal.returns-then-cell-clause-led
returns-then-cell-clause-led g c = λ p.
    let cell = c.args.cell.now in
    goes_idle g.C.Plant.told g.K.Keeper.keeps cell.kept.limits p
    (state c.args.plant.now c.args.keeper.now cell.kept.entries cell.watches cell.pending cell.script cell.lost)
    (inl c.if-cell.true)

-- his script has nothing to do now
pub returns-in_default-clause-led : goal.returns-in_default-clause-led
returns-in_default-clause-led g c = λ p.
    let cell = c.args.cell.now in
    goes_idle g.C.Plant.told g.K.Keeper.keeps cell.kept.limits p
    (state c.args.plant.now c.args.keeper.now cell.kept.entries cell.watches cell.pending cell.script cell.lost)
    (inr (ap (next_of cell.script) (sym c.book.ensures) ∙ (sym c.next.ensures ∙ c.in_default.is)))

pub returns-in_err-do_by_hand-clause-led : goal.returns-in_err-do_by_hand-clause-led
returns-in_err-do_by_hand-clause-led g c = λ p.
    let told = g.C.Plant.told in
    let keeps = g.K.Keeper.keeps in
    let cell = c.args.cell.now in
    let l = cell.kept.limits in
    let a = c.in-Some.action in
    let next = ap (next_of cell.script) (sym c.book.ensures) ∙ (sym c.next.ensures ∙ c.in-Some.is) in
    goes_as told keeps l p (Some halt.Gone) (halted c.from_residual.result) (Turning []) (Serving 0)
    (state c.args.plant.now c.args.keeper.now cell.kept.entries cell.watches cell.pending cell.script cell.lost)
    (state c.do_by_hand.new.plant c.args.keeper.now cell.kept.entries cell.watches cell.pending cell.script cell.lost)
    (sym (halted_is c.from_residual.result c.in_err-do_by_hand.field-0.0 c.from_residual.ensures.1
    ∙ ap (λ (z : Halt). Some z) c.in_err-do_by_hand.ensures.gone.0))
    (goes_failed told keeps l p a (Some halt.Gone)
    (state c.args.plant.now c.args.keeper.now cell.kept.entries cell.watches cell.pending cell.script cell.lost)
    c.do_by_hand.new.plant c.if-cell.false next (action_his a) (action_free cell.script cell.kept a next)
    (rw (sym c.entry_of-entry.ensures) c.in_err-do_by_hand.ensures.gone.1))

pub returns-then-not-branch-clause-led : goal.returns-then-not-branch-clause-led
returns-then-not-branch-clause-led g c = λ p.
    let told = g.C.Plant.told in
    let keeps = g.K.Keeper.keeps in
    let cell = c.args.cell.now in
    let l = cell.kept.limits in
    let a = c.in-Some.action in
    let next = ap (next_of cell.script) (sym c.book.ensures) ∙ (sym c.next.ensures ∙ c.in-Some.is) in
    goes_failed told keeps l p a None
    (state c.args.plant.now c.args.keeper.now cell.kept.entries cell.watches cell.pending cell.script cell.lost)
    c.do_by_hand.new.plant c.if-cell.false next (action_his a) (action_free cell.script cell.kept a next)
    (rw (sym c.entry_of-entry.ensures) (c.in_ok-do_by_hand.ensures.failed c.if-not-branch.true))

pub returns-clause-led : goal.returns-clause-led
returns-clause-led g c = λ p.
    let told = g.C.Plant.told in
    let keeps = g.K.Keeper.keeps in
    let cell = c.args.cell.now in
    let l = cell.kept.limits in
    let a = c.in-Some.action in
    let next = ap (next_of cell.script) (sym c.book.ensures) ∙ (sym c.next.ensures ∙ c.in-Some.is) in
    rw (
      c.book_his.ensures.same.0,
      c.book_his.ensures.same.1,
      c.book_his.ensures.same.2,
      c.book_his.ensures.same.3,
      c.done.ensures,
      c.if-cell.false,
    )
    (goes_done told keeps l p _ a c.book_his.result c.args.plant.now c.do_by_hand.new.plant c.args.keeper.now
    c.book_his.new.keeper cell.kept c.book_his.new.cell.kept cell.watches (last_of cell.pending) cell.script
    next (action_his a) (action_free cell.script cell.kept a next)
    (rw (sym c.entry_of-entry.ensures) (c.in_ok-do_by_hand.ensures.done c.if-not-branch.false))
    (rw (sym c.entry_of-entry.ensures) c.book_his.ensures.booked))
