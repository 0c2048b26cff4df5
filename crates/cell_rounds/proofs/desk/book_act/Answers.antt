-- What was done is refused, or it is booked
use Rattle.std.proofs.Common.{◌≡◌, subst}
use Rattle.std.specs.Prelude.{None, Some}
use Rattle.cell_types.specs.declared.words.Entry.{Entry}
use Rattle.cell_rules.specs.History.{History}
use Rattle.cell_rules.specs.Legal.{first_of}
use Rattle.cell_rounds.specs.Calls.{IsKept}
use Rattle.cell_rounds.specs.Moves.{entry_wanted}
use Rattle.cell_rounds.specs.Stands.{desk, last_of, state}
use Rattle.cell_rounds.proofs.Hearing.{goes_rejects}
use Rattle.cell_rounds.proofs.Operating.{goes_noted, no_task, task_is}
use Rattle.cell_rounds.proofs.desk.book_act.Goals as goal

-- there is an entry of each task
pub returns-in_default-clause-led : goal.returns-in_default-clause-led
returns-in_default-clause-led g c = absurd (no_task _ _ c.entry_of_task.ensures c.in_default.is)

pub returns-in-Err-clause-led : goal.returns-in-Err-clause-led
returns-in-Err-clause-led g c = λ p n.
    let cell = c.args.cell.now in
    let is : c.in-Some.entry ≡ entry_wanted cell.kept.entries c.args.task =
    task_is _ _ _ _ _ c.in-Some.is c.entry_of_task.ensures c.book.ensures in
    goes_rejects g.C.Plant.told g.K.Keeper.keeps cell.kept.limits p n c.args.task c.in-Err.why
    (state c.args.plant.now c.args.keeper.now cell.kept.entries cell.watches cell.pending cell.script cell.lost)
    c.refuse_act.new.self
    (subst (λ (e : Entry). first_of cell.kept.limits cell.kept.entries e ≡ Some c.in-Err.why) is
    (subst (λ (h : History). first_of h.limits h.entries c.in-Some.entry ≡ Some c.in-Err.why) c.book-2.ensures
    c.in-Err.ensures.first))
    c.refuse_act.ensures.told

pub returns-clause-led : goal.returns-clause-led
returns-clause-led g c = λ p n.
    let cell = c.args.cell.now in
    let l = cell.kept.limits in
    let is : c.in-Some.entry ≡ entry_wanted cell.kept.entries c.args.task =
    task_is _ _ _ _ _ c.in-Some.is c.entry_of_task.ensures c.book.ensures in
    let free = subst (λ (h : History). first_of h.limits h.entries c.in-Some.entry ≡ None) c.book-2.ensures
    c.in_default-allows.ensures.first in
    rw (c.book_his.ensures.same.0, c.book_his.ensures.same.1, c.book_his.ensures.same.2, c.book_his.ensures.same.3)
    (goes_noted g.C.Plant.told g.K.Keeper.keeps l p _ n c.args.task c.book_his.result c.args.plant.now c.args.keeper.now
    c.book_his.new.keeper cell.kept c.book_his.new.cell.kept cell.watches (last_of cell.pending)
    (desk cell.script cell.lost)
    (subst (λ (e : Entry). first_of l cell.kept.entries e ≡ None) is free)
    (subst (λ (e : Entry). IsKept g.K.Keeper.keeps e c.book_his.result c.args.keeper.now c.book_his.new.keeper cell.kept
    c.book_his.new.cell.kept) is c.book_his.ensures.booked))
