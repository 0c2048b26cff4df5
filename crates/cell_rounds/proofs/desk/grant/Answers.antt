-- What is wanted is refused, isn't done, or is done and booked
use Rattle.std.proofs.Common.{◌≡◌, ◌∙◌, ◌+◌, ℕ, ap, refl, subst, sym}
use Rattle.std.specs.Prelude.{None, Some, length}
use Rattle.cell_types.specs.declared.words.Entry.{Entry}
use Rattle.cell_rules.specs.History.{History}
use Rattle.cell_rules.specs.Legal.{first_of}
use Rattle.cell_turns.specs.Acts.{act_of}
use Rattle.cell_plant.specs.declared.desk.Denial.TheVariants as denial
use Rattle.cell_plant.specs.declared.desk.Reply.TheVariants as reply
use Rattle.cell_plant.specs.declared.desk.Wish.TheVariants as wish
use Rattle.cell_rounds.specs.Calls.{IsKept, Misses, halted}
use Rattle.cell_rounds.specs.Moves.{Hands, entry_wanted}
use Rattle.cell_rounds.specs.Runs.{answering}
use Rattle.cell_rounds.specs.Stands.{Answering, Wanted, desk, last_of, state}
use Rattle.cell_rounds.specs.declared.progress.Halt.{Halt}
use Rattle.cell_rounds.specs.declared.progress.Halt.TheVariants as halt
use Rattle.cell_rounds.proofs.Hearing.{goes_denies}
use Rattle.cell_rounds.proofs.Moving.{goes_as, goes_halted, halted_is}
use Rattle.cell_rounds.proofs.Operating.{goes_granted, goes_missed, kept_longer, no_task, task_is}
use Rattle.cell_rounds.proofs.desk.grant.Goals as goal

-- there is an entry of each task
pub returns-in_default-clause-led : goal.returns-in_default-clause-led
returns-in_default-clause-led g c = absurd (no_task _ _ c.entry_of_task.ensures c.in_default.is)

pub returns-in-Err-clause-led : goal.returns-in-Err-clause-led
returns-in-Err-clause-led g c = λ p n.
    let cell = c.args.cell.now in
    let is : c.in-Some.entry ≡ entry_wanted cell.kept.entries c.args.task =
    task_is _ _ _ _ _ c.in-Some.is c.entry_of_task.ensures c.book.ensures in
    goes_denies g.C.Plant.told g.K.Keeper.keeps cell.kept.limits p n (wish.For c.args.task)
    (reply.Denied (denial.Book c.in-Err.why))
    (state c.args.plant.now c.args.keeper.now cell.kept.entries cell.watches cell.pending cell.script cell.lost) (
      c.in-Err.why,
      subst (λ (e : Entry). first_of cell.kept.limits cell.kept.entries e ≡ Some c.in-Err.why) is
          (subst (λ (h : History). first_of h.limits h.entries c.in-Some.entry ≡ Some c.in-Err.why) c.book-2.ensures
          c.in-Err.ensures.first),
      refl,
    )

pub returns-in_err-do_by_hand-clause-led : goal.returns-in_err-do_by_hand-clause-led
returns-in_err-do_by_hand-clause-led g c = λ p n.
    let told = g.C.Plant.told in
    let cell = c.args.cell.now in
    let l = cell.kept.limits in
    let is : c.in-Some.entry ≡ entry_wanted cell.kept.entries c.args.task =
    task_is _ _ _ _ _ c.in-Some.is c.entry_of_task.ensures c.book.ensures in
    let free = subst (λ (h : History). first_of h.limits h.entries c.in-Some.entry ≡ None) c.book-2.ensures
    c.in_default-allows.ensures.first in
    goes_as told g.K.Keeper.keeps l p (Some halt.Gone) (halted c.from_residual.result) (Wanted n (wish.For c.args.task))
    (answering n c.from_residual.result)
    (state c.args.plant.now c.args.keeper.now cell.kept.entries cell.watches cell.pending cell.script cell.lost)
    (state c.do_by_hand.new.plant c.args.keeper.now cell.kept.entries cell.watches cell.pending cell.script cell.lost)
    (sym (halted_is c.from_residual.result c.in_err-do_by_hand.field-0.0 c.from_residual.ensures.1
    ∙ ap (λ (z : Halt). Some z) c.in_err-do_by_hand.ensures.gone.0))
    (goes_missed told g.K.Keeper.keeps l p n c.args.task (Some halt.Gone)
    (state c.args.plant.now c.args.keeper.now cell.kept.entries cell.watches cell.pending cell.script cell.lost)
    c.do_by_hand.new.plant (subst (λ (e : Entry). first_of l cell.kept.entries e ≡ None) is free)
    (subst (λ (e : Entry). Misses told (act_of e) (Some halt.Gone) c.args.plant.now c.do_by_hand.new.plant) is
    c.in_err-do_by_hand.ensures.gone.1))

pub returns-then-not-branch-clause-led : goal.returns-then-not-branch-clause-led
returns-then-not-branch-clause-led g c = λ p n.
    let told = g.C.Plant.told in
    let cell = c.args.cell.now in
    let l = cell.kept.limits in
    let is : c.in-Some.entry ≡ entry_wanted cell.kept.entries c.args.task =
    task_is _ _ _ _ _ c.in-Some.is c.entry_of_task.ensures c.book.ensures in
    let free = subst (λ (h : History). first_of h.limits h.entries c.in-Some.entry ≡ None) c.book-2.ensures
    c.in_default-allows.ensures.first in
    goes_missed told g.K.Keeper.keeps l p n c.args.task None
    (state c.args.plant.now c.args.keeper.now cell.kept.entries cell.watches cell.pending cell.script cell.lost)
    c.do_by_hand.new.plant (subst (λ (e : Entry). first_of l cell.kept.entries e ≡ None) is free)
    (subst (λ (e : Entry). Misses told (act_of e) None c.args.plant.now c.do_by_hand.new.plant) is
    (c.in_ok-do_by_hand.ensures.failed c.if-not-branch.true))

pub returns-in_err-book_his-clause-led : goal.returns-in_err-book_his-clause-led
returns-in_err-book_his-clause-led g c = λ p n.
    let told = g.C.Plant.told in
    let keeps = g.K.Keeper.keeps in
    let cell = c.args.cell.now in
    let l = cell.kept.limits in
    let is : c.in-Some.entry ≡ entry_wanted cell.kept.entries c.args.task =
    task_is _ _ _ _ _ c.in-Some.is c.entry_of_task.ensures c.book.ensures in
    let free = subst (λ (h : History). first_of h.limits h.entries c.in-Some.entry ≡ None) c.book-2.ensures
    c.in_default-allows.ensures.first in
    rw (c.book_his.ensures.same.0, c.book_his.ensures.same.1, c.book_his.ensures.same.2, c.book_his.ensures.same.3)
    (goes_halted told keeps l p _ _ c.book_his.result _ c.in_err-book_his.field-0.0 (Wanted n (wish.For c.args.task))
    (Answering n (reply.Booked (length cell.kept.entries + 1))) _
    (state c.args.plant.now c.args.keeper.now cell.kept.entries cell.watches cell.pending cell.script cell.lost)
    (state c.do_by_hand.new.plant c.book_his.new.keeper c.book_his.new.cell.kept.entries cell.watches cell.pending
    cell.script cell.lost)
    c.from_residual-in_err-book_his.ensures.1 c.in_err-book_his.was
    (goes_granted told keeps l p _ n c.args.task (reply.Booked (length cell.kept.entries + 1)) c.book_his.result
    c.args.plant.now c.do_by_hand.new.plant c.args.keeper.now c.book_his.new.keeper cell.kept c.book_his.new.cell.kept
    cell.watches (last_of cell.pending) (desk cell.script cell.lost)
    (subst (λ (e : Entry). first_of l cell.kept.entries e ≡ None) is free)
    (subst (λ (e : Entry). Hands told (act_of e) c.args.plant.now c.do_by_hand.new.plant) is
    (c.in_ok-do_by_hand.ensures.done c.if-not-branch.false)) refl
    (subst (λ (e : Entry). IsKept keeps e c.book_his.result c.args.keeper.now c.book_his.new.keeper cell.kept
    c.book_his.new.cell.kept) is c.book_his.ensures.booked)))

pub returns-clause-led : goal.returns-clause-led
returns-clause-led g c = λ p n.
    let told = g.C.Plant.told in
    let keeps = g.K.Keeper.keeps in
    let cell = c.args.cell.now in
    let l = cell.kept.limits in
    let is : c.in-Some.entry ≡ entry_wanted cell.kept.entries c.args.task =
    task_is _ _ _ _ _ c.in-Some.is c.entry_of_task.ensures c.book.ensures in
    let free = subst (λ (h : History). first_of h.limits h.entries c.in-Some.entry ≡ None) c.book-2.ensures
    c.in_default-allows.ensures.first in
    rw (c.book_his.ensures.same.0, c.book_his.ensures.same.1, c.book_his.ensures.same.2, c.book_his.ensures.same.3)
    (goes_as told keeps l p (halted c.book_his.result) None _ _ _ _ (ap halted c.in_ok-book_his.was)
    (goes_granted told keeps l p _ n c.args.task _ c.book_his.result
    c.args.plant.now c.do_by_hand.new.plant c.args.keeper.now c.book_his.new.keeper cell.kept c.book_his.new.cell.kept
    cell.watches (last_of cell.pending) (desk cell.script cell.lost)
    (subst (λ (e : Entry). first_of l cell.kept.entries e ≡ None) is free)
    (subst (λ (e : Entry). Hands told (act_of e) c.args.plant.now c.do_by_hand.new.plant) is
    (c.in_ok-do_by_hand.ensures.done c.if-not-branch.false)) (ap (λ (k : ℕ). reply.Booked k) (c.len.ensures.value
    ∙ (ap (λ j. length j.entries) c.journal.ensures ∙ (ap (λ (h : History). length h.entries) c.book-3.ensures
    ∙ kept_longer keeps c.in-Some.entry c.book_his.result _ c.args.keeper.now c.book_his.new.keeper cell.kept
    c.book_his.new.cell.kept c.in_ok-book_his.was c.book_his.ensures.booked))))
    (subst (λ (e : Entry). IsKept keeps e c.book_his.result c.args.keeper.now c.book_his.new.keeper cell.kept
    c.book_his.new.cell.kept) is c.book_his.ensures.booked)))
