-- The operator rests, waits, books or fails, as his hands, his script and the step tell
use Rattle.std.proofs.Common.{sym, ap, ◌∙◌, refl}
use Rattle.cell_turns.specs.Schedules.{now}
use Rattle.operator_desk.specs.Next.{next_of}
use Rattle.cell_runs.proofs.OneRound.{act_rests, act_waits, act_books, act_fails}
use Rattle.cell_runs.proofs.steps.act.Goals as goal

pub returns-then-cell-clause-operates : goal.returns-then-cell-clause-operates
returns-then-cell-clause-operates g c = λ minds fits.
    let cell = c.args.cell.now in (
      minds,
      fits,
      act_rests cell.kept.limits c.args.plan.now (now cell.kept.entries minds) cell.script cell.lost
          c.if-cell.true,
    )

pub returns-in_default-clause-operates : goal.returns-in_default-clause-operates
returns-in_default-clause-operates g c = λ minds fits.
    let cell = c.args.cell.now in (
      minds,
      fits,
      act_waits cell.kept.limits c.args.plan.now (now cell.kept.entries minds) cell.script cell.lost
          c.if-cell.false (ap (next_of cell.script) (sym c.book.ensures) ∙ sym c.next.ensures ∙ c.in_default.is),
    )

pub returns-then-branch-clause-operates : goal.returns-then-branch-clause-operates
returns-then-branch-clause-operates g c = λ minds fits.
    let cell = c.args.cell.now in
    let next = c.take_step.new.cell in
    act_books cell.kept.limits c.args.plan.now cell.kept.entries next.kept.entries minds next.watches cell.script
    next.script c.done.new.self cell.lost next.lost c.in-Some.action c.entry_of.result c.in_ok-take_step.field-0
    c.if-cell.false (ap (next_of cell.script) (sym c.book.ensures) ∙ sym c.next.ensures ∙ c.in-Some.is)
    c.entry_of.ensures c.if-branch.true c.take_step.ensures.same.0 c.take_step.ensures.same.1 c.done.ensures
    (c.in_ok-take_step.ensures.booked minds fits c.entry_of.result refl) (c.in_ok-take_step.ensures.took minds fits)

pub returns-else-branch-clause-operates : goal.returns-else-branch-clause-operates
returns-else-branch-clause-operates g c = λ minds fits.
    let cell = c.args.cell.now in
    let next = c.take_step.new.cell in
    act_fails cell.kept.limits c.args.plan.now cell.kept.entries next.kept.entries minds next.watches cell.script
    next.script cell.lost c.in-Some.action c.entry_of.result c.in_ok-take_step.field-0
    c.if-cell.false (ap (next_of cell.script) (sym c.book.ensures) ∙ sym c.next.ensures ∙ c.in-Some.is)
    c.entry_of.ensures c.if-branch.false c.take_step.ensures.same.0
    (c.in_ok-take_step.ensures.booked minds fits c.entry_of.result refl) (c.in_ok-take_step.ensures.took minds fits)
