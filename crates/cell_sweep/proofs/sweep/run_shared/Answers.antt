-- The texts of the run without faults are those of the task
use Rattle.std.proofs.Common.{◌≡◌, ℕ, List, IfOk, IfSome, Option, subst}
use Rattle.std.specs.Borrow.{Bor}
use Rattle.cell_sweep.specs.Rows.{RunsTo}
use Rattle.cell_sweep.specs.declared.shared.Shared.{Shared}
use Rattle.cell_sweep.proofs.sweep.run_shared.Goals as goal

pub returns-in-Some-clause-ran : goal.returns-in-Some-clause-ran
returns-in-Some-clause-ran c =
    let task = c.args.task.now in
    let faults = c.args.faults.now.text.now in
    let (same, alike) = subst (λ (kept : Option (Bor Shared)). IfSome kept (λ s. (s.now.settings.now.text.now
    ≡ task.settings.now.text.now) × (s.now.operator.now ≡ task.operator.now))) c.in-Some.is task.by_these in
    subst (λ (t : List ℕ). IfOk c.with_faults.result (λ made. IfSome made (λ ran. RunsTo t faults task.operator.now
    ran.plan ran.outcome.book.entries ran.outcome.end))) same
    (subst (λ (o : List ℕ). IfOk c.with_faults.result (λ made. IfSome made (λ ran.
    RunsTo c.in-Some.shared.now.settings.now.text.now faults o ran.plan ran.outcome.book.entries ran.outcome.end)))
    alike c.with_faults.ensures.ran)
