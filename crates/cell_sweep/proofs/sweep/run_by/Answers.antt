-- A run that goes on from the one without faults is by the operator's script, which is the script where nobody serves
use Rattle.std.proofs.Common.{◌≡◌, ℕ, List, IfSome, Option, false, subst, sym}
use Rattle.cell_sweep.specs.Rows.{RunsTo}
use Rattle.cell_sweep.specs.declared.runs.Ran.{Ran}
use Rattle.cell_sweep.proofs.sweep.run_by.Goals as goal

pub returns-in-Some-clause-ran : goal.returns-in-Some-clause-ran
returns-in-Some-clause-ran c =
    let task = c.args.task.now in
    let settings = task.settings.now.text.now in
    let faults = c.args.faults.now.text.now in
    let ran = c.in-Some.ran in
    let here = subst (λ (made : Option Ran). IfSome made (λ ran. RunsTo settings faults task.operator.now ran.plan
    ran.outcome.book.entries ran.outcome.end)) c.in-Some.is c.in_ok-ran.ensures.ran in
    let alone = subst (λ (made : Option Ran). IfSome made (λ ran. task.sweep.service ≡ false)) c.in-Some.is
    c.in_ok-ran.ensures.service in
    subst (λ (o : List ℕ). RunsTo settings faults o ran.plan ran.outcome.book.entries ran.outcome.end)
    (sym (c.requires.script alone)) here
