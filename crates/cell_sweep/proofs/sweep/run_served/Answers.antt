-- The run is by the script that serves, or the operator's
use Rattle.std.proofs.Common.{List, subst, ℕ}
use Rattle.cell_sweep.specs.Rows.{RunsTo}
use Rattle.cell_sweep.proofs.sweep.run_served.Goals as goal

pub returns-clause-ran : goal.returns-clause-ran
returns-clause-ran c =
    let ran = c.in_ok-ran.ran in
    subst (λ (s : List ℕ). RunsTo c.args.task.now.settings.now.text.now c.args.faults.now.text.now s ran.plan
    ran.outcome.book.entries ran.outcome.end) c.as_slice.ensures.value c.in_ok-ran.ensures.ran
