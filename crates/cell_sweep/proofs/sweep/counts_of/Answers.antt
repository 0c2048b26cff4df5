-- The motions are counted in the journal of the run without faults
use Rattle.std.proofs.Common.{◌∙◌, List, [], ap, arith, refl, subst, ℕ}
use Rattle.cell_explain.specs.Missed.{motions_of}
use Rattle.cell_journal.specs.Stored.{Stored}
use Rattle.cell_sweep.specs.Rows.{RunsTo}
use Rattle.cell_sweep.proofs.Steps.{counted-by-run, some_refused_by}
use Rattle.cell_sweep.proofs.sweep.counts_of.Goals as goal

pub returns-clause-counts : goal.returns-clause-counts
returns-clause-counts c =
    let ran = c.in-Ok-run_served.served.0 in
    counted-by-run _ _ c.in-Ok-run_served.served.1.items _ c.args.task.now.sweep.motions _ _ _ _ c.in_default.not-Some
    c.in-Ok-run_served.ensures.script
    (subst (λ (fs : List ℕ). RunsTo c.args.task.now.settings.now.text.now fs c.in-Ok-run_served.served.1.items ran.plan
    ran.outcome.book.entries ran.outcome.end) c.in-Ok.ensures.text c.in-Ok-run_served.ensures.ran)
    (λ a. c.motions.ensures a ∙ ap (λ (s : Stored). motions_of s.entries a) c.journal.ensures)

pub returns-in-Err-run_served-clause-refused : goal.returns-in-Err-run_served-clause-refused
returns-in-Err-run_served-clause-refused c =
    some_refused_by _ _ c.in-Ok.faults.text.now [] c.args.task.now.sweep.choice _ c.in-Err-run_served.why
    ([], omega arith, refl) c.in-Ok.ensures.text
    c.in-Err-run_served.ensures.refused
