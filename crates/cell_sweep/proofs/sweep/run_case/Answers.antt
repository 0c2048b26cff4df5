-- The run and the row are by one script of the operator and by the script of the run's faults
use Rattle.std.proofs.Common.{◌∙◌, List, ap, refl, subst, ℕ}
use Rattle.cell_sweep.specs.Cases.{text_of}
use Rattle.cell_sweep.specs.Rows.{RunsTo}
use Rattle.cell_sweep.proofs.Steps.{served-of, some_refused_by}
use Rattle.cell_sweep.proofs.sweep.run_case.Goals as goal

pub returns-clause-told : goal.returns-clause-told
returns-clause-told c =
    let ran = c.in-Ok-run_served.served.0 in
    let is_text = c.as_slice-text.ensures.value ∙ c.in_ok-script.ensures ∙ ap text_of c.as_slice.ensures.value in
    served-of _ _ _ _ c.in-Ok-run_served.served.1.items _ _ c.args.faults.items _ _ _ _ refl
    c.as_slice-3.ensures.value
    c.in-Ok-run_served.ensures.script c.in_ok-row.ensures.faults is_text
    (subst (λ (fs : List ℕ). RunsTo c.args.task.now.settings.now.text.now fs c.in-Ok-run_served.served.1.items ran.plan
    ran.outcome.book.entries ran.outcome.end) c.in-Ok.ensures.text c.in-Ok-run_served.ensures.ran)
    c.in_ok-row.ensures.told

pub returns-in-Err-clause-refused : goal.returns-in-Err-clause-refused
returns-in-Err-clause-refused c =
    some_refused_by _ _ c.as_slice-text.result.now (text_of c.args.faults.items)
    c.args.task.now.sweep.choice _ c.in-Err.why (c.args.faults.items, c.requires.inside, refl)
    (c.as_slice-text.ensures.value ∙ c.in_ok-script.ensures ∙ ap text_of c.as_slice.ensures.value)
    c.in-Err.ensures.refused

pub returns-in-Err-run_served-clause-refused : goal.returns-in-Err-run_served-clause-refused
returns-in-Err-run_served-clause-refused c =
    let is_text = c.as_slice-text.ensures.value ∙ c.in_ok-script.ensures ∙ ap text_of c.as_slice.ensures.value in
    some_refused_by _ _ c.in-Ok.read.text.now (text_of c.args.faults.items)
    c.args.task.now.sweep.choice _ c.in-Err-run_served.why (c.args.faults.items, c.requires.inside, refl)
    (c.in-Ok.ensures.text ∙ is_text) c.in-Err-run_served.ensures.refused
