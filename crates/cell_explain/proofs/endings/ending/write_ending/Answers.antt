-- The parts are told one after another, of a book that has the journal and the plan's limits
use Rattle.std.proofs.Common.{drop, subst}
use Rattle.cell_rules.specs.History.{History}
use Rattle.cell_sim.specs.Script.{next_fault}
use Rattle.operator_desk.specs.Lines.{line_of}
use Rattle.cell_explain.specs.Endings.{IsUndone, script_lines}
use Rattle.cell_explain.proofs.Whole.{always, legal-book, told-whole, with-both}
use Rattle.cell_explain.proofs.endings.ending.write_ending.Goals as goal

pub returns-clause-text : goal.returns-clause-text
returns-clause-text g c =
    let run = c.args.run.now in
    let J = run.journal.now.entries in
    let told = c.in_ok-write_operator.ensures in
    let n = told.0 in
    let at = told.1 in
    with-both c.write_faults.result (IsUndone run.operator.now (drop run.before J)) _ n at
    (subst (λ (b : History). IsUndone run.operator.now (drop run.before b.entries) n at) c.in_ok-book.ensures told.2)
    (told-whole c.write_faults.result _ J run.before run.end run.plan.now n at
    (script_lines line_of run.operator.now) (script_lines next_fault run.faults.now)
    _ _ _ _ _ _ c.in_ok-book.ensures c.in_ok-write_run.ensures c.in_ok-write_failures.ensures
    c.in_ok-write_plates.ensures told.3 c.write_faults.ensures)

pub returns-clause-legal : goal.returns-clause-legal
returns-clause-legal g c =
    always c.write_faults.result (legal-book _ c.args.run.now.journal.now.entries c.args.run.now.plan.now
    c.in_ok-book.ensures c.is_lawful.ensures.legal)
