-- What the texts say was read before, and the run goes on as one from the opening
use Rattle.std.proofs.Common.{◌∙◌, [], refl, subst, sym}
use Rattle.std.specs.Prelude.{IfSome, Option}
use Rattle.cell_ports.specs.declared.plan.Plan.{Plan}
use Rattle.cell_settings.specs.Settings.{plan_numbers}
use Rattle.cell_sim.specs.Simulated.{opening_with}
use Rattle.sim_plant.specs.Answers.{SimCell, sim_cell}
use Rattle.cell_runs.specs.Cells.{IsSimulated}
use Rattle.cell_runs.specs.Inputs.{AreSettings}
use Rattle.cell_runs.specs.Runs.{limits_of}
use Rattle.cell_runs.specs.declared.rounds.Outcome.{Outcome}
use Rattle.cell_branches.specs.declared.trunk.Branch.{Branch}
use Rattle.cell_sweep.specs.Rows.{RunsTo}
use Rattle.cell_sweep.proofs.Steps.{runs_to}
use Rattle.cell_sweep.proofs.shared.Shared.with_faults.Goals as goal

pub returns-in_ok-ran-in-Some-clause-ran : goal.returns-in_ok-ran-in-Some-clause-ran
returns-in_ok-ran-in-Some-clause-ran c =
    let self = c.args.self.now in
    let settings = self.settings.now in
    let faults = c.args.faults.now in
    let trunk = self.trunk in
    let branch = c.in-Some.branch in
    let ran = c.in_ok-ran-in-Some.field-0 in
    let cell = sim_cell (opening_with trunk.plan.plates) faults.script in
    let (left, run) = subst (λ (made : Option Branch). IfSome made (λ b. (left : SimCell)
    × IsSimulated (limits_of trunk.plan) trunk.plan cell [] trunk.script left b.outcome.book.entries b.outcome.end))
    c.in-Some.is c.in_ok-branch.ensures in
    let say = subst (λ (p : Plan). AreSettings settings.text.now (plan_numbers p)) (sym self.plan) settings.read in
    let made = runs_to settings.text.now faults.text.now self.operator.now trunk.plan faults.script trunk.script
    (opening_with trunk.plan.plates) cell left branch.outcome.book.entries branch.outcome.end say faults.read
    self.script refl refl run in
    subst (λ (p : Plan). RunsTo settings.text.now faults.text.now self.operator.now p ran.outcome.book.entries
    ran.outcome.end) (self.plan ∙ sym c.in_ok-ran-in-Some.ensures.plan)
    (subst (λ (o : Outcome). RunsTo settings.text.now faults.text.now self.operator.now trunk.plan o.book.entries o.end)
    (sym c.in_ok-ran-in-Some.ensures.outcome) made)
