-- What the three texts say was read before, but for the operator's script, which is read here
use Rattle.cell_sweep.proofs.Steps.{runs_to}
use Rattle.cell_sweep.proofs.runs.run_alone.Goals as goal

pub returns-in-Ok-2-clause-ran : goal.returns-in-Ok-2-clause-ran
returns-in-Ok-2-clause-ran c =
    runs_to c.args.settings.now.text.now c.args.faults.now.text.now c.args.operator.now c.args.settings.now.plan
    c.args.faults.now.script c.in-Ok.script _ _ _ _ _ c.args.settings.now.read c.args.faults.now.read
    c.in-Ok.ensures.exact c.new-world.ensures c.new-cell.ensures c.in-Ok-simulate.ensures.simulated
