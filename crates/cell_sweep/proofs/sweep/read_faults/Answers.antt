-- The settings were read before, and the script of faults is refused whatever the operator's script is
use Rattle.cell_sweep.proofs.Steps.{faults_refused}
use Rattle.cell_sweep.proofs.sweep.read_faults.Goals as goal

pub returns-in-Err-clause-refused : goal.returns-in-Err-clause-refused
returns-in-Err-clause-refused c =
    let task = c.args.task.now in
    faults_refused task.settings.now.text.now task.operator.now c.args.text.now task.sweep.service
    task.settings.now.plan c.in-Err.error task.settings.now.read c.in-Err.ensures.exact
