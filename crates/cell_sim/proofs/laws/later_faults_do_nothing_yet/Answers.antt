-- No command begins a motion with a fault
use Rattle.cell_sim.proofs.Later.{same_failure, same_world}
use Rattle.cell_sim.proofs.laws.later_faults_do_nothing_yet.Goals as goal

pub returns-clause-world : goal.returns-clause-world
returns-clause-world c = same_world

pub returns-clause-fails : goal.returns-clause-fails
returns-clause-fails c = same_failure
