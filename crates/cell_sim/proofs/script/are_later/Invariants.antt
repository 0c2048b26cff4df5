-- The loop that searches for a fault that isn't later
use Rattle.std.proofs.Common.{◌≡◌, drop}
use Rattle.cell_sim.specs.Script.{are_later}
use Rattle.cell_sim.proofs.script.are_later.Given as goal

-- all faults so far are later, so whether all are is whether those left are
abbrev pub invariant-loop-fault : goal.invariant-loop-fault
invariant-loop-fault l = are_later l.latest (drop l.fault-index l.faults) ≡ are_later l.latest l.faults
