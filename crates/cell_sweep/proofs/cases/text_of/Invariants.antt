-- The loop over the faults
use Rattle.std.proofs.Common.{◌≡◌, take}
use Rattle.cell_sweep.specs.Cases.{text_of}
use Rattle.cell_sweep.proofs.cases.text_of.Given as goal

-- the records of the faults so far are written
abbrev pub invariant-loop-fault : goal.invariant-loop-fault
invariant-loop-fault l = l.text.items ≡ text_of (take l.fault-index l.faults)
