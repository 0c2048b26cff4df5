-- The loop over the faults
use Rattle.std.proofs.Common.{take}
use Rattle.std.specs.Io.KnownBytes.{Appends}
use Rattle.std.specs.List.{flat_map}
use Rattle.cell_sweep.specs.Rows.{fault_fields}
use Rattle.cell_sweep.proofs.print.write_each_fault.Given as goal

-- the fields of the faults so far are written
abbrev pub invariant-loop-fault : goal.invariant-loop-fault
invariant-loop-fault g l =
    Appends (g.W.Write.contents l.fn.writer) (g.W.Write.contents l.writer)
    (flat_map fault_fields (take l.fault-index l.faults))
