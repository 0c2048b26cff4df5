-- The loop over the faults
use Rattle.std.proofs.Common.{drop, take}
use Rattle.std.specs.Io.KnownBytes.{Appends}
use Rattle.cell_explain.specs.Missed.{missed_of}
use Rattle.cell_explain.proofs.endings.faults.write_faults.Given as goal

-- the faults so far are told
abbrev pub invariant-loop-fault : goal.invariant-loop-fault
invariant-loop-fault g l =
    Appends (g.W.Write.contents l.fn.writer) (g.W.Write.contents l.writer)
    (missed_of (drop l.before l.book.entries) (take l.fault-index l.fault-items))
