-- What is told of a fault comes behind what is told of those before it
use Rattle.std.proofs.Common.{drop}
use Rattle.cell_sim.specs.declared.fault.PlannedFault.{PlannedFault}
use Rattle.cell_explain.specs.Missed.{motions_of, told_fault}
use Rattle.cell_explain.proofs.ToldOf.{told-more}
use Rattle.cell_explain.proofs.endings.faults.write_faults.Goals as goal

pub loop-fault-preserved : goal.loop-fault-preserved
loop-fault-preserved g c =
    let J = drop c.args.before c.args.book.now.entries in
    let told = rw (c.axis_number.ensures.value, c.motions-counts.ensures, c.journal.ensures) at
    c.in_ok-write_fault.ensures in
    told-more (λ (f : PlannedFault). told_fault f (motions_of J f.axis)) _ _ _ c.deref-fault-items.result.now
    c.loop-fault.fault-index _ c.loop-fault-test.true c.loop-fault.invariant told
