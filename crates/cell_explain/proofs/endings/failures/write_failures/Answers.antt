-- What is told of a machine comes behind what is told of those before it
use Rattle.cell_explain.specs.Failures.{failure_of}
use Rattle.cell_explain.proofs.ToldOf.{told-more}
use Rattle.cell_explain.proofs.endings.failures.write_failures.Goals as goal

pub loop-machine-preserved : goal.loop-machine-preserved
loop-machine-preserved g c =
    record {
      all = c.loop-machine.invariant.all;
      told = told-more (failure_of c.args.book.now.entries) _ _ _ _ c.loop-machine.machine-index _
          c.loop-machine-test.true c.loop-machine.invariant.told c.in_ok-write_failure.ensures;
    }
