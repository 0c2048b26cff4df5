-- Each lane is what its call gives
use Rattle.std.proofs.Common.{arith}
use Rattle.cell_sweep.proofs.batch.Batch.make.Goals as goal

pub returns-clause-lanes : goal.returns-clause-lanes
returns-clause-lanes g c =
    λ n d inside. (c.in_ok-lanes.ensures.each n d (omega (
      arith,
      inside,
      c.in_ok-lanes.lanes.ok,
      c.in_ok-lanes.ensures.len,
    ))).1.met
