-- One more run is made, if there is one
use Rattle.cell_sweep.proofs.batch.make_lane.Goals as goal

pub loop-row-preserved : goal.loop-row-preserved
loop-row-preserved c = c.make_next.ensures c.loop-row.invariant
