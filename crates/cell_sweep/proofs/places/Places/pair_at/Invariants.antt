-- The loop over the motions in which pairs begin
use Rattle.std.proofs.Common.{◌≡◌, ◌<◌, List, drop, get_or, length}
use Rattle.cell_sim.specs.declared.fault.PlannedFault.{PlannedFault}
use Rattle.cell_sweep.specs.Cases.{motions_of, pairs}
use Rattle.cell_sweep.proofs.places.Places.pair_at.Given as goal

-- the place is one of the pairs from this motion on
abbrev pub invariant-loop-motion : goal.invariant-loop-motion
invariant-loop-motion l =
    (l.left < length (pairs l.self.kinds.now (drop l.motion (motions_of l.self.counts))))
    × ((d : List PlannedFault) → get_or (pairs l.self.kinds.now (motions_of l.self.counts)) l.place d
    ≡ get_or (pairs l.self.kinds.now (drop l.motion (motions_of l.self.counts))) l.left d)
