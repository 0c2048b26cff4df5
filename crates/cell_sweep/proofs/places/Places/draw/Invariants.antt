-- The loop over the motions of which some are drawn
use Rattle.std.proofs.Common.{◌≡◌, ◌++◌, drop}
use Rattle.std.specs.Prelude.{min}
use Rattle.cell_sweep.specs.Cases.{drawn_in, motions_of}
use Rattle.cell_sweep.proofs.places.Places.draw.Given as goal

-- what is drawn, with what will be drawn of the motions left, is what is drawn of all
abbrev pub invariant-loop-motion : goal.invariant-loop-motion
invariant-loop-motion l =
    l.drawn.items ++ drawn_in l.self.kinds.now (drop l.motion (motions_of l.self.counts)) l.wanted l.lots.generator
    ≡ drawn_in l.self.kinds.now (motions_of l.self.counts) (min l.faults l.self.motions) l.fn.lots.generator
