-- What is drawn is so many faults, in different motions
use Rattle.std.proofs.Common.{rules, ◌≤◌, length}
use Rattle.cell_sweep.specs.Cases.{motions_of}
use Rattle.cell_sweep.specs.Drawn.{AreDrawn}
use Rattle.cell_sweep.proofs.Drawing.{are-drawn, drawn-most, if-drawn}
use Rattle.cell_sweep.proofs.places.Places.drawn_at.Goals as goal

pub returns-clause-drawn : goal.returns-clause-drawn
returns-clause-drawn c = search rules

pub returns-clause-are : goal.returns-clause-are
returns-clause-are c =
    let self = c.args.self.now in
    if-drawn c.draw.result _ (AreDrawn self.kinds.now (motions_of self.counts) c.args.faults)
    (are-drawn self.kinds.now (motions_of self.counts) c.args.faults c.args.seed c.args.place) (returns-clause-drawn c)

pub returns-clause-most : goal.returns-clause-most
returns-clause-most c =
    let self = c.args.self.now in
    if-drawn c.draw.result _ (λ fs. length fs ≤ c.args.faults)
    (drawn-most self.kinds.now (motions_of self.counts) c.args.faults c.args.seed c.args.place) (returns-clause-drawn c)
