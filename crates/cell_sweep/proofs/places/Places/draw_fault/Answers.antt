-- The kind is the one at the drawn place
use Rattle.std.proofs.Common.{◌∙◌, ℕ, List, get_or, ap}
use Rattle.cell_sim.specs.declared.fault.Fault.TheVariants as fault
use Rattle.cell_sweep.specs.Cases.{motions_of, of_kind}
use Rattle.cell_sweep.proofs.places.Places.draw_fault.Goals as goal

pub returns-clause-fault : goal.returns-clause-fault
returns-clause-fault c = λ m.
    let self = c.args.self.now in
    c.fault.ensures m fault.Both
    ∙ ap (λ (p : ℕ × List ℕ). of_kind self.kinds.now (get_or (motions_of self.counts) c.args.motion m) p.0)
    c.below-kind.ensures.drawn

pub returns-clause-lots : goal.returns-clause-lots
returns-clause-lots c = ap (λ (p : ℕ × List ℕ). p.1) c.below-kind.ensures.drawn
