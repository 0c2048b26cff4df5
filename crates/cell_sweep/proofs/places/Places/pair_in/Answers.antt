-- The pair of a kind in the motion and a kind in a later one
use Rattle.cell_types.specs.declared.words.Axis.TheVariants as axis
use Rattle.cell_sim.specs.declared.fault.Fault.TheVariants as fault
use Rattle.cell_sweep.specs.declared.places.Motion.{Motion}
use Rattle.cell_sweep.specs.Cases.{motions_of}
use Rattle.cell_sweep.proofs.Standing.{pair-between}
use Rattle.cell_sweep.proofs.places.Places.pair_in.Goals as goal

pub returns-clause-pair : goal.returns-clause-pair
returns-clause-pair c = λ d.
    let self = c.args.self.now in
    let m : Motion = record { axis = axis.FeedBelt; number = 0 } in
    pair-between self.kinds.now (motions_of self.counts) c.args.motion self.motions c.in_ok-kind.kind
    c.in_ok-kind.other c.in-Some.beyond c.in-Some.second c.args.place m fault.Both _ _ d self.counted c.requires
    c.in_ok-kind.ensures.row c.in_ok-kind.ensures.column c.in_ok-kind.ensures.place c.in-Some.ensures.row
    c.in-Some.ensures.column c.in-Some.ensures.place (c.fault.ensures m fault.Both)
    (c.fault-in-Some.ensures m fault.Both)
