-- The place is in the row of a motion
use Rattle.std.proofs.Common.{◌∙◌, ap, arith, sym, refl, subst, ◌<◌, get_or}
use Rattle.cell_types.specs.declared.words.Axis.TheVariants as axis
use Rattle.cell_sim.specs.declared.fault.Fault.TheVariants as fault
use Rattle.cell_sweep.specs.Cases.{motions_of, singles}
use Rattle.cell_sweep.proofs.Standing.{length-singles, singles-at}
use Rattle.cell_sweep.proofs.places.Places.fault_at.Goals as goal

pub unreachable-requires : goal.unreachable-requires
unreachable-requires c =
    let self = c.args.self.now in
    let whole = length-singles self.kinds.now (motions_of self.counts) in
    let behind = rw (self.counted) at (c.in-None.ensures.behind refl) in
    omega (arith, whole, behind, c.requires)

pub returns : goal.returns
returns c = λ d.
    let self = c.args.self.now in
    let inside = subst (λ n. c.in-Some.motion < n) self.counted c.in-Some.ensures.row in
    ap (λ n. get_or (singles self.kinds.now (motions_of self.counts)) n d) (sym c.in-Some.ensures.place)
    ∙ singles-at self.kinds.now (motions_of self.counts) c.in-Some.motion c.in-Some.kind
    (record { axis = axis.FeedBelt; number = 0 }) fault.Both d inside c.in-Some.ensures.column
    ∙ sym (c.fault.ensures (record { axis = axis.FeedBelt; number = 0 }) fault.Both)
