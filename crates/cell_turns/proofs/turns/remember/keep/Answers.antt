use Rattle.std.proofs.Common.{[], None, ◌||◌, ◌∙◌, sym, if◌then◌else◌}
use Rattle.cell_turns.specs.Turns.{ends_motion}
use Rattle.cell_turns.proofs.Minds.{fitted_again}
use Rattle.cell_turns.proofs.turns.remember.keep.Goals as goal

-- what the watches forget is forgotten of the readings too, so some still fit
pub invariant_of-watch : goal.invariant_of-watch
invariant_of-watch c =
    let watch = c.args.watch.now in
    record {
      same_machine = c.end_rest.ensures.machine ∙ sym c.requires;
      fitted =
          fitted_again watch.axis c.end_axis.new.axis watch.rest c.end_rest.new.rest
          (λ f. if c.args.anew || ends_motion c.args.booked.now then None else f) (λ L. if c.args.anew then [] else L)
          c.end_axis.ensures c.end_rest.ensures.fits watch.fitted;
    }
