-- Each entry is counted or not
use Rattle.std.proofs.Common.{◌∙◌, arith, sym}
use Rattle.cell_sim.specs.Takeover.{tells_cleared}
use Rattle.cell_sim.proofs.Counting.{count-yes, count-no}
use Rattle.cell_sim.proofs.world.takeover.count_cleared.Goals as goal
use Rattle.cell_sim.proofs.world.takeover.count_cleared.Goals.{then-tells_cleared, else-tells_cleared}

pub loop-place-preserved : goal.loop-place-preserved
loop-place-preserved c =
    let J = c.args.journal.now.entries in
    elim c.if-tells_cleared.branch [
      | then-tells_cleared w ↦ record {
        counted = w.cleared-is ∙ count-yes tells_cleared J c.loop-place.place _ c.at.result c.at.ensures
            (sym c.tells_cleared.ensures ∙ w.if-tells_cleared.true) c.loop-place.invariant.counted;
        few = omega arith;
      }
      | else-tells_cleared w ↦ record {
        counted = w.cleared-is ∙ count-no tells_cleared J c.loop-place.place _ c.at.result c.at.ensures
            (sym c.tells_cleared.ensures ∙ w.if-tells_cleared.false) c.loop-place.invariant.counted;
        few = omega arith;
      }
    ]
