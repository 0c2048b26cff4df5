-- Each entry is counted or not
use Rattle.std.proofs.Common.{◌∙◌, arith, sym}
use Rattle.cell_sim.specs.Takeover.{tells_laid}
use Rattle.cell_sim.proofs.Counting.{count-yes, count-no}
use Rattle.cell_sim.proofs.world.takeover.count_laid.Goals as goal
use Rattle.cell_sim.proofs.world.takeover.count_laid.Goals.{then-tells_laid, else-tells_laid}

pub loop-place-preserved : goal.loop-place-preserved
loop-place-preserved c =
    let J = c.args.journal.now.entries in
    elim c.if-tells_laid.branch [
      | then-tells_laid w ↦ record {
        counted = w.laid-is ∙ count-yes tells_laid J c.loop-place.place _ c.at.result c.at.ensures
            (sym c.tells_laid.ensures ∙ w.if-tells_laid.true) c.loop-place.invariant.counted;
        few = omega arith;
      }
      | else-tells_laid w ↦ record {
        counted = w.laid-is ∙ count-no tells_laid J c.loop-place.place _ c.at.result c.at.ensures
            (sym c.tells_laid.ensures ∙ w.if-tells_laid.false) c.loop-place.invariant.counted;
        few = omega arith;
      }
    ]
