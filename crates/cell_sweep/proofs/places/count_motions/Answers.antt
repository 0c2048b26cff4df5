-- Each axis adds its motions
use Rattle.std.proofs.Common.{◌∙◌, ap, get_or, arith}
use Rattle.cell_types.specs.Same.{axis_number}
use Rattle.cell_types.specs.Texts.{all_axis}
use Rattle.cell_types.specs.declared.words.Axis.{Axis}
use Rattle.cell_sweep.proofs.Standing.{motions-counted}
use Rattle.cell_sweep.proofs.places.count_motions.Goals as goal

pub loop-axis-preserved : goal.loop-axis-preserved
loop-axis-preserved c =
    let (all, bound, so_far) = c.loop-axis.invariant in
    let read = c.from-all.ensures ∙ ap (λ n. get_or c.args.counts.now n 0) c.axis_number.ensures.value in (
      all,
      omega (arith, bound, c.from-all.ensures, c.fits-counts c.axis_number.result),
      motions-counted (λ (a : Axis). get_or c.args.counts.now (axis_number a) 0) all_axis c.loop-axis.axis-index
          c.loop-axis.all c.from-all.result _ c.loop-axis-test.true so_far read,
    )
