-- The place is in the motions of the axis, or behind them
use Rattle.std.proofs.Common.{◌∙◌, ap, get_or}
use Rattle.cell_types.specs.Same.{axis_number}
use Rattle.cell_types.specs.Texts.{all_axis}
use Rattle.cell_types.specs.declared.words.Axis.{Axis}
use Rattle.cell_sweep.specs.Cases.{motions_by}
use Rattle.cell_sweep.proofs.Standing.{motions-at, motions-past}
use Rattle.cell_sweep.proofs.places.motion_at.Goals as goal

pub returns-then-left-count : goal.returns-then-left-count
unfolding motions_by
returns-then-left-count c = λ d.
    let (all, at) = c.loop-axis.invariant in
    motions-at (λ (a : Axis). get_or c.args.counts.now (axis_number a) 0) all_axis c.loop-axis.axis-index
    c.loop-axis.left c.from-count.result c.args.place _ d c.loop-axis-test.true at
    (c.from-count.ensures ∙ ap (λ n. get_or c.args.counts.now n 0) c.axis_number.ensures.value) c.if-left-count.true

pub loop-axis-preserved : goal.loop-axis-preserved
loop-axis-preserved c =
    let (all, at) = c.loop-axis.invariant in (
      all,
      motions-past (λ (a : Axis). get_or c.args.counts.now (axis_number a) 0) all_axis c.loop-axis.axis-index
          c.loop-axis.left c.from-count.result c.args.place _ c.loop-axis-test.true at
          (c.from-count.ensures ∙ ap (λ n. get_or c.args.counts.now n 0) c.axis_number.ensures.value)
          c.if-left-count.false,
    )
