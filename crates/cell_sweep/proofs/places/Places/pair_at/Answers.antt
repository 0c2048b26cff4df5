-- The place is of a pair that begins in the motion, or behind them
use Rattle.std.proofs.Common.{◌∙◌, arith, refl, subst, ◌≤◌}
use Rattle.cell_types.specs.declared.words.Axis.TheVariants as axis
use Rattle.cell_sweep.specs.Cases.{motions_of}
use Rattle.cell_sweep.proofs.Standing.{pairs-next, pairs-none}
use Rattle.cell_sweep.proofs.places.Places.pair_at.Goals as goal

pub loop-motion-init : goal.loop-motion-init
loop-motion-init c = (c.requires, λ d. refl)

pub loop-motion-preserved : goal.loop-motion-preserved
loop-motion-preserved c =
    let self = c.args.self.now in
    let (within, so_far) = c.loop-motion.invariant in
    pairs-next self.kinds.now (motions_of self.counts) c.loop-motion.motion self.motions c.loop-motion.left c.args.place
    (record { axis = axis.FeedBelt; number = 0 }) self.counted c.loop-motion-test.true
    (c.in_default.ensures.behind refl) within so_far

pub returns-in-Some : goal.returns-in-Some
returns-in-Some c = λ d. c.loop-motion.invariant.1 d ∙ c.in-Some.ensures.pair d

pub unreachable-requires : goal.unreachable-requires
unreachable-requires c =
    let self = c.args.self.now in
    let (within, so_far) = c.loop-motion.invariant in
    let none = pairs-none self.kinds.now (motions_of self.counts) c.loop-motion.motion
    (subst (λ n. n ≤ c.loop-motion.motion) self.counted c.loop-motion-test.false) in
    omega (arith, none, within)
