-- No motion takes longer than 65535, so no entry ends later than that after all before it
use Rattle.std.proofs.Common.{◌<◌, arith}
use Rattle.cell_measures.proofs.Latest.{motion_early, begun_early}
use Rattle.cell_measures.proofs.clock.Clock.ends.Goals as goal

pub returns-in-Some-clause-early : goal.returns-in-Some-clause-early
returns-in-Some-clause-early c =
    let small : c.from-lasts.result < 65536 = omega arith in
    λ past n k most. motion_early c.args.self.now past c.args.entry.now c.in-Some.motion.axis _ _ _ _ n k
    (c.begins-begun.ensures past k) c.axis_number.ensures.value small c.later.ensures most

pub returns-in-None-clause-early : goal.returns-in-None-clause-early
returns-in-None-clause-early c = λ past n k most. begun_early past c.args.entry.now _ n (c.begins-begun.ensures past k)
    most
