-- There is an end for each entry, so both go on by one
use Rattle.std.proofs.Common.{◌<◌, arith, length}
use Rattle.cell_measures.proofs.Sums.{counts_more}
use Rattle.cell_measures.proofs.tally.measure.Goals as goal

pub loop-place-preserved : goal.loop-place-preserved
loop-place-preserved c =
    let entry : c.loop-place.place < length c.args.journal.now.entries = omega arith in
    let end : c.loop-place.place < length c.in_ok-ends.ends.items = omega (arith, entry, c.in_ok-ends.ensures.long) in
    counts_more _ _ _ _ _ _ _ c.loop-place.invariant entry end c.at.ensures c.index.ensures c.in_ok-note.ensures.time
    c.in_ok-note.ensures.deliveries c.in_ok-note.ensures.declarations c.in_ok-note.ensures.courses
