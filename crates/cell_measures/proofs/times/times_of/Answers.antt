-- The clock keeps what has ended so far, and no end is too great for its type, as journals are short
use Rattle.std.proofs.Common.{arith, ◌≡◌, ◌<◌}
use Rattle.std.specs.Prelude.{◌^◌}
use Rattle.cell_measures.proofs.Parts.{part_first, part_more, part_last, part_small}
use Rattle.cell_measures.specs.Times.{times}
use Rattle.cell_measures.proofs.Sums.{long}
use Rattle.cell_measures.proofs.times.times_of.Goals as goal

pub loop-place-init : goal.loop-place-init
loop-place-init c = part_first _ _ _ _ c.new-clock.ensures c.in_ok-ends.ensures.items

pub ends-end-requires : goal.ends-end-requires
ends-end-requires c =
    let small : c.loop-place.place < 2 ^ 32 = omega arith in
    part_small _ _ _ _ _ c.loop-place.invariant small

pub loop-place-preserved : goal.loop-place-preserved
loop-place-preserved c = part_more _ _ _ _ _ _ _ _ _ c.loop-place.invariant c.at-entry.ensures c.ends-end.ensures.due
    c.ends-end.ensures.early c.in_ok-note.ensures c.in_ok-push.ensures.items

pub returns : goal.returns
returns c =
    let whole : c.loop-place.ends.items ≡ times c.args.durations.now c.args.journal.now.entries =
    part_last _ _ _ _ _ c.loop-place.invariant (omega arith) in
    record {
      ends = whole;
      long = long _ _ _ whole;
    }
