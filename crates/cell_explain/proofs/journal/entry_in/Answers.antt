-- A record more is read, and the last one is that of the number
use Rattle.std.proofs.Common.{arith, rules}
use Rattle.cell_explain.proofs.Rows.{entry-read, left-more}
use Rattle.cell_explain.proofs.journal.entry_in.Goals as goal

pub loop-place-preserved : goal.loop-place-preserved
loop-place-preserved g c = record {
  may_go_on = c.in-Ok-true.ensures.open;
  left = left-more _ _ _ c.loop-place.place _ c.in-Ok-true.field-0 c.loop-place.invariant.left (search rules)
      c.in-Ok-true.ensures.takes;
}

pub returns-in-Ok-true-advance : goal.returns-in-Ok-true-advance
returns-in-Ok-true-advance g c = entry-read _ _ _ c.loop-place.place c.args.number _ c.in-Ok-true-advance.field-0 _
    (omega (arith, c.loop-place-test.false)) c.loop-place.invariant.left (search rules)
    c.in-Ok-true-advance.ensures.takes c.entry_of.ensures
