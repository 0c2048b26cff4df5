-- A line feed before another is passed over, which takes no record away
use Rattle.std.proofs.Common.{◌∙◌, rules, arith}
use Rattle.cell_rows.proofs.Sights.{blank_passed}
use Rattle.cell_rows.proofs.ahead.ReadAhead.skip_blank.Goals as goal

pub loop-preserved : goal.loop-preserved
loop-preserved g c =
    let l = c.loop.self in
    let feeds = c.begins_blank.ensures (search rules) in
    let more = feeds.0 in (
      (omega (arith, more), c.loop.invariant.0.1),
      blank_passed (g.R.Read.remaining l.source) l.buffer l.at l.filled
          feeds ∙ c.loop.invariant.1,
    )
