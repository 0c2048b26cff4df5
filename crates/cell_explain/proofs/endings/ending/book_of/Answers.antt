-- An entry that the book takes is one more that is booked, and none is refused
use Rattle.std.proofs.Common.{◌∙◌, sym}
use Rattle.cell_explain.proofs.Booked.{booked-more, of-success}
use Rattle.cell_explain.proofs.endings.ending.book_of.Goals as goal

pub loop-place-preserved : goal.loop-place-preserved
loop-place-preserved c =
    booked-more _ c.loop-place.book _ c.args.journal.now.entries c.loop-place.place c.at.result c.at.ensures
    c.loop-place.invariant
    (of-success c.apply.result (sym c.is_err.ensures.value ∙ c.if-is_err.false) c.apply.ensures.booked)
