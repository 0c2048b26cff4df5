-- One more entry is gone through
use Rattle.cell_waits.proofs.Telling.{waits_more}
use Rattle.cell_waits.proofs.reads.cleared_from.Goals as goal

pub loop-place-preserved : goal.loop-place-preserved
loop-place-preserved c =
    rw (c.unwrap_or-station.ensures, c.clears_from.ensures, c.loop-place.invariant)
    (waits_more c.args.journal.now.entries c.loop-place.place c.at.result c.args.plate c.at.ensures)
