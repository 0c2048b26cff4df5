-- An entry more names the plate, or the last that does stays so
use Rattle.std.proofs.Common.{◌+◌, refl}
use Rattle.cell_explain.proofs.Sinces.{last-more, none-here}
use Rattle.cell_explain.proofs.telling.last_of.Goals as goal
use Rattle.cell_explain.proofs.telling.last_of.Goals.{else-names, then-names}

pub loop-place-preserved : goal.loop-place-preserved
loop-place-preserved c =
    let J = c.args.journal.now.entries in
    let n = c.loop-place.place in
    elim c.if-names.branch [
      | then-names w ↦ rw w.since-is
          (n, refl, c.at-entry.ensures, c.names.ensures.yes w.if-names.true, none-here J c.args.plate (n + 1))
      | else-names w ↦ rw w.since-is (last-more J n c.args.plate c.at-entry.result c.loop-place.since
          c.loop-place.invariant c.at-entry.ensures (c.names.ensures.no w.if-names.false))
    ]
