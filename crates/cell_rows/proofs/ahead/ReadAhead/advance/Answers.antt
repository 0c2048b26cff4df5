-- Where no byte comes any more, and none is in sight but the line feed of the line before, no record is left
use Rattle.std.proofs.Common.{refl, subst}
use Rattle.std.specs.Io.KnownBytes.{Keeps}
use Rattle.cell_rows.specs.Sights.{bytes_left}
use Rattle.cell_rows.proofs.Sights.{ended}
use Rattle.cell_rows.proofs.ahead.ReadAhead.advance.Goals as goal

pub returns-in-Ok-false-clause-end : goal.returns-in-Ok-false-clause-end
returns-in-Ok-false-clause-end g c = λ is row.
    let (short, none) = c.rest.ensures.end is in
    ended _ _ _ _ row c.loop.invariant.1
    (subst (λ l. Keeps (bytes_left g.R.Read.remaining l) (bytes_left g.R.Read.remaining c.refill.new.self))
    (c.in-Err-Cut.ensures.kept refl) c.in-Ok-false.ensures.kept)
    (c.in-Ok-false.ensures.end c.in-Ok-false.field-0-test short) none
