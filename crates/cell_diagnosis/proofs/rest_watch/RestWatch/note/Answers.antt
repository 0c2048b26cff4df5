use Rattle.cell_diagnosis.proofs.RestLaws.{repeated}
use Rattle.cell_diagnosis.proofs.rest_watch.RestWatch.note.Goals as goal

pub returns-then-repeats-clause-fits : goal.returns-then-repeats-clause-fits
returns-then-repeats-clause-fits c L f =
    let same = c.repeats.ensures in
    let is = c.if-repeats.true in
    repeated c.args.self.now L c.args.expect.now c.args.reading (same.agrees is) (same.reading is) (same.expect is) f

pub returns-then-repeats-clause-verdict : goal.returns-then-repeats-clause-verdict
returns-then-repeats-clause-verdict c L f = (returns-then-repeats-clause-fits c L f).verdict
