-- New bytes come behind those in sight, and none is lost
use Rattle.std.proofs.Common.{◌-◌, rules, arith, take}
use Rattle.std.specs.Prelude.{slice_range}
use Rattle.cell_rows.proofs.Sights.{read_on, sight_after}
use Rattle.cell_rows.proofs.ahead.ReadAhead.refill.Goals as goal

pub returns-clause-kept : goal.returns-clause-kept
returns-clause-kept g c =
    let l = c.args.self.now in
    let n = c.in_ok-count.count in
    read_on (g.R.Read.remaining l.source) (g.R.Read.remaining c.read_told.new.self) (slice_range l.buffer l.at l.filled)
    (take n c.read_told.new.buf) _
    (search rules) (rw c.copy_within.ensures.after
    (sight_after l.buffer c.read_told.new.buf l.at l.filled (16384 - (l.filled - l.at)) n (omega arith)
    (search rules) (search rules)))
