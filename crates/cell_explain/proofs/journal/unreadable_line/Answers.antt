-- Record 0 is the profile's, and its line tells of that
use Rattle.std.proofs.Common.{string_bytes}
use Rattle.cell_explain.proofs.Parts.{first-line}
use Rattle.cell_explain.proofs.journal.unreadable_line.Goals as goal

pub returns-then-place-eq0 : goal.returns-then-place-eq0
returns-then-place-eq0 c = first-line c.format.result string_bytes c.args.text.now _ c.args.place
    c.record_of-record.result.line c.if-place-eq0.true c.record_of-record.ensures c.format.ensures.ok
