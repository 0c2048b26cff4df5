-- The line that is named is the one where the first record too many begins
use Rattle.std.proofs.Common.{string_bytes}
use Rattle.cell_explain.proofs.Parts.{some-line}
use Rattle.cell_explain.proofs.script.long_line.Goals as goal

pub returns : goal.returns
returns c = some-line c.format.result string_bytes c.args.text.now _ c.record_of.result.line
    c.record_of.ensures c.format.ensures.ok
