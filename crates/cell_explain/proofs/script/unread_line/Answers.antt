-- The record that is told is that of the number before, since records are found by numbers from 0
use Rattle.std.proofs.Common.{codes, string_bytes, subst, ℕ}
use Rattle.cell_explain.specs.Places.{HasRecord}
use Rattle.cell_explain.proofs.Parts.{record-told}
use Rattle.cell_explain.proofs.script.unread_line.Goals as goal

pub returns : goal.returns
returns c = record-told c.record_line.result string_bytes c.args.text.now (codes "record") _ c.args.number
    c.record_of-record.result.line c.record_of-record.result.bytes.now c.trouble_of-trouble.result
    (subst (λ (n : ℕ). HasRecord c.args.text.now n c.record_of-record.result.line c.record_of-record.result.bytes.now)
    c.saturating_sub.ensures c.record_of-record.ensures) c.record_line.ensures
