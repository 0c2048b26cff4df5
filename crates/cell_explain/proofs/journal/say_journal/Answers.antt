-- A text is told by the record that the audit's answer names, unless memory is refused for that
use Rattle.std.proofs.Common.{◌≡◌, string_bytes}
use Rattle.cell_audit.specs.declared.error.AuditError.TheVariants as error
use Rattle.cell_explain.specs.Told.{SaysUnreadable}
use Rattle.cell_explain.proofs.Ends.{journal-entry, journal-unreadable, line-refused}
use Rattle.cell_explain.proofs.journal.say_journal.Goals as goal

pub returns-in-Err-Unreadable : goal.returns-in-Err-Unreadable
returns-in-Err-Unreadable c =
    let is : c.in-Err-Unreadable.field-0 ≡ error.Unreadable c.in-Err-Unreadable.place = cc in
    journal-unreadable c.args.text.now _ _ _ _ is (c.in-Err-Unreadable.ensures.due, c.in-Err-Unreadable.ensures.only)
    (line-refused c.unreadable_line.result string_bytes (SaysUnreadable c.args.text.now c.in-Err-Unreadable.place) _ _
    c.line.ensures.status c.line.ensures.line c.line.ensures.nothing c.unreadable_line.ensures)

pub returns-in-Err-Refused : goal.returns-in-Err-Refused
returns-in-Err-Refused c =
    let is : c.in-Err-Refused.field-0 ≡ error.Refused c.in-Err-Refused.place c.in-Err-Refused.why = cc in
    journal-entry c.args.text.now _ _ _ _ _ is (c.in-Err-Refused.ensures.due, c.in-Err-Refused.ensures.only)
    c.say_refused.ensures
