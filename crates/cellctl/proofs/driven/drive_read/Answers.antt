-- The entries that were read are those of some text, or that text is refused
use Rattle.std.proofs.Common.{List, ap, inl, inr, subst, sym}
use Rattle.cell_journal.specs.Stored.{Stored}
use Rattle.cell_types.specs.declared.words.Entry.{Entry}
use Rattle.cell_runs.specs.Told.{AreEntries}
use Rattle.cell_runs.proofs.Telling.{read-entries}
use Rattle.cellctl.proofs.Written.{refused-read}
use Rattle.cellctl.proofs.driven.drive_read.Goals as goal

pub returns-in-Ok : goal.returns-in-Ok
returns-in-Ok g c = λ text read.
    let are =
    subst (λ (J : List Entry). AreEntries text J) (sym (ap (λ (s : Stored). s.entries) c.journal.ensures))
    (read-entries c.args.before.now text c.in-Ok.field-0 c.in-Ok.is read) in
    inl (c.journal.result.now.entries, (text, are), c.drive_sources.ensures)

pub returns-in-Err : goal.returns-in-Err
returns-in-Err g c = λ text read.
    inr (refused-read c.args.before.now text c.in-Err.why _ _ _ c.in-Err.is read c.write_answer.ensures.whole
    c.write_answer.ensures.part)
