-- The entries that were read are the text's, since an answer with counts is the one that is due
use Rattle.std.proofs.Common.{List, ap, inl, subst, sym}
use Rattle.std.proofs.lemmas.Result.{IfOk-weaker}
use Rattle.cell_journal.specs.Stored.{Stored}
use Rattle.cell_types.specs.declared.words.Entry.{Entry}
use Rattle.cell_runs.specs.Told.{AreEntries}
use Rattle.cell_runs.proofs.Telling.{read-entries}
use Rattle.cell_runs.proofs.run_from.go_on_read.Goals as goal

pub returns-in-Ok-clause-whole : goal.returns-in-Ok-clause-whole
returns-in-Ok-clause-whole g c = λ text read.
    let are =
    subst (λ (J : List Entry). AreEntries text J) (sym (ap (λ (s : Stored). s.entries) c.journal.ensures))
    (read-entries c.args.before.now text c.in-Ok.field-0 c.in-Ok.is read) in
    IfOk-weaker c.go_on.result _ _ (λ ran written. inl (c.journal.result.now.entries, are, written))
    c.go_on.ensures.whole

pub returns-in-Ok-clause-part : goal.returns-in-Ok-clause-part
returns-in-Ok-clause-part g c = λ text read failed.
    let are =
    subst (λ (J : List Entry). AreEntries text J) (sym (ap (λ (s : Stored). s.entries) c.journal.ensures))
    (read-entries c.args.before.now text c.in-Ok.field-0 c.in-Ok.is read) in
    inl (c.journal.result.now.entries, are, c.go_on.ensures.part failed)
