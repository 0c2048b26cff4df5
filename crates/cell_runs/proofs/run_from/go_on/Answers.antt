-- The book has the journal's entries
use Rattle.std.proofs.Common.{List, ap, inl, subst}
use Rattle.std.specs.Prelude.{IfOk}
use Rattle.std.proofs.lemmas.Result.{IfOk-weaker}
use Rattle.cell_types.specs.declared.words.Entry.{Entry}
use Rattle.cell_rules.specs.History.{History}
use Rattle.cell_runs.specs.Runs.{kept_of}
use Rattle.cell_runs.specs.RunsFrom.{GoesOn, PartOfGoingOn}
use Rattle.cell_runs.proofs.run_from.go_on.Goals as goal

pub returns-in-Ok-clause-whole : goal.returns-in-Ok-clause-whole
returns-in-Ok-clause-whole g c =
    let old = g.W.Write.contents c.args.writer.now.writer.now in
    let new = g.W.Write.contents c.write_run_from.new.writer.writer.now in
    subst
    (λ (B : List Entry). IfOk c.write_run_from.result
    (λ ran. GoesOn c.args.journal c.args.inputs B old new ran.0 (kept_of ran.1)))
    (ap (λ (h : History). h.entries) c.in-Ok.ensures.book)
    (IfOk-weaker c.write_run_from.result _ _ (λ ran written. inl written) c.write_run_from.ensures.whole)

pub returns-in-Ok-clause-part : goal.returns-in-Ok-clause-part
returns-in-Ok-clause-part g c = λ failed.
    let old = g.W.Write.contents c.args.writer.now.writer.now in
    let new = g.W.Write.contents c.write_run_from.new.writer.writer.now in
    subst (λ (B : List Entry). PartOfGoingOn c.args.journal c.args.inputs B old new)
    (ap (λ (h : History). h.entries) c.in-Ok.ensures.book)
    (inl (c.write_run_from.ensures.part failed))
