-- The line of the refusal is written for the text that was refused
use Rattle.std.proofs.Common.{Err, subst}
use Rattle.cell_audit.specs.Lines.{IsSomeMigration}
use Rattle.cell_audit.specs.declared.error.MigrateError.{MigrateError}
use Rattle.cell_audit.specs.declared.error.MigrateError.TheVariants as error
use Rattle.cell_audit.proofs.Migrating.{refused-some}
use Rattle.cell_audit.proofs.lines.migrate_rows_watched.Goals as goal

pub returns-in-Err-Unreadable-clause-some : goal.returns-in-Err-Unreadable-clause-some
returns-in-Err-Unreadable-clause-some g c =
    let old = g.W.Write.contents c.args.writer.now.writer.now in
    let new = g.W.Write.contents c.migrate_watched.new.writer.writer.now in
    refused-some c.write_answer.result old new _ _ (Err (error.Unreadable c.in-Err-Unreadable.place))
    (subst (λ (e : MigrateError). IsSomeMigration old new (Err e)) c.in-Err-Unreadable.field-0-is
    c.in-Err-Unreadable.ensures.some) c.write_answer.ensures.whole c.write_answer.ensures.part

pub returns-in-Err-Refused-clause-some : goal.returns-in-Err-Refused-clause-some
returns-in-Err-Refused-clause-some g c =
    let old = g.W.Write.contents c.args.writer.now.writer.now in
    let new = g.W.Write.contents c.migrate_watched.new.writer.writer.now in
    refused-some c.write_answer-in-Err-Refused.result old new _ _
    (Err (error.Refused c.in-Err-Refused.place c.in-Err-Refused.why))
    (subst (λ (e : MigrateError). IsSomeMigration old new (Err e)) c.in-Err-Refused.field-0-is
    c.in-Err-Refused.ensures.some) c.write_answer-in-Err-Refused.ensures.whole
    c.write_answer-in-Err-Refused.ensures.part
