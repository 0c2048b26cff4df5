-- The pages are first written into memory, where a write fails only for want of it
use Rattle.std.proofs.Common.{Err, List, Ok, Some, ℕ, inr, refl, subst}
use Rattle.std.specs.Prelude.{IfSome}
use Rattle.cell_audit.specs.Migrated.{rows_in}
use Rattle.cell_audit.specs.declared.error.AuditError.TheVariants as error
use Rattle.cell_show.specs.Beside.{WritesBeside}
use Rattle.cell_rows.specs.Rows.{rows_of}
use Rattle.cell_show.specs.Shown.{ShowsPage, ShowsSome}
use Rattle.cell_show.proofs.Facts.{beside-fault, beside-none, beside-some, beside-unread}
use Rattle.cell_show.proofs.Facts.{both_shown, faults-told, wants-memory}
use Rattle.cell_show.proofs.beside.show_beside.Goals as goal

pub returns-in-Err-WriteFault-clause-status : goal.returns-in-Err-WriteFault-clause-status
returns-in-Err-WriteFault-clause-status g c = (Err error.OutOfMemory, wants-memory _, refl)

pub returns-in-Err-other_page-clause-status : goal.returns-in-Err-other_page-clause-status
returns-in-Err-other_page-clause-status g c =
    faults-told _ c.in-Err-other_page.status c.in-Err-other_page.ensures.status

pub returns-clause-pages : goal.returns-clause-pages
returns-clause-pages g c = λ low.
    let old = g.W.Write.contents c.args.writer.now in
    let new = g.W.Write.contents c.write_beside.new.writer in
    let first = c.show_journal.new.writer.items in
    let page =
    subst (λ (start : List ℕ). IfSome (rows_in (g.R.Read.remaining c.args.reader))
    (ShowsPage c.args.form (Some start) (Some first))) c.new-first.ensures.items
    (c.in-Ok.ensures.page low) in
    let one = c.args.other.first_name.now in
    let two = c.args.other.name.now in
    let left = subst (λ (a : List ℕ). WritesBeside old new one two a c.as_slice-2.result.now) c.as_slice.ensures.value
    c.in_ok-write_beside.ensures.pages in
    let both = subst (λ (b : List ℕ). WritesBeside old new one two first b) c.as_slice-2.ensures.value left in
    let (others, same, other) = c.in-Ok-other_page.ensures.page in
    let second = c.in-Ok-other_page.page.items in
    (others, same, both_shown _ c.args.form one two (rows_of others) old new first second page both other)

pub returns-clause-some : goal.returns-clause-some
returns-clause-some g c =
    let old = g.W.Write.contents c.args.writer.now in
    let new = g.W.Write.contents c.write_beside.new.writer in
    let first = c.show_journal.new.writer.items in
    let shown =
    subst (λ (start : List ℕ). ShowsSome c.args.form c.args.entry (Some start) (Some first) (Ok c.in-Ok.status))
    c.new-first.ensures.items c.in-Ok.ensures.some in
    let one = c.args.other.first_name.now in
    let two = c.args.other.name.now in
    let left = subst (λ (a : List ℕ). WritesBeside old new one two a c.as_slice-2.result.now) c.as_slice.ensures.value
    c.in_ok-write_beside.ensures.pages in
    let both = subst (λ (b : List ℕ). WritesBeside old new one two first b) c.as_slice-2.ensures.value left in
    beside-some c.args.entry c.args.form one two _ old new first c.in-Ok-other_page.page.items c.in-Ok.status shown both
    c.in-Ok-other_page.ensures.page

pub returns-in-Ok-clause-some : goal.returns-in-Ok-clause-some
returns-in-Ok-clause-some g c =
    let old = g.W.Write.contents c.args.writer.now in
    let first = Some c.show_journal.new.writer.items in
    let shown =
    subst (λ (start : List ℕ). ShowsSome c.args.form c.args.entry (Some start) first (Ok c.in-Ok.status))
    c.new-first.ensures.items c.in-Ok.ensures.some in
    beside-unread c.args.entry c.args.form _ _ (g.O.Read.remaining c.args.other.reader) old old first c.in-Ok.status
    shown c.if-status-gt-REFUSED.true

pub returns-in-Err-WriteFault-clause-some : goal.returns-in-Err-WriteFault-clause-some
returns-in-Err-WriteFault-clause-some g c =
    let old = g.W.Write.contents c.args.writer.now in
    beside-fault c.args.entry c.args.form _ _ (g.O.Read.remaining c.args.other.reader) old old 4 (inr refl)

pub returns-in-Err-clause-some : goal.returns-in-Err-clause-some
returns-in-Err-clause-some g c =
    let old = g.W.Write.contents c.args.writer.now in
    let first = Some c.show_journal.new.writer.items in
    let shown =
    subst (λ (start : List ℕ). ShowsSome c.args.form c.args.entry (Some start) first (Err c.in-Err.why))
    c.new-first.ensures.items c.in-Err.ensures.some in
    beside-none c.args.entry c.args.form c.args.other.first_name.now c.args.other.name.now
    (g.O.Read.remaining c.args.other.reader) old old first c.in-Err.why shown

pub returns-in-Err-other_page-clause-some : goal.returns-in-Err-other_page-clause-some
returns-in-Err-other_page-clause-some g c =
    let old = g.W.Write.contents c.args.writer.now in
    beside-fault c.args.entry c.args.form _ _ (g.O.Read.remaining c.args.other.reader) old old
    c.in-Err-other_page.status c.in-Err-other_page.ensures.status
