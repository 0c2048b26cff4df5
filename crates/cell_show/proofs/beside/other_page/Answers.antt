-- The other page is written behind nothing, so all that is there is the page
use Rattle.std.proofs.Common.{Err, List, None, Ok, Some, ap, rules, subst, ◌≢◌, ℕ}
use Rattle.std.specs.Prelude.{IfSome}
use Rattle.cell_audit.specs.Migrated.{rows_in}
use Rattle.cell_show.specs.Shown.{ShowsPage, ShowsSome}
use Rattle.cell_show.specs.declared.error.ShowError.TheVariants as error
use Rattle.cell_show.proofs.Facts.{all-ok, other-absent, other-shown}
use Rattle.cell_show.proofs.beside.other_page.Goals as goal

pub returns-in-Ok-clause-page : goal.returns-in-Ok-clause-page
returns-in-Ok-clause-page g c =
    let page = c.show_journal.new.writer.items in
    let known = g.R.Read.remaining c.args.reader in
    let here =
    subst (λ (start : List ℕ). IfSome (rows_in known) (ShowsPage c.args.form (Some start) (Some page)))
    c.new-page.ensures.items (c.in-Ok.ensures.page c.if-status-le-REFUSED.true) in
    let some =
    subst (λ (start : List ℕ). ShowsSome c.args.form None (Some start) (Some page) (Ok c.in-Ok.status))
    c.new-page.ensures.items c.in-Ok.ensures.some in
    other-shown known c.args.form c.in-Ok.status page here some c.if-status-le-REFUSED.true

pub returns-in-Err-clause-page : goal.returns-in-Err-clause-page
returns-in-Err-clause-page g c =
    let known = g.R.Read.remaining c.args.reader in
    let old = Some c.new-page.result.items in
    let new = Some c.show_journal.new.writer.items in
    let why = c.in-Err.why in
    let other : why ≢ error.WriteFault = search rules in
    all-ok c.ok_or.result _ (λ page. other-absent known c.args.form page.items old new why other c.in-Err.ensures.past
    (λ same. c.in-Err.ensures.bound (ap Err same)) c.in-Err.ensures.entries c.in-Err.ensures.some)
