-- The entries that are shown are good: an answer on the reader or on memory has a greater status
use Rattle.std.proofs.Common.{◌≡◌, ◌<◌, ◌≤◌, length, Ok, Err, refl, ap, subst, rules, arith, true}
use Rattle.std.specs.Prelude.{IfSome, max, unwrap_or}
use Rattle.cell_audit.specs.declared.error.AuditError.TheVariants as error
use Rattle.cell_rows.specs.Rows.{rows_left}
use Rattle.cell_show.specs.Shown.{AreGood, IsPage, start_of}
use Rattle.cell_show.proofs.Facts.{wants-memory, good, has, none_there, paged, told_of, wants-some, unread-some}
use Rattle.cell_show.proofs.Facts.{asks_past, shown-some, none-some, told-some}
use Rattle.cell_show.proofs.show.show_rows.Goals as goal

pub returns-in_default-clause-status : goal.returns-in_default-clause-status
returns-in_default-clause-status g c = (Err error.OutOfMemory, wants-memory _, refl)

pub returns-then-status-gt-REFUSED-clause-status : goal.returns-then-status-gt-REFUSED-clause-status
returns-then-status-gt-REFUSED-clause-status g c =
    (c.in-Ok.reading.answer, c.in-Ok.ensures.due, c.status_of-status.ensures)

pub returns-then-branch-clause-status : goal.returns-then-branch-clause-status
returns-then-branch-clause-status g c = (c.in-Ok.reading.answer, c.in-Ok.ensures.due, c.status_of-status.ensures)

pub returns-clause-status : goal.returns-clause-status
returns-clause-status g c = (Err error.OutOfMemory, wants-memory _, refl)

pub returns-then-branch-clause-there : goal.returns-then-branch-clause-there
returns-then-branch-clause-there g c = λ low.
    let book = c.in-Ok.reading.book.entries in
    let n = c.len-entries.result in
    let are : IfSome (rows_left g.R.Read.remaining c.args.rows.now) (AreGood book) =
    good (rows_left g.R.Read.remaining c.args.rows.now) c.in-Ok.reading.answer book c.in-Ok.ensures.due
    c.in-Ok.ensures.before c.in-Ok.ensures.first
    (omega (arith, c.status_of-status.ensures, low)) in
    let size : length book ≡ n = search rules in
    let shown : c.unwrap_or-shown.result ≡ unwrap_or c.args.entry n = c.unwrap_or-shown.ensures in
    let start : c.start_of.result ≡ start_of c.args.form = c.start_of.ensures in
    let needed : max c.unwrap_or-shown.result c.start_of.result ≤ n = search rules in
    let most : unwrap_or c.args.entry n ≤ n = omega (arith, shown, needed) in
    let begun : start_of c.args.form ≤ n = omega (arith, start, needed) in
    has (rows_left g.R.Read.remaining c.args.rows.now) c.args.entry (start_of c.args.form) n book are size most begun

pub returns-then-branch-clause-page : goal.returns-then-branch-clause-page
returns-then-branch-clause-page g c = λ low.
    let book = c.in-Ok.reading.book.entries in
    let old = g.W.Write.contents c.args.writer.now in
    let new = g.W.Write.contents c.draw.new.writer in
    let drawn : c.draw.result ≡ Ok true = search rules in
    let page = subst (λ why. IsPage c.args.form book why old new) c.err-answer.ensures.value (c.draw.ensures.page drawn)
    in
    paged (rows_left g.R.Read.remaining c.args.rows.now) c.args.form c.in-Ok.reading.answer book old new
    c.in-Ok.ensures.due c.in-Ok.ensures.before
    c.in-Ok.ensures.first (omega (arith, c.status_of-status.ensures, low)) page

pub returns-then-needed-entries-clause-entries : goal.returns-then-needed-entries-clause-entries
returns-then-needed-entries-clause-entries g c =
    let book = c.in-Ok.reading.book.entries in
    let are : IfSome (rows_left g.R.Read.remaining c.args.rows.now) (AreGood book) =
    good (rows_left g.R.Read.remaining c.args.rows.now) c.in-Ok.reading.answer book c.in-Ok.ensures.due
    c.in-Ok.ensures.before c.in-Ok.ensures.first
    (omega (arith, c.status_of-status.ensures, c.if-status-gt-REFUSED.false)) in
    let size : length book ≡ c.len-entries.result = search rules in
    none_there (rows_left g.R.Read.remaining c.args.rows.now) book c.len-entries.result are size

pub returns-in_err-draw-clause-entries : goal.returns-in_err-draw-clause-entries
returns-in_err-draw-clause-entries g c =
    let book = c.in-Ok.reading.book.entries in
    let why = c.in_err-draw.field-0.0 in
    let is : c.from_residual.result ≡ Err why = search rules in
    let are : IfSome (rows_left g.R.Read.remaining c.args.rows.now) (AreGood book) =
    good (rows_left g.R.Read.remaining c.args.rows.now) c.in-Ok.reading.answer book c.in-Ok.ensures.due
    c.in-Ok.ensures.before c.in-Ok.ensures.first
    (omega (arith, c.status_of-status.ensures, c.if-status-gt-REFUSED.false)) in
    rw is (told_of _ book why are (λ n same. c.in_err-draw.ensures.entry n (ap Err same))
    (λ same. c.in_err-draw.ensures.long (ap Err same)))

pub returns-in_default-clause-some : goal.returns-in_default-clause-some
returns-in_default-clause-some g c = wants-some _ _ _ _

pub returns-clause-some : goal.returns-clause-some
returns-clause-some g c = wants-some _ _ _ _

pub returns-then-status-gt-REFUSED-clause-some : goal.returns-then-status-gt-REFUSED-clause-some
returns-then-status-gt-REFUSED-clause-some g c =
    unread-some _ _ c.in-Ok.reading.answer c.in-Ok.reading.book.entries c.status_of-status.result _ _
    c.in-Ok.ensures.some c.status_of-status.ensures c.if-status-gt-REFUSED.true

pub returns-then-needed-entries-clause-some : goal.returns-then-needed-entries-clause-some
returns-then-needed-entries-clause-some g c =
    let size : length c.in-Ok.reading.book.entries ≡ c.len-entries.result = search rules in
    none-some c.args.entry c.args.form c.in-Ok.reading.answer c.in-Ok.reading.book.entries c.len-entries.result
    (g.W.Write.contents c.args.writer.now) (g.W.Write.contents c.args.writer.now) c.in-Ok.ensures.some
    c.in-Ok.ensures.before (omega (arith, c.status_of-status.ensures, c.if-status-gt-REFUSED.false)) size

pub returns-then-needed-entries-clause-past : goal.returns-then-needed-entries-clause-past
returns-then-needed-entries-clause-past g c =
    let n = c.len-entries.result in
    let shown : c.unwrap_or-shown.result ≡ unwrap_or c.args.entry n = c.unwrap_or-shown.ensures in
    let start : c.start_of.result ≡ start_of c.args.form = c.start_of.ensures in
    let needed : n < max c.unwrap_or-shown.result c.start_of.result = search rules in
    asks_past c.args.entry (start_of c.args.form) n (omega (arith, shown, start, needed))

pub returns-in_err-draw-clause-some : goal.returns-in_err-draw-clause-some
returns-in_err-draw-clause-some g c =
    let why = c.in_err-draw.field-0.0 in
    let is : c.from_residual.result ≡ Err why = search rules in
    rw is (told-some c.args.entry c.args.form c.in-Ok.reading.answer c.in-Ok.reading.book.entries why
    (g.W.Write.contents c.args.writer.now) (g.W.Write.contents c.draw.new.writer) c.in-Ok.ensures.some
    c.in-Ok.ensures.before (omega (arith, c.status_of-status.ensures, c.if-status-gt-REFUSED.false))
    (λ n same. c.in_err-draw.ensures.entry n (ap Err same)) (λ same. c.in_err-draw.ensures.long (ap Err same)))

pub returns-then-branch-clause-some : goal.returns-then-branch-clause-some
returns-then-branch-clause-some g c =
    let book = c.in-Ok.reading.book.entries in
    let n = c.len-entries.result in
    let old = g.W.Write.contents c.args.writer.now in
    let new = g.W.Write.contents c.draw.new.writer in
    let size : length book ≡ n = search rules in
    let shown : c.unwrap_or-shown.result ≡ unwrap_or c.args.entry n = c.unwrap_or-shown.ensures in
    let start : c.start_of.result ≡ start_of c.args.form = c.start_of.ensures in
    let needed : max c.unwrap_or-shown.result c.start_of.result ≤ n = search rules in
    let most : unwrap_or c.args.entry n ≤ n = omega (arith, shown, needed) in
    let begun : start_of c.args.form ≤ n = omega (arith, start, needed) in
    let drawn : c.draw.result ≡ Ok true = search rules in
    let page = subst (λ why. IsPage c.args.form book why old new) c.err-answer.ensures.value (c.draw.ensures.page drawn)
    in
    shown-some c.args.entry c.args.form c.in-Ok.reading.answer book c.status_of-status.result n old new
    c.in-Ok.ensures.some c.in-Ok.ensures.before c.status_of-status.ensures
    (omega (arith, c.status_of-status.ensures, c.if-status-gt-REFUSED.false)) size most begun page
