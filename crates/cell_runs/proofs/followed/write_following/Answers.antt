-- What is printed is the booked entries alone, or how the journal was followed and what was counted
use Rattle.std.proofs.Common.{◌≡◌, ap}
use Rattle.cell_journal.specs.Stored.{Stored}
use Rattle.cell_types.specs.declared.words.Totals.{Totals}
use Rattle.cell_audit.specs.Text.{text_of}
use Rattle.cell_runs.specs.Runs.{counts_after}
use Rattle.cell_runs.specs.Told.{first_line, followed_text}
use Rattle.cell_runs.proofs.Telling.{followed-printed, followed-in-part}
use Rattle.cell_runs.proofs.followed.write_following.Goals as goal

pub returns-then-alone-clause-whole : goal.returns-then-alone-clause-whole
returns-then-alone-clause-whole g c =
    let following = c.args.following.now in
    let same : text_of c.journal.result.now.entries ≡ followed_text c.args.alone following.followed
    following.book.entries = rw c.if-alone.true (ap (λ (s : Stored). text_of s.entries) c.journal.ensures) in
    followed-printed c.write_booked.result c.args.alone following.followed following.book.entries
    (text_of c.journal.result.now.entries) _ _ same c.write_booked.ensures.whole

pub returns-else-alone-clause-whole : goal.returns-else-alone-clause-whole
returns-else-alone-clause-whole g c =
    let following = c.args.following.now in
    let text = counts_after (first_line following.followed) c.totals.result in
    let same : text ≡ followed_text c.args.alone following.followed following.book.entries =
    rw c.if-alone.false (ap (λ (t : Totals). counts_after (first_line following.followed) t) c.totals.ensures) in
    followed-printed c.write_lines.result c.args.alone following.followed following.book.entries text _ _ same
    c.write_lines.ensures.whole

pub returns-else-alone-clause-part : goal.returns-else-alone-clause-part
returns-else-alone-clause-part g c = λ failed.
    let following = c.args.following.now in
    let text = counts_after (first_line following.followed) c.totals.result in
    let same : text ≡ followed_text c.args.alone following.followed following.book.entries =
    rw c.if-alone.false (ap (λ (t : Totals). counts_after (first_line following.followed) t) c.totals.ensures) in
    followed-in-part c.args.alone following.followed following.book.entries text _ _ same
    (c.write_lines.ensures.part failed)
