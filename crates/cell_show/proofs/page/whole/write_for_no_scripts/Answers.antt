-- The row after the last entry that is shown has what is shown where no scripts run
use Rattle.std.proofs.Common.{ap, arith, length, subst, take, ◌∙◌, ◌≡◌, ◌≤◌, ℕ}
use Rattle.std.specs.Io.KnownBytes.{Appends}
use Rattle.cell_show.specs.Page.{no_scripts_text}
use Rattle.cell_show.specs.Window.{end_of}
use Rattle.cell_show.proofs.Pages.{no_scripts}
use Rattle.cell_show.proofs.page.whole.write_for_no_scripts.Goals as goal

pub returns-clause-text : goal.returns-clause-text
returns-clause-text g c =
    let J = c.args.book.now.entries in
    let old = g.W.Write.contents c.args.writer.now in
    let new = g.W.Write.contents c.write.new.self in
    let count : c.len.result ≡ length J = c.len.ensures.value ∙ ap (λ j. length j.entries) c.journal.ensures in
    let until : c.end-entries.result ≡ end_of c.args.window (length J) =
    c.end-entries.ensures ∙ ap (end_of c.args.window) count in
    let within : c.end-entries.result ≤ length J = omega (arith, until, c.requires) in
    let same = no_scripts J c.end-entries.result c.row_after-last.result.last within c.row_after-last.ensures.last in
    subst (λ (n : ℕ). Appends old new (no_scripts_text (take n J))) until
    (subst (Appends old new) same c.in_ok-write.ensures.bytes)
