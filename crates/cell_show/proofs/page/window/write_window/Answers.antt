-- The line is that of the window, where not all states are shown
use Rattle.std.proofs.Common.{ap, length, subst, ◌∙◌}
use Rattle.std.specs.Io.KnownBytes.{Appends}
use Rattle.cell_show.proofs.Pages.{window_told}
use Rattle.cell_show.proofs.page.window.write_window.Goals as goal

pub returns-clause-text : goal.returns-clause-text
returns-clause-text g c =
    let told = window_told c.args.window c.end-until.result c.len-entries.result (length c.args.book.now.entries)
    c.shows_all.result c.if-shows_all.false c.shows_all.ensures c.end-until.ensures
    (c.len-entries.ensures.value ∙ ap (λ j. length j.entries) c.journal.ensures) in
    subst (Appends (g.W.Write.contents c.args.writer.now) (g.W.Write.contents c.writeln.new.self)) told
    c.in_ok-writeln.ensures.bytes
