-- The data are their lines, one after another, with those of the states that the window has
use Rattle.std.proofs.Common.{ap, arith, length, ◌∙◌, ◌≡◌}
use Rattle.cell_show.specs.Window.{shown_of}
use Rattle.cell_show.proofs.Pages.{data_whole}
use Rattle.cell_show.proofs.page.whole.write_data.Goals as goal

pub write_waits-requires : goal.write_waits-requires
write_waits-requires g c =
    let J = c.args.book.now.entries in
    let count : c.len.result ≡ length J = c.len.ensures.value ∙ ap (λ j. length j.entries) c.journal.ensures in
    let all : c.shown-more.result ≡ shown_of c.args.window (length J) =
    c.shown-more.ensures ∙ ap (shown_of c.args.window) count in
    omega (arith, all, c.requires)

pub returns-clause-text : goal.returns-clause-text
returns-clause-text g c =
    let J = c.args.book.now.entries in
    let count : c.len.result ≡ length J = c.len.ensures.value ∙ ap (λ j. length j.entries) c.journal.ensures in
    let all : c.shown-more.result ≡ shown_of c.args.window (length J) =
    c.shown-more.ensures ∙ ap (shown_of c.args.window) count in
    data_whole c.args.window J c.args.answer c.answer_at.result c.args.refused c.shown-more.result _ _ _ _ _ _
    c.answer_at.ensures all c.in_ok-write_numbers.ensures.text c.in_ok-write_refused.ensures.line
    c.in_ok-write_waits.ensures.waits c.in_ok-write_all.ensures.bytes c.in_ok-write_rows.ensures.rows
