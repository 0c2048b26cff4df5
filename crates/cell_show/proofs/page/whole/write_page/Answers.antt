-- A page is its parts, one after another, and its chart stands in it
use Rattle.cell_show.specs.Page.{WritesPage}
use Rattle.cell_show.proofs.Pages.{page_whole, shows_chart}
use Rattle.cell_show.proofs.page.whole.write_page.Goals as goal

pub returns-clause-page : goal.returns-clause-page
returns-clause-page g c =
    page_whole c.args.window c.args.book.now.entries c.args.answer c.args.refused c.args.chart _ _ _ _ _ _ _ _ _ _ _ _ _
    _ _ _ _ _ _ _ c.in_ok-write_all.ensures.bytes c.in_ok-write_for_no_scripts.ensures.text
    c.in_ok-write_still.ensures.some c.in_ok-write_all-2.ensures.bytes c.in_ok-write_answer.ensures.text
    c.in_ok-write_window.ensures.text c.in_ok-write_all-3.ensures.bytes c.in_ok-write_chart.ensures.text
    c.in_ok-write_all-4.ensures.bytes c.in_ok-write_words.ensures.some c.in_ok-write_data.ensures.text
    c.in_ok-write_all-5.ensures.bytes c.in_ok-write_scripts.ensures.some.whole

pub returns-clause-chart : goal.returns-clause-chart
returns-clause-chart g c =
    let page : WritesPage (g.W.Write.contents c.args.writer.now) (g.W.Write.contents c.write_scripts.new.writer)
    c.args.window c.args.book.now.entries c.args.answer c.args.refused c.args.chart = returns-clause-page g c in
    shows_chart c.args.window c.args.book.now.entries c.args.answer c.args.refused c.args.chart _ _ page
