-- A chart's section is its beginning, the chart and its end
use Rattle.cell_show.proofs.Pages.{chart_written}
use Rattle.cell_show.proofs.page.whole.write_chart.Goals as goal

pub returns-in_ok-write_all-3-clause-text : goal.returns-in_ok-write_all-3-clause-text
returns-in_ok-write_all-3-clause-text g c =
    rw c.in-Some.is (chart_written c.in-Some.text _ _ _ _ c.in_ok-write_all.ensures.bytes
    c.in_ok-write_all-2.ensures.bytes c.in_ok-write_all-3.ensures.bytes)
