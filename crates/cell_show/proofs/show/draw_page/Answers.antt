-- A page has the refused entry where there is one, and no chart
use Rattle.cell_show.proofs.show.draw_page.Goals as goal

pub returns-clause-page : goal.returns-clause-page
returns-clause-page g c = λ ok. (
  c.refused_entry-refused.result,
  c.refused_entry-refused.ensures,
  c.in_ok-write_page.ensures.page,
)
