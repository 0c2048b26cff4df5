-- What is written in three pieces is some text
use Rattle.cell_show.proofs.Pages.{some_more}
use Rattle.cell_show.proofs.page.words.write_places.Goals as goal

pub returns-clause-some : goal.returns-clause-some
returns-clause-some g c =
    some_more _ _ _ _ (some_more _ _ _ _ (record { text = _; whole = c.in_ok-write_all.ensures.bytes })
    c.in_ok-write_all-2.ensures.bytes) c.in_ok-write_all-3.ensures.bytes
