-- What is written list after list is some text
use Rattle.cell_show.proofs.Pages.{some_after, some_on}
use Rattle.cell_show.proofs.page.words.write_words.Goals as goal

pub returns-clause-some : goal.returns-clause-some
returns-clause-some g c = some_on c.write_names-4.result _ _ _
    (some_after _ _ _ (some_after _ _ _ (some_after _ _ _ (some_after _ _ _ (some_after _ _ _
    c.in_ok-write_machine_words.ensures.some c.in_ok-write_neighbours.ensures.some)
    c.in_ok-write_places.ensures.some)
    c.in_ok-write_names.ensures.some) c.in_ok-write_names-2.ensures.some) c.in_ok-write_names-3.ensures.some)
    c.write_names-4.ensures.some
