-- The last entry of a row is the last of those that it is after
use Rattle.cell_show.proofs.Pages.{last_taken}
use Rattle.cell_show.proofs.page.whole.row_left.Goals as goal

pub returns-clause-last : goal.returns-clause-last
returns-clause-last c = last_taken c.args.book.now.entries c.args.i _ c.requires.within c.facts_left-facts.ensures.none
    c.facts_left-facts.ensures.last
