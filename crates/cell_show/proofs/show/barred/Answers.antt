-- The entry is refused by the book's own limits
use Rattle.cell_show.proofs.show.barred.Goals as goal

pub returns-in-Err : goal.returns-in-Err
returns-in-Err c = (c.args.book.now.limits, c.in-Err.field-0, c.in-Err.ensures.first)
