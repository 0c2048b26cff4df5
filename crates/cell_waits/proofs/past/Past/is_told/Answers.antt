-- What is left of the first entries of a legal journal is what they tell
use Rattle.cell_waits.specs.Past.{told}
use Rattle.cell_waits.proofs.Telling.{told_law}
use Rattle.cell_waits.proofs.past.Past.is_told.Goals as goal

pub returns : goal.returns
unfolding told
returns c =
    let p = c.args.self.now in
    told_law p.book.now.limits p.book.now.entries p.taken _ _ c.is_lawful.ensures.legal p.leaves p.counts
