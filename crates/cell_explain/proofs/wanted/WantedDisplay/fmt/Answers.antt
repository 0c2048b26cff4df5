-- What is wanted of a number is written with its bounds
use Rattle.cell_explain.proofs.wanted.WantedDisplay.fmt.Goals as goal

pub returns-in-Number-clause-writes : goal.returns-in-Number-clause-writes
returns-in-Number-clause-writes g c = rw c.in-Number.is c.write-in-Number.ensures.writes
