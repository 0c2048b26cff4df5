-- The line names the entry that was booked, or says that there was none
use Rattle.cell_runs.proofs.followed.parted_line.Goals as goal

pub returns-in-Some : goal.returns-in-Some
returns-in-Some c = rw c.in-Some.is c.format.ensures.ok

pub returns-in-None : goal.returns-in-None
returns-in-None c = rw c.in-None.is c.format-in-None.ensures.ok
