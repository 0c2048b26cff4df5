-- The loop that searches the journal for the last entry on a plate
use Rattle.cell_explain.specs.Facts.{IsLastOf}
use Rattle.cell_explain.proofs.telling.last_of.Given as goal

-- what is answered so far is the last of the entries so far that names the plate
abbrev pub invariant-loop-place : goal.invariant-loop-place
invariant-loop-place l = IsLastOf l.journal.entries l.place l.plate l.since
