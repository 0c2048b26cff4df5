-- The loop that finds the entries' ends
use Rattle.cell_measures.proofs.Parts.{IsPart}
use Rattle.cell_measures.proofs.times.times_of.Given as goal

-- the ends of the entries so far are found, and the clock keeps them
abbrev pub invariant-loop-place : goal.invariant-loop-place
invariant-loop-place l = IsPart l.durations l.journal.entries l.clock l.ends.items l.place
