-- The loop over the entries and their ends
use Rattle.std.proofs.Common.{take}
use Rattle.cell_measures.specs.Sums.{Counts}
use Rattle.cell_measures.proofs.tally.measure.Given as goal

-- the entries so far are counted with their ends
abbrev pub invariant-loop-place : goal.invariant-loop-place
invariant-loop-place l = Counts l.tally (take l.place l.journal.entries) (take l.place l.ends.items)
