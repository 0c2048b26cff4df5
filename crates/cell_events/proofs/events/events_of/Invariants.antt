-- The loop that finds the events of the entries, one after the other
use Rattle.cell_events.proofs.Parts.{IsPart}
use Rattle.cell_events.proofs.events.events_of.Given as goal

-- the events of the entries so far are found, and what they left is kept
abbrev pub invariant-loop-at : goal.invariant-loop-at
invariant-loop-at l = IsPart l.durations l.journal.entries l.ends.items l.past l.events.items l.at
