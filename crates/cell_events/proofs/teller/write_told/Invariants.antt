-- The loop that writes what tells each event
use Rattle.cell_output.specs.Watched.{IsSameWriter}
use Rattle.cell_events.proofs.teller.write_told.Given as goal

-- it still writes to the same writer
abbrev pub invariant-loop-event : goal.invariant-loop-event
invariant-loop-event g l = IsSameWriter l.fn.output l.output
