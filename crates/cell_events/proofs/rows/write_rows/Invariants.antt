-- The loop that writes the events' rows
use Rattle.std.proofs.Common.{map, take}
use Rattle.std.specs.List.{concat}
use Rattle.std.specs.Io.KnownBytes.{Appends}
use Rattle.cell_output.specs.Watched.{IsSameWriter, bytes_held}
use Rattle.cell_events.proofs.Lines.{line_of}
use Rattle.cell_events.proofs.rows.write_rows.Given as goal

-- the rows of the events so far are written, behind the first line
abbrev pub invariant-loop-event : goal.invariant-loop-event
invariant-loop-event g l = record {
  writer : IsSameWriter l.fn.output l.output;
  bytes : Appends (bytes_held g.W.Write.contents l.initial.output) (bytes_held g.W.Write.contents l.output)
      (concat (map line_of (take l.event-index l.events)));
}
