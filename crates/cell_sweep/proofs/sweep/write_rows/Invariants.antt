-- The loop over the places of runs
use Rattle.std.proofs.Common.{◌-◌, ◌≤◌, drop, take}
use Rattle.cell_output.specs.Watched.{IsSameWriter, bytes_held}
use Rattle.cell_sweep.specs.Cases.{cases_of, motions_of}
use Rattle.cell_sweep.specs.Sweeps.{TellsCases, wanted_by}
use Rattle.cell_sweep.proofs.sweep.write_rows.Given as goal

-- the writer is the same, and the runs so far are told
abbrev pub invariant-loop-place : goal.invariant-loop-place
invariant-loop-place g l =
    IsSameWriter l.fn.writer l.writer × (l.place - l.batch.span.begin ≤ l.batch.span.end - l.batch.span.begin)
    × TellsCases l.task.settings.now.text.now l.task.operator.now (wanted_by l.task.sweep)
    (take (l.place - l.batch.span.begin) (drop l.batch.span.begin
    (cases_of l.task.sweep.choice l.places.kinds.now (motions_of l.places.counts))))
    (bytes_held g.W.Write.contents l.fn.writer) (bytes_held g.W.Write.contents l.writer)
