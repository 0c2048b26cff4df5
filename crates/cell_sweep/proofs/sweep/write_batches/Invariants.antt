-- The loop over the batches
use Rattle.std.proofs.Common.{◌-◌, ◌≤◌}
use Rattle.cell_output.specs.Watched.{IsSameWriter, bytes_held}
use Rattle.cell_sweep.specs.Batches.{cases_between}
use Rattle.cell_sweep.specs.Cases.{cases_of, motions_of}
use Rattle.cell_sweep.specs.Sweeps.{TellsCases, wanted_by}
use Rattle.cell_sweep.proofs.sweep.write_batches.Given as goal

-- the writer is the same, and the runs so far are told
abbrev pub invariant-loop-begin : goal.invariant-loop-begin
invariant-loop-begin g l =
    IsSameWriter l.fn.writer l.writer × (l.fn.span.begin ≤ l.begin)
    × (l.begin - l.fn.span.begin ≤ l.fn.span.end - l.fn.span.begin)
    × TellsCases l.task.settings.now.text.now l.task.operator.now (wanted_by l.task.sweep)
    (cases_between (cases_of l.task.sweep.choice l.places.kinds.now (motions_of l.places.counts)) l.fn.span.begin
    l.begin)
    (bytes_held g.W.Write.contents l.fn.writer) (bytes_held g.W.Write.contents l.writer)

abbrev pub decreases-loop-begin : goal.decreases-loop-begin
decreases-loop-begin g l = l.fn.span.end - l.begin
