-- The measures are written behind what the run wrote
use Rattle.cell_output.specs.Watched.{bytes_held}
use Rattle.cell_runs.specs.Runs.{kept_of}
use Rattle.cellctl.proofs.least.run_least.Goals as goal

pub returns : goal.returns
returns g c = (
  bytes_held g.W.Write.contents c.run_kept.new.writer,
  c.in_ok-status.status,
  (kept_of c.in_ok-status.left, c.in_ok-status.ensures.whole),
  c.in_ok-both.ensures,
)
