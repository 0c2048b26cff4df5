use Rattle.cell_lines.proofs.Sending.{wrote-all, wrote-still}
use Rattle.cell_lines.proofs.far_end.FarEnd.sync.Goals as goal

-- the line was written, and the run wasn't found
pub returns-clause-gone : goal.returns-clause-gone
returns-clause-gone g c = λ failed. record {
  bytes = wrote-still _ _ _ _ (wrote-all _ _ _ c.in_ok-send.ensures.whole.bytes) c.find.ensures.silent;
  lost = c.find.ensures.lost failed;
}
