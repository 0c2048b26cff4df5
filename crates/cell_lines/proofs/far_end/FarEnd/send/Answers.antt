use Rattle.std.proofs.Common.{ap}
use Rattle.std.proofs.KnownBytes.{Appends-kept}
use Rattle.cell_lines.proofs.Sending.{wrote-all, wrote-still}
use Rattle.cell_lines.proofs.far_end.FarEnd.send.Goals as goal

-- all was written, but maybe not written out
pub returns-in-Err-clause-gone : goal.returns-in-Err-clause-gone
returns-in-Err-clause-gone g c = λ _. record {
  bytes = wrote-still _ _ _ _
      (wrote-all _ _ _ (Appends-kept _ _ _ _ c.in_ok-write.ensures.whole.bytes c.in-Err.ensures.bytes))
      (ap g.W.Write.contents c.lose.ensures.writer);
  lost = c.lose.ensures.lost;
}
