use Rattle.cell_lines.proofs.Sending.{wrote-all, wrote-still}
use Rattle.cell_lines.proofs.far_end.FarEnd.ask.Goals as goal

-- the line was written, but no answer came
pub returns-clause-gone : goal.returns-clause-gone
returns-clause-gone g c = λ failed. record {
  bytes = wrote-still _ _ _ _ (wrote-all _ _ _ c.in_ok-send.ensures.whole.bytes) c.answer.ensures.silent;
  lost = c.answer.ensures.lost failed;
}
