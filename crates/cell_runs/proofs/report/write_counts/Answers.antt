-- The lines are written in pieces, which together are the first line and those of the totals
use Rattle.std.proofs.Common.{◌∙◌, subst}
use Rattle.std.specs.Prelude.{OnOk}
use Rattle.std.specs.Io.KnownBytes.{Appends}
use Rattle.cell_output.specs.Watched.{WritesPart}
use Rattle.cell_runs.proofs.Counts.{pieces-counts}
use Rattle.cell_runs.proofs.report.write_counts.Goals as goal

pub returns-clause-whole : goal.returns-clause-whole
returns-clause-whole g c =
    subst (λ text. OnOk c.write_pieces.result
    (Appends (g.W.Write.contents c.args.writer.now.writer.now)
    (g.W.Write.contents c.write_pieces.new.self.writer.now) text))
    (pieces-counts c.args.first.now c.args.totals _ _ _ _ _ c.as_bytes.ensures.value (c.as_bytes-2.ensures.value
    ∙ c.format.ensures.text)
    (c.as_bytes-3.ensures.value ∙ c.format-2.ensures.text) (c.as_bytes-4.ensures.value ∙ c.format-3.ensures.text)
    (c.as_bytes-5.ensures.value ∙ c.format-4.ensures.text))
    c.write_pieces.ensures.whole

pub returns-clause-part : goal.returns-clause-part
returns-clause-part g c = λ failed.
    subst (λ text. WritesPart (g.W.Write.contents c.args.writer.now.writer.now)
    (g.W.Write.contents c.write_pieces.new.self.writer.now) text)
    (pieces-counts c.args.first.now c.args.totals _ _ _ _ _ c.as_bytes.ensures.value (c.as_bytes-2.ensures.value
    ∙ c.format.ensures.text)
    (c.as_bytes-3.ensures.value ∙ c.format-2.ensures.text) (c.as_bytes-4.ensures.value ∙ c.format-3.ensures.text)
    (c.as_bytes-5.ensures.value ∙ c.format-4.ensures.text))
    (c.write_pieces.ensures.part failed)
