-- The pieces that are written are the lines of the totals, so a part of them is a part of these lines
use Rattle.std.proofs.Common.{◌∙◌, subst}
use Rattle.std.specs.Prelude.{OnOk}
use Rattle.std.specs.Io.KnownBytes.{Appends}
use Rattle.cell_output.specs.Watched.{WritesPart}
use Rattle.cell_audit.proofs.Totals.{pieces-totals}
use Rattle.cell_audit.proofs.lines.write_totals.Goals as goal

pub returns-clause-whole : goal.returns-clause-whole
returns-clause-whole g c =
    subst (λ text. OnOk c.write_pieces.result
    (Appends (g.W.Write.contents c.args.writer.now.writer.now)
    (g.W.Write.contents c.write_pieces.new.self.writer.now) text))
    (pieces-totals c.args.number c.args.totals _ _ _ _ _ _ _ (c.as_bytes.ensures.value ∙ c.format-2.ensures.text)
    (c.as_bytes-2.ensures.value ∙ c.format-3.ensures.text)
    (c.as_bytes-3.ensures.value ∙ c.format-4.ensures.text) (c.as_bytes-4.ensures.value ∙ c.format-5.ensures.text)
    (c.as_bytes-5.ensures.value ∙ c.format-6.ensures.text)
    (λ is. ((c.sixth_line-sixth.ensures.two is).0, (c.sixth_line-sixth.ensures.two is).1 ∙ c.format.ensures.text))
    c.sixth_line-sixth.ensures.other)
    c.write_pieces.ensures.whole

pub returns-clause-part : goal.returns-clause-part
returns-clause-part g c = λ failed.
    subst (λ text. WritesPart (g.W.Write.contents c.args.writer.now.writer.now)
    (g.W.Write.contents c.write_pieces.new.self.writer.now) text)
    (pieces-totals c.args.number c.args.totals _ _ _ _ _ _ _ (c.as_bytes.ensures.value ∙ c.format-2.ensures.text)
    (c.as_bytes-2.ensures.value ∙ c.format-3.ensures.text)
    (c.as_bytes-3.ensures.value ∙ c.format-4.ensures.text) (c.as_bytes-4.ensures.value ∙ c.format-5.ensures.text)
    (c.as_bytes-5.ensures.value ∙ c.format-6.ensures.text)
    (λ is. ((c.sixth_line-sixth.ensures.two is).0, (c.sixth_line-sixth.ensures.two is).1 ∙ c.format.ensures.text))
    c.sixth_line-sixth.ensures.other)
    (c.write_pieces.ensures.part failed)
