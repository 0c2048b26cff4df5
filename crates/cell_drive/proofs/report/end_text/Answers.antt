-- The pieces, put together from the left or from the right, are the same text
use Rattle.std.proofs.Common.{◌∙◌, ap, Vec, Global, ℕ}
use Rattle.cell_drive.specs.Drives.{end_words}
use Rattle.cell_drive.proofs.Telling.{end-pieces}
use Rattle.cell_drive.proofs.report.end_text.Goals as goal

pub returns : goal.returns
returns c = ap (λ (v : Vec ℕ Global). v.items) c.into_bytes.ensures.value
    ∙ end-pieces _ _ (end_words c.args.end) c.args.totals c.in_ok-text.ensures.ok c.end_words.ensures
