-- The pieces, put together from the left or from the right, are the same text
use Rattle.std.proofs.Common.{◌∙◌, ap, Vec, Global, ℕ}
use Rattle.cell_drive.proofs.Telling.{count-pieces}
use Rattle.cell_drive.proofs.by_commands.counts_text.Goals as goal

pub returns : goal.returns
returns c = ap (λ (v : Vec ℕ Global). v.items) c.into_bytes.ensures.value
    ∙ count-pieces _ _ _ _ c.in_ok-text.ensures.ok
