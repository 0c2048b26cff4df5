use Rattle.std.proofs.Common.{◌∙◌, ◌&&◌, Bool, ap, sym}
use Rattle.cell_drive.proofs.by_commands.is_done.Goals as goal

pub returns-then-is_at_rest : goal.returns-then-is_at_rest
returns-then-is_at_rest c = (
  c.are_laid-are_laid.result,
  c.are_laid-are_laid.ensures,
  ap (λ (b : Bool). b && c.are_laid-are_laid.result) (sym c.if-is_at_rest.true ∙ c.is_at_rest.ensures),
)

pub returns-else-is_at_rest : goal.returns-else-is_at_rest
returns-else-is_at_rest c = (
  c.are_laid-are_laid.result,
  c.are_laid-are_laid.ensures,
  c.if-is_at_rest.false
      ∙ ap (λ (b : Bool). b && c.are_laid-are_laid.result) (sym c.if-is_at_rest.false ∙ c.is_at_rest.ensures),
)
