-- A step that gives an error stops the reading, and the steps before it gave what is due
use Rattle.std.proofs.Common.{refl}
use Rattle.cell_settings.specs.Settings.{numbers_due}
use Rattle.cell_settings.proofs.Steps.{stops}
use Rattle.cell_settings.proofs.read.plan.Goals as goal

pub returns : goal.returns
unfolding numbers_due
returns c = rw (
  c.in_ok-plates.ensures.due,
  c.in_ok-journal_limit.ensures.due,
  c.in_ok-turns.ensures.due,
  c.in_ok-limits.ensures,
) refl

pub returns-in_err-plates : goal.returns-in_err-plates
unfolding numbers_due
returns-in_err-plates c = stops _ _ _ _ c.from_residual.ensures.1 c.in_err-plates.ensures.due

pub returns-in_err-journal_limit : goal.returns-in_err-journal_limit
unfolding numbers_due
returns-in_err-journal_limit c =
    rw (c.in_ok-plates.ensures.due) (stops _ _ _ _ c.from_residual-in_err-journal_limit.ensures.1
    c.in_err-journal_limit.ensures.due)

pub returns-in_err-turns : goal.returns-in_err-turns
unfolding numbers_due
returns-in_err-turns c =
    rw (c.in_ok-plates.ensures.due, c.in_ok-journal_limit.ensures.due)
    (stops _ _ _ _ c.from_residual-in_err-turns.ensures.1 c.in_err-turns.ensures.due)

pub returns-in_err-limits : goal.returns-in_err-limits
unfolding numbers_due
returns-in_err-limits c =
    rw (c.in_ok-plates.ensures.due, c.in_ok-journal_limit.ensures.due, c.in_ok-turns.ensures.due)
    (stops _ _ _ _ c.from_residual-in_err-limits.ensures.1 c.in_err-limits.ensures)
