use Rattle.std.proofs.Common.{rules, ◌∙◌, false, Err, ap, refl, sym}
use Rattle.cell_rules.specs.Legal.{first_of}
use Rattle.cell_rules.specs.Views.{is_quarantined}
use Rattle.cell_method.specs.declared.error.DriveError.TheVariants as error
use Rattle.cell_method.proofs.Turns.{broke-told, broke-unbooked, err-of, operates-done}
use Rattle.cell_method.proofs.operator.operate.Goals as goal

-- his action was done and booked, so his hands haven't failed
pub returns-clause-operates : goal.returns-clause-operates
returns-clause-operates g c = (
  false,
  λ s n j desk. operates-done _ _ _ _ _ _ _ _ _ _ _ n _ _ c.in-Some.action
      j desk (search rules) (sym c.in-Some.ensures) (search rules) (search rules) (search rules) (search rules)
      (search rules),
)

-- only memory can be refused, since what the script says next is allowed
pub returns-in-Err-clause-broke : goal.returns-in-Err-clause-broke
returns-in-Err-clause-broke g c =
    let same = sym c.entry_of-entry.ensures in
    λ s n j desk. broke-unbooked _ _ _ s _ _ _ _ _ _ n c.in-Some.action c.in-Err.field-0
    j desk (search rules) (sym c.in-Some.ensures)
    (λ isnt. ap (λ e. first_of c.args.book.now.limits c.args.book.now.entries e) same ∙ c.in-Err.ensures.refused isnt)
    (λ is. ap is_quarantined same ∙ (c.in-Err.ensures.memory (ap Err is)).1) (search rules) (search rules)
    (search rules)

pub returns-in_err-write_line-clause-broke : goal.returns-in_err-write_line-clause-broke
returns-in_err-write_line-clause-broke g c = err-of _ error.WriteFault _ c.from_residual.ensures.1 (λ s n j desk.
    broke-told _ _ _ _ _ _ _ _ _ _ _ n c.in-Some.action refl j desk (search rules) (sym c.in-Some.ensures)
    (search rules) (search rules) (search rules))
