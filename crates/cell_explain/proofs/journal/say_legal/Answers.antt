-- Where memory is refused for the lines, that is an answer that any text may get
use Rattle.std.proofs.Common.{Err, refl, inl, inr}
use Rattle.cell_audit.specs.declared.error.AuditError.TheVariants as error
use Rattle.cell_explain.proofs.journal.say_legal.Goals as goal

pub returns-in-Err : goal.returns-in-Err
returns-in-Err c = (
  Err error.OutOfMemory,
  (inl (inr refl), λ due is. inr (inr refl)),
  c.nothing.ensures.1,
  c.nothing.ensures.0,
)
