-- What holds of a command's status holds of what was written for its order
use Rattle.std.proofs.Common.{ℕ, Result, Ok, Err}
use Rattle.std.specs.Prelude.{IfOk, IfSome}
use Rattle.cell_orders.specs.Commands.{outcome_of}
use Rattle.cell_orders.specs.declared.error.CommandError.{CommandError}
use Rattle.cell_orders.specs.declared.error.CommandError.TheVariants as kinds

pub told-ok : (r : Result ℕ CommandError) (P : ℕ → Type 0) → IfOk r P → IfSome (outcome_of r) (λ w. IfOk w P)
told-ok (Ok status) P p = p
told-ok (Err (kinds.Write fault)) P p = tt
told-ok (Err (kinds.System failure)) P p = tt
