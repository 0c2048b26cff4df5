-- What holds of what a command ends with, unless the system failed
use Rattle.std.proofs.Common.{◌≡◌, ◌∙◌, ℕ, Option, Some, Result, Ok, Err, ap, rules, subst, sym}
use Rattle.std.specs.Prelude.{IfOk, IfSome, IsErr, MatchResult}
use Rattle.cell_output.specs.declared.watched.WriteFault.{WriteFault}
use Rattle.cell_orders.specs.Commands.{IfTold, outcome_of}
use Rattle.cell_orders.specs.declared.error.CommandError.{CommandError}
use Rattle.cell_orders.specs.declared.error.CommandError.TheVariants as kinds

-- what holds anyway
pub told-anyway : (r : Result ℕ CommandError) (P : Type 0) → P → IfTold r (λ _. P)
told-anyway (Ok s) P p = p
told-anyway (Err (kinds.Write fault)) P p = p
told-anyway (Err (kinds.System failure)) P p = tt

-- a command that ends as something that was written tells that
pub told-as : (r s : Result ℕ CommandError) (w : Result ℕ WriteFault) (P : Result ℕ WriteFault → Type 0)
    → IfTold r (λ _. r ≡ s) → outcome_of s ≡ Some w → P w → IfTold r P
told-as (Ok n) s w P same is p =
    subst (λ (o : Option (Result ℕ WriteFault)). IfSome o P) (sym (ap outcome_of same ∙ is)) p
told-as (Err (kinds.Write fault)) s w P same is p =
    subst (λ (o : Option (Result ℕ WriteFault)). IfSome o P) (sym (ap outcome_of same ∙ is)) p
told-as (Err (kinds.System failure)) s w P same is p = tt

-- one that ends as another with a status has what holds of that status
pub ok-as : (r s : Result ℕ CommandError) (P : ℕ → Type 0) → IfTold r (λ _. r ≡ s) → IfOk s P → IfOk r P
ok-as (Ok n) s P same p = subst (λ (x : Result ℕ CommandError). IfOk x P) (sym same) p
ok-as (Err e) s P same p = tt

-- what was written with a status, or where a write was refused
pub whole-or-part : (w : Result ℕ WriteFault) (P : ℕ → Type 0) (Q : Type 0) → IfOk w P → (IsErr w → Q)
    → MatchResult w P (λ _. Q)
whole-or-part (Ok status) P Q whole part = whole
whole-or-part (Err fault) P Q whole part = part (search rules)
