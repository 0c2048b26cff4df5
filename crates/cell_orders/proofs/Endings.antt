-- What holds of an explanation's status holds of the status with which the command ends.
use Rattle.std.proofs.Common.{◌≡◌, ℕ, List, Option, None, Some, Result, Ok, Err, inl, inr, refl, sym, subst}
use Rattle.std.specs.Prelude.{◌⊎◌, IfOk, IfSome}
use Rattle.cell_audit.specs.declared.error.AuditError.TheVariants as audit
use Rattle.cell_output.specs.declared.watched.WriteFault.{WriteFault}
use Rattle.cell_explain.specs.Explained.{EndsAsAudit, EndsAsFaults, EndsAsScript}
use Rattle.cell_rows.specs.declared.script.LineError.TheVariants as line

-- an explanation of a record that was cut ends as the one that was made, or for want of memory
pub cut-ends : (s : ℕ) (explained : Result ℕ WriteFault) (P : ℕ → Type 0)
    → (s ≡ 4) ⊎ (explained ≡ Ok s) → IfOk explained P → P 4 → P s
cut-ends s explained P (inl is) ended four = subst P (sym is) four
cut-ends s explained P (inr is) ended four = subst (λ (v : Result ℕ WriteFault). IfOk v P) is ended

-- explaining judges the text again, which ends as the first judging did, or for want of memory
pub as-ends : (s due : ℕ) (P : ℕ → Type 0) → (s ≡ due) ⊎ (s ≡ 4) → P due → P 4 → P s
as-ends s due P (inl is) ended four = subst P (sym is) ended
as-ends s due P (inr is) ended four = subst P (sym is) four

-- want of memory is an answer to any text
pub audit-wants : (text : List ℕ) → EndsAsAudit text 4
audit-wants text = (Err audit.OutOfMemory, (inl (inr refl), λ due is. inr (inr refl)), refl)

pub faults-want : (text : List ℕ) → EndsAsFaults text 4
faults-want text = (Err line.OutOfMemory, tt, refl)

pub operator-wants : (text : List ℕ) → EndsAsScript text 4
operator-wants text = (Err line.OutOfMemory, tt, refl)

pub known-wants : (known : Option (List ℕ)) → IfSome known (λ text. EndsAsAudit text 4)
known-wants None = tt
known-wants (Some text) = audit-wants text

-- what holds of a text, where that is known
pub of-known : (known : Option (List ℕ)) (P Q R : List ℕ → Type 0) → ((text : List ℕ) → P text → Q text → R text)
    → IfSome known P → IfSome known Q → IfSome known R
of-known None P Q R give p q = tt
of-known (Some text) P Q R give p q = give text p q
