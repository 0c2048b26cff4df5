-- What is printed of an audit's answer that isn't legal
use Rattle.std.specs.Prelude.{ℕ, List, ◌∷◌, ◌++◌, codes, decimal}
use Rattle.cell_rules.specs.Words.{refusal_text}
use Rattle.cell_audit.specs.declared.error.AuditError.{AuditError}
use Rattle.cell_audit.specs.declared.error.AuditError.TheVariants as error

abbrev pub answer_text : AuditError → List ℕ
answer_text (error.Unreadable i) = codes "unreadable " ++ decimal i
answer_text (error.Refused i why) = codes "refused " ++ (decimal i ++ 32 ∷ refusal_text why)
answer_text error.ReadFault = codes "read fault"
answer_text error.OutOfMemory = codes "out of memory"
