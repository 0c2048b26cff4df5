-- What was written for a run, by what its call answered
use Rattle.std.proofs.Common.{◌≡◌, ℕ, List, Option, Result, Ok, Err, rules, subst, sym}
use Rattle.std.specs.Prelude.{IfErr, IfOk, IsErr, MatchResult}
use Rattle.cell_audit.specs.Lines.{WritesAnswer, lines_of}
use Rattle.cell_audit.specs.declared.error.AuditError.{AuditError}
use Rattle.cell_audit.specs.declared.read.Audited.{Audited}
use Rattle.cell_audit.proofs.Possible.{answer-due}
use Rattle.cell_output.specs.Watched.{WritesPart}
use Rattle.cell_output.specs.declared.watched.WriteFault.{WriteFault}
use Rattle.cell_runs.specs.Told.{IsRead, PartOfRefused, TellsRefused}
use Rattle.cell_runs.specs.declared.texts.Left.{Left}
use Rattle.cell_runs.proofs.Telling.{read-refused}
use Rattle.cellctl.specs.Carried.{RefusesJournal}

-- what is handed on beside a run's answer leaves that answer as it is
pub as-answered : (ran : Result (ℕ × Left) WriteFault) (written : Result ℕ WriteFault) (P : ℕ → Type 0) (Q : Type 0)
    → IfOk ran (λ told. written ≡ Ok told.0) → IfErr ran (λ e. written ≡ Err e) → IfOk ran (λ told. P told.0)
    → (IsErr ran → Q) → MatchResult written P (λ _. Q)
as-answered (Ok told) written P Q ok err whole part = subst (λ (w : Result ℕ WriteFault). MatchResult w P (λ _. Q))
    (sym ok) whole
as-answered (Err e) written P Q ok err whole part = subst (λ (w : Result ℕ WriteFault). MatchResult w P (λ _. Q))
    (sym err) (part (search rules))

-- what an audit tells of a text that is refused
pub refused-read : (reading : Audited) (text : List ℕ) (why : AuditError) (old new : Option (List ℕ))
    (written : Result ℕ WriteFault)
    → reading.answer ≡ Err why → IsRead reading text
    → IfOk written (WritesAnswer old new (Err why)) → (IsErr written → WritesPart old new (lines_of (Err why)))
    → RefusesJournal old new written
refused-read reading text why old new (Ok status) is read writes part =
    (text, (why, answer-due text (Err why) (read-refused reading text why is read), writes))
refused-read reading text why old new (Err e) is read writes part =
    (text, (why, answer-due text (Err why) (read-refused reading text why is read), part (search rules)))
