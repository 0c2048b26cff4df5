-- From what is said of a text to how its explaining ends
use Rattle.std.proofs.Common.{◌≡◌, ◌∙◌, ℕ, List, Option, Some, Result, Ok, Err, IfOk, OnErr, ap, arith, inl, inr, refl}
use Rattle.std.proofs.Common.{subst, sym}
use Rattle.std.specs.Prelude.{◌⊎◌}
use Rattle.std.specs.Io.KnownBytes.{Appends}
use Rattle.cell_rows.specs.Rows.{rows_of}
use Rattle.cell_rows.specs.Scripts.{Reading}
use Rattle.cell_rows.specs.declared.script.LineError.TheVariants as line
use Rattle.cell_types.specs.declared.words.Totals.{Totals}
use Rattle.cell_rules.specs.declared.refusal.Refusal.{Refusal}
use Rattle.cell_audit.specs.declared.error.AuditError.{AuditError}
use Rattle.cell_audit.specs.declared.error.AuditError.TheVariants as error
use Rattle.cell_audit.specs.Meaning.{Due, IsFault}
use Rattle.cell_audit.specs.Lines.{IsAnswer, TellsAudit, lines_of, status_of}
use Rattle.cell_settings.specs.declared.error.SettingsError.TheVariants as settings
use Rattle.cell_explain.specs.Explained.{EndsAsAudit, EndsAsCheck, EndsAsLines}
use Rattle.cell_explain.specs.Scripts.{SaysScript}
use Rattle.cell_explain.specs.Settings.{SaysSettings}
use Rattle.cell_explain.specs.Told.{SaysAudit, SaysJournal, SaysNothing, SaysOf, SaysRefusal, SaysRefused}
use Rattle.cell_explain.specs.Told.{SaysUnreadable, Tells, WritesSaying}

-- what holds of the status of what is said holds of the status that is given
pub ended : {E : Type 0} (r : Result ℕ E) (old new : Option (List ℕ)) (status : ℕ) (saying : List ℕ) (P : ℕ → Type 0)
    → IfOk r (WritesSaying old new status saying) → P status → IfOk r P
ended (Ok s) old new status saying P (written, is) p = subst P (sym is) p
ended (Err e) old new status saying P written p = tt

-- what is said was written
pub tells : {E : Type 0} (r : Result ℕ E) (old new : Option (List ℕ)) (status : ℕ) (saying : List ℕ) (says : ℕ → List ℕ
    → Type 0)
    → IfOk r (WritesSaying old new status saying) → says status saying → IfOk r (λ s. Tells (says s) old new)
tells (Ok s) old new status saying says (written, is) p = (saying, subst (λ n. says n saying) (sym is) p, written)
tells (Err e) old new status saying says written p = tt

-- where memory is refused, want of memory is an answer that any settings may get
pub settings-end : (text : List ℕ) (status : ℕ) (saying : List ℕ) → SaysSettings text status saying
    → EndsAsCheck text status
settings-end text status saying (answer, due, inl (second, says, is, ends)) = (answer, due, ends)
settings-end text status saying (answer, due, inr (ends, none)) =
    (Err settings.OutOfMemory, record { due = λ _. tt; bytes = λ _. tt }, ends)

-- the same of a script
pub script-end : {L : Type 0} (read : Reading L) (text : List ℕ) (status : ℕ) (name saying : List ℕ)
    → SaysScript name read text status saying → EndsAsLines read text status
script-end read text status name saying (answer, gives, inl (says, ends)) = (answer, gives, ends)
script-end read text status name saying (answer, gives, inr (ends, none)) = (Err line.OutOfMemory, tt, ends)

pub journal-end : (text : List ℕ) (status : ℕ) (saying : List ℕ) → SaysJournal text status saying
    → EndsAsAudit text status
journal-end text status saying (answer, due, says, ends) = (answer, due, ends)

-- what is said with status 0 is the audit's lines
pub legal-lines : {E : Type 0} (r : Result ℕ E) (old new : Option (List ℕ)) (text : List ℕ) (status : ℕ)
    (saying : List ℕ)
    → IfOk r (WritesSaying old new status saying) → SaysJournal text status saying
    → IfOk r (λ s. s ≡ 0 → TellsAudit (Some text) old new s)
legal-lines (Ok s) old new text status saying (written, is) (Ok totals, due, says, ends) =
    λ zero. (Ok totals, due, (subst (Appends old new) says written, is ∙ ends))
legal-lines (Ok s) old new text status saying (written, is) (Err (error.Unreadable n), due, says, ends) =
    λ zero. absurd (omega arith)
legal-lines (Ok s) old new text status saying (written, is) (Err (error.Refused n why), due, says, ends) =
    λ zero. absurd (omega arith)
legal-lines (Ok s) old new text status saying (written, is) (Err error.ReadFault, due, says, ends) =
    λ zero. absurd (omega arith)
legal-lines (Ok s) old new text status saying (written, is) (Err error.OutOfMemory, due, says, ends) =
    λ zero. absurd (omega arith)
legal-lines (Err e) old new text status saying written says = tt

-- nothing is said of an answer on the reader or on memory
fault-says : (text : List ℕ) (answer : Result (ℕ × Totals) AuditError) (saying : List ℕ) → IsFault answer
    → saying ≡ lines_of answer → SaysOf text answer saying
fault-says text answer saying (inl is) said = subst (λ a. SaysOf text a saying) (sym is) (said ∙ ap lines_of is)
fault-says text answer saying (inr is) said = subst (λ a. SaysOf text a saying) (sym is) (said ∙ ap lines_of is)

no-fault : (totals : ℕ × Totals) → IsFault (Ok totals) → ⊥
no-fault totals (inl is) = cc is
no-fault totals (inr is) = cc is

-- of a text that was found legal the audit's lines are said
pub journal-legal : (text : List ℕ) (totals : ℕ × Totals) (status : ℕ) (saying : List ℕ)
    → IsFault (Ok totals) ⊎ Due (rows_of text) (Ok totals) → SaysAudit text status saying
    → SaysJournal text status saying
journal-legal text totals status saying (inl fault) says = absurd (no-fault totals fault)
journal-legal text totals status saying (inr due) (answer, (right, only), is, ends) = elim (only (Ok totals) due) [
  | inl same ↦ (answer, (right, only), subst (λ a. SaysOf text a saying) (sym same) (is ∙ ap lines_of same), ends)
  | inr fault ↦ (answer, (right, only), fault-says text answer saying fault is, ends)
]

-- any text may get an answer on memory, and of that one nothing has to be said
pub journal-nothing : (text : List ℕ) (status : ℕ) (saying : List ℕ) → SaysNothing status saying
    → SaysJournal text status saying
journal-nothing text status saying (four, none) =
    (Err error.OutOfMemory, (inl (inr refl), λ due is. inr (inr refl)), none, four)

-- a refused text is told by its answer
pub journal-refused : (text : List ℕ) (answer : Result (ℕ × Totals) AuditError) (status : ℕ) (saying : List ℕ)
    → IsAnswer text answer → status_of answer ≡ 1 → SaysRefusal (SaysOf text answer) status saying
    → SaysJournal text status saying
journal-refused text answer status saying due one (inl (is, says)) = (answer, due, says, is ∙ sym one)
journal-refused text answer status saying due one (inr none) = journal-nothing text status saying none

-- a line is said, or memory was refused
pub line-refused : {S E : Type 0} (r : Result S E) (bytes : S → List ℕ) (says : List ℕ
    → Type 0) (status : ℕ) (saying : List ℕ)
    → IfOk r (λ _. status ≡ 1) → IfOk r (λ text. saying ≡ bytes text) → OnErr r (SaysNothing status saying)
    → IfOk r (λ text. says (bytes text))
    → SaysRefusal says status saying
line-refused (Ok x) bytes says status saying is line none p = inl (is, subst says (sym line) p)
line-refused (Err e) bytes says status saying is line none p = inr none

-- a text with an unreadable record is told by it
pub journal-unreadable : (text : List ℕ) (e : AuditError) (n status : ℕ) (saying : List ℕ) → e ≡ error.Unreadable n
    → IsAnswer text (Err e)
    → SaysRefusal (SaysUnreadable text n) status saying → SaysJournal text status saying
journal-unreadable text e n status saying is due says =
    journal-refused text (Err (error.Unreadable n)) status saying (subst (λ a. IsAnswer text (Err a)) is due) refl says

-- a text with a refused entry is told by it
pub journal-entry : (text : List ℕ) (e : AuditError) (n : ℕ) (why : Refusal) (status : ℕ) (saying : List ℕ)
    → e ≡ error.Refused n why → IsAnswer text (Err e)
    → SaysRefusal (SaysRefused text n why) status saying → SaysJournal text status saying
journal-entry text e n why status saying is due says =
    journal-refused text (Err (error.Refused n why)) status saying (subst (λ a. IsAnswer text (Err a)) is due) refl says
