-- What is printed of a journal that was followed
use Rattle.std.proofs.Common.{◌≡◌, ◌⊎◌, inl, inr, ℕ, Bool, List, Option, Some, Result, Ok, Err, refl, subst}
use Rattle.std.specs.Prelude.{IfOk}
use Rattle.cell_types.specs.declared.words.Entry.{Entry}
use Rattle.cell_types.specs.declared.words.Totals.{Totals}
use Rattle.cell_rows.specs.Rows.{rows_of}
use Rattle.cell_ports.specs.declared.plan.Plan.{Plan}
use Rattle.cell_audit.specs.Meaning.{Due, IsFault}
use Rattle.cell_audit.specs.Reading.{IsBefore, SpellsFirst}
use Rattle.cell_output.specs.Watched.{WritesPart}
use Rattle.cell_audit.specs.declared.error.AuditError.{AuditError}
use Rattle.cell_audit.specs.Lines.{WritesAnswer, lines_of}
use Rattle.cell_audit.specs.declared.read.Audited.{Audited}
use Rattle.cell_audit.proofs.Possible.{answer-due}
use Rattle.cell_output.specs.declared.watched.WriteFault.{WriteFault}
use Rattle.operator_desk.specs.declared.line.Line.{Line}
use Rattle.cell_runs.specs.Followed.{IsFollowed}
use Rattle.cell_runs.specs.Runs.{kept, limits_of}
use Rattle.cell_runs.specs.Told.{AreEntries, IsRead, PartOfFollowed, PartOfRefused, PrintsOrLacks, TellsRefused}
use Rattle.cell_runs.specs.Told.{WritesFollowed, end_of, followed_status, followed_text}
use Rattle.cell_runs.specs.declared.follow.Followed.{Followed}

-- printing looks at the outcome alone, so by which plan and script it came about may be told afterwards
pub followed-printed : {E : Type 0} (r : Result ℕ E) (alone : Bool) (how : Followed) (J : List Entry) (text : List ℕ)
    (old new : Option (List ℕ))
    → text ≡ followed_text alone how J → IfOk r (PrintsOrLacks text (followed_status how) old new)
    → IfOk r (λ status. (plan : Plan) (script : List Line) (journal : List Entry)
    → IsFollowed (limits_of plan) plan script journal J how
    → WritesFollowed alone plan script journal old new status (Some (kept J (end_of how) plan)))
followed-printed (Ok status) alone how J text old new same printed = λ plan script journal is.
    inl (how, J, is, subst (λ (t : List ℕ). PrintsOrLacks t (followed_status how) old new status) same printed, refl)
followed-printed (Err e) alone how J text old new same printed = printed

-- the same where a write was refused on the way
pub followed-in-part : (alone : Bool) (how : Followed) (J : List Entry) (text : List ℕ) (old new : Option (List ℕ))
    → text ≡ followed_text alone how J → WritesPart old new text
    → (plan : Plan) (script : List Line) (journal : List Entry) → IsFollowed (limits_of plan) plan script journal J how
    → PartOfFollowed alone plan script journal old new
followed-in-part alone how J text old new same part =
    λ plan script journal is. (how, J, is, subst (λ (t : List ℕ). WritesPart old new t) same part)

-- the entries of a text that an audit finds legal
no_fault : (told : ℕ × Totals) → IsFault (Ok told) → ⊥
no_fault told (inl h) = cc
no_fault told (inr h) = cc

-- an answer with counts is no fault of the reader or of memory, so it is the one that is due
are_entries : (text : List ℕ) (told : ℕ × Totals) (J : List Entry) → IsFault (Ok told) ⊎ Due (rows_of text) (Ok told)
    → IsBefore (Ok told) J → SpellsFirst J (rows_of text) → AreEntries text J
are_entries text told J (inl fault) before first = absurd (no_fault told fault)
are_entries text (number, totals) J (inr due) before first =
    (first, (number, subst (λ (t : Totals). Due (rows_of text) (Ok (number, t))) before due))

pub entries-read : (text : List ℕ) (answer : Result (ℕ × Totals) AuditError) (told : ℕ × Totals) (J : List Entry)
    → answer ≡ Ok told → IsFault answer ⊎ Due (rows_of text) answer → IsBefore answer J → SpellsFirst J (rows_of text)
    → AreEntries text J
entries-read text answer told J is due before first =
    are_entries text told J (subst (λ (a : Result (ℕ × Totals) AuditError). IsFault a ⊎ Due (rows_of text) a) is due)
    (subst (λ (a : Result (ℕ × Totals) AuditError). IsBefore a J) is before) first

-- so they are where they were read with that answer
pub read-entries : (reading : Audited) (text : List ℕ) (told : ℕ × Totals) → reading.answer ≡ Ok told
    → IsRead reading text → AreEntries text reading.book.entries
read-entries reading text told is ((due, first), before) =
    entries-read text reading.answer told reading.book.entries is due before first

-- the error of a text that is refused is due for it
pub read-refused : (reading : Audited) (text : List ℕ) (why : AuditError) → reading.answer ≡ Err why
    → IsRead reading text → IsFault (Err why) ⊎ Due (rows_of text) (Err why)
read-refused reading text why is ((due, first), before) =
    subst (λ (a : Result (ℕ × Totals) AuditError). IsFault a ⊎ Due (rows_of text) a) is due

-- and its lines are those of an answer to the text
pub refused-told : (text : List ℕ) (why : AuditError) (old new : Option (List ℕ)) (written : Result ℕ WriteFault)
    → IsFault (Err why) ⊎ Due (rows_of text) (Err why) → IfOk written (WritesAnswer old new (Err why))
    → IfOk written (TellsRefused text old new)
refused-told text why old new (Ok status) due writes = (why, answer-due text (Err why) due, writes)
refused-told text why old new (Err e) due writes = tt

-- the same where a write was refused on the way
pub refused-in-part : (text : List ℕ) (why : AuditError) (old new : Option (List ℕ))
    → IsFault (Err why) ⊎ Due (rows_of text) (Err why) → WritesPart old new (lines_of (Err why))
    → PartOfRefused text old new
refused-in-part text why old new due part = (why, answer-due text (Err why) due, part)

-- what holds of what one writer held and holds, holds of what another one did that held and holds the same
pub as-held : (P : Option (List ℕ) → Option (List ℕ) → Type 0) (old new before after : Option (List ℕ)) → old ≡ before
    → new ≡ after → P old new → P before after
as-held P old new before after first last holds = subst (P before) last (subst (λ (o : Option (List ℕ)). P o new) first
    holds)
