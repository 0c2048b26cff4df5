-- The entries that are booked of a legal text are all that it has
use Rattle.std.proofs.Common.{◌≡◌, ◌⊎◌, inl, inr, ◌∙◌, ℕ, List, [], ◌∷◌, ◌++◌, map, length, Option, Result, Ok}
use Rattle.std.proofs.Common.{Err, ap, append-nil, arith, length-append, refl, subst, sym, true}
use Rattle.std.specs.Prelude.{IfOk, IsErr}
use Rattle.std.proofs.lemmas.List.{length-map}
use Rattle.cell_types.specs.declared.words.Entry.{Entry}
use Rattle.cell_types.specs.declared.words.Totals.{Totals}
use Rattle.cell_types.specs.Spelling.{record_of}
use Rattle.cell_rules.specs.Legal.{legal}
use Rattle.cell_rules.specs.Views.{count_of}
use Rattle.cell_rows.specs.Rows.{Row, rows_of}
use Rattle.cell_audit.specs.Judged.{audit_limits}
use Rattle.cell_audit.specs.Lines.{WritesAnswer, lines_of}
use Rattle.cell_audit.specs.Meaning.{Due, IsFault, SpellsLegal, spelled}
use Rattle.cell_audit.specs.Profiles.{profile_row}
use Rattle.cell_audit.specs.Reading.{IsBefore, IsSomeReading, SpellsFirst}
use Rattle.cell_audit.specs.declared.error.AuditError.{AuditError}
use Rattle.cell_audit.specs.declared.profile.Profile.{Profile}
use Rattle.cell_audit.proofs.Possible.{answer-due}
use Rattle.cell_output.specs.Watched.{WritesPart}
use Rattle.cell_output.specs.declared.watched.WriteFault.{WriteFault}
use Rattle.cell_orders.specs.Listed.{SpellsJournal, TellsRefused}
use Rattle.cell_orders.proofs.Outcomes.{whole-or-part}

-- where as many come first, none comes behind them
none_behind : (xs ys rest : List Row) → xs ≡ ys ++ rest → length xs ≡ length ys → xs ≡ ys
none_behind xs ys [] is same = is ∙ append-nil ys
none_behind xs ys (row ∷ rest) is same = absurd (omega (arith, ap length is, length-append ys (row ∷ rest)))

-- as many entries as a journal has, of which the records come first, have its records
same_rows : (p : Profile) (K J : List Entry) → length K ≡ length J → SpellsFirst J (spelled p K)
    → spelled p K ≡ spelled p J
same_rows p [] J same (inl none) = ap (spelled p) (sym none)
same_rows p (k ∷ K) J same (inl none) = absurd (omega (arith, same, ap length none))
same_rows p K J same (inr (q, rest, is)) =
    let behind : map record_of K ≡ map record_of J ++ rest = cc in
    let many : length (map record_of K) ≡ length (map record_of J) =
    length-map K record_of ∙ (same ∙ sym (length-map J record_of)) in
    ap (λ rows. profile_row p ∷ rows) (none_behind _ _ rest behind many)

-- so a text that spells a legal journal is that of the entries
spells : (text : List ℕ) (number : ℕ) (totals : Totals) (J : List Entry)
    → SpellsLegal (rows_of text) number totals → totals ≡ count_of J → SpellsFirst J (rows_of text)
    → legal audit_limits J ≡ true → SpellsJournal text J
spells text number totals J (p, K, is, rows, own, counts) before first good =
    let many : length K ≡ length J = ap (λ (t : Totals). t.entries) (sym counts ∙ before) in
    let records : spelled p K ≡ spelled p J =
    same_rows p K J many (subst (λ (all : List Row). SpellsFirst J all) rows first) in
    (p, rows ∙ records, good, (p, K, refl, rows, own, sym before ∙ counts))

-- an answer with counts is due for some text, of which these are the first entries
read_so : (told : ℕ × Totals) (J : List Entry) → IsSomeReading (Ok told) J → IsBefore (Ok told) J
    → legal audit_limits J ≡ true → (text : List ℕ) × SpellsJournal text J
read_so told J (text, (inl (inl e), first)) before good = cc e
read_so told J (text, (inl (inr e), first)) before good = cc e
read_so (number, totals) J (text, (inr due, first)) before good =
    (text, spells text number totals J due before first good)

pub journal_read : (answer : Result (ℕ × Totals) AuditError) (told : ℕ × Totals) (J : List Entry) → answer ≡ Ok told
    → IsSomeReading answer J → IsBefore answer J → legal audit_limits J ≡ true
    → (text : List ℕ) × SpellsJournal text J
journal_read answer told J is some before good =
    read_so told J (subst (λ (a : Result (ℕ × Totals) AuditError). IsSomeReading a J) is some)
    (subst (λ (a : Result (ℕ × Totals) AuditError). IsBefore a J) is before) good

-- an answer that is an error is due for some text, or is one on the reader or on memory, and so is what is told of it
pub refused_told : (answer : Result (ℕ × Totals) AuditError) (why : AuditError) (J : List Entry)
    (old new : Option (List ℕ)) (written : Result ℕ WriteFault)
    → answer ≡ Err why → IsSomeReading answer J → IfOk written (WritesAnswer old new (Err why))
    → (IsErr written → WritesPart old new (lines_of (Err why))) → TellsRefused old new written
refused_told answer why J old new written is (text, (due, first)) whole part = (
  text,
  why,
  answer-due text (Err why) (subst (λ (a : Result (ℕ × Totals) AuditError). IsFault a
      ⊎ Due (rows_of text) a) is due),
  whole-or-part written _ _ whole part,
)
