-- Journals that are measured, and their texts
use Rattle.std.proofs.Common.{◌≡◌, List, inl, inr, ℕ, ◌+◌, Bool, false, Result, Ok, [], ◌∷◌, arith}
use Rattle.std.proofs.Common.{refl, subst}
use Rattle.std.proofs.lemmas.List.Elements.{All-cons, All-nil}
use Rattle.cell_types.specs.declared.words.Totals.{Totals}
use Rattle.cell_types.specs.declared.words.Entry.{Entry}
use Rattle.cell_audit.specs.Reading.{IsSomeReading}
use Rattle.cell_audit.specs.declared.error.AuditError.{AuditError}
use Rattle.cell_orders.specs.Measured.{AreLegal, HasLegalText, IsFound, IsLegalText}
use Rattle.cell_orders.specs.declared.measure.Found.{Found}

-- a legal answer that is due for some text tells that the text is legal
legal_text : (told : ℕ × Totals) (J : List Entry) → IsSomeReading (Ok told) J → HasLegalText
legal_text told J (text, (inl (inl e), first)) = cc e
legal_text told J (text, (inl (inr e), first)) = cc e
legal_text (number, totals) J (text, (inr due, first)) = (text, (number, totals, due))

pub legal_of : (answer : Result (ℕ × Totals) AuditError) (told : ℕ × Totals) (J : List Entry) → answer ≡ Ok told
    → IsSomeReading answer J → HasLegalText
legal_of answer told J is some =
    legal_text told J (subst (λ (a : Result (ℕ × Totals) AuditError). IsSomeReading a J) is some)

pub one_more : (n : ℕ) → HasLegalText → AreLegal n → AreLegal (n + 1)
one_more n (text, legal) (texts, e, all) = (text ∷ texts, omega (arith, e), All-cons IsLegalText text texts legal all)

pub none_yet : AreLegal 0
none_yet = ([], refl, All-nil IsLegalText)

-- a journal more was found, and none is refused
pub more_found : (n : ℕ) (found : Found) (old new : Bool) → IsFound found
    → (IsFound found → new ≡ false → HasLegalText × (old ≡ false))
    → (old ≡ false → AreLegal n)
    → new ≡ false → AreLegal (n + 1)
more_found n found old new is added before h = let both = added is h in one_more n both.0 (before both.1)

pub all_found : (n count : ℕ) (refused : Bool) → (refused ≡ false → AreLegal n) → n ≡ count → refused ≡ false
    → AreLegal count
all_found n count refused legal e h = subst AreLegal e (legal h)
