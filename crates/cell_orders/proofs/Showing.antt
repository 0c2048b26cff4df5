-- What is shown for a number of entries is what is shown for the words that ask for it.
use Rattle.std.proofs.Common.{◌≡◌, ◌≢◌, ◌≤◌, ◌<◌, ℕ, List, Option, None, Some, Result, Ok, Err}
use Rattle.std.proofs.Common.{ap, arith, refl, inl, inr, unwrap_or}
use Rattle.std.specs.Prelude.{IfOk, IfSome, ⊤}
use Rattle.std.proofs.lemmas.Result.{IfOk-weaker}
use Rattle.cell_command.specs.Counts.{Counts, IsNumber}
use Rattle.cell_command.specs.declared.count.Count.{Count}
use Rattle.cell_audit.specs.Migrated.{rows_in}
use Rattle.cell_rows.specs.Rows.{Row, rows_of}
use Rattle.cell_show.specs.Shown.{AsksPast, HasEntry, ShownOf, ShowsSome as ShowsOne, TellsEntries, start_of}
use Rattle.cell_show.specs.declared.show.Form.{Form}
use Rattle.cell_show.specs.declared.error.ShowError.{ShowError}
use Rattle.cell_show.specs.declared.error.ShowError.TheVariants as error
use Rattle.cell_orders.specs.Shows.{HasNone, IsAsked, ShowsSome}
use Rattle.cell_orders.specs.Texts.{IsWrong}

-- the count of a word is one of the number that it writes
pub shown-for : {X : Type 0} (r : Result ℕ X) (word : List ℕ) (count : Count) (P : Option ℕ → ℕ → Type 0) (Q : ℕ
    → Type 0)
    → ((n : ℕ) × IsNumber word n × Counts count n)
    → ((entry : Option ℕ) → IsAsked (Some count) entry → IfOk r (P entry))
    → ((n s : ℕ) → IsNumber word n → P (Some n) s → Q s) → IfOk r Q
shown-for r word count P Q (n, is, counts) shows give =
    IfOk-weaker r (P (Some n)) Q (λ s p. give n s is p) (shows (Some n) (n, refl, counts))

-- a text that has the entry of the greatest number has too many for a page
many-entries : (rows : Option (List Row)) (start : ℕ) → IfSome rows (HasEntry (Some 4294967295) start)
    → IfSome rows (TellsEntries error.TooManyEntries)
many-entries None start has = tt
many-entries (Some known) start (J, good, long, begun) = (J, good, omega (arith, long))

-- that there are too many entries is told without the number that was asked for, so any number will do
pub too-many : (text : Option (List ℕ)) (n start : ℕ) → IfSome (rows_in text) (HasEntry (Some 4294967295) start)
    → HasNone (Some n) start text
too-many text n start has = (error.TooManyEntries, (λ e. cc e), tt, many-entries (rows_in text) start has)

-- a text that lacks the entry of the greatest number lacks each beyond
past-further : (n start : ℕ) (why : ShowError) → 4294967296 ≤ n → AsksPast (Some 4294967295) start why
    → AsksPast (Some n) start why
past-further n start (error.NoSuchEntry m) big (inl (k, is, less)) =
    let e : 4294967295 ≡ k = ap (λ (o : Option ℕ). unwrap_or o 0) is in inl (n, refl, omega (arith, e, less))
past-further n start (error.NoSuchEntry m) big (inr less) = inr less
past-further n start error.TooManyEntries big past = tt
past-further n start error.WriteFault big past = tt

pub past-all : (text : Option (List ℕ)) (n start : ℕ) (why : ShowError) → 4294967296 ≤ n → why ≢ error.WriteFault
    → AsksPast (Some 4294967295) start why
    → IfSome (rows_in text) (TellsEntries why) → HasNone (Some n) start text
past-all text n start why big other past told = (why, other, past-further n start why big past, told)

-- what is shown of some text, by the answer of a call that shows it
pub shown-some : (entry : Option ℕ) (start status : ℕ) (old new old_errors new_errors : Option (List ℕ))
    → ((text : List ℕ) × ShownOf (rows_of text) entry start (λ _. ⊤) (Ok status)) → (1 < status → new ≡ old)
    → ShowsSome entry start old new old_errors new_errors status
shown-some entry start status old new old_errors new_errors (text, (due, there)) nothing =
    (text, inl (due, nothing, λ low. (there low).0))

-- or why it isn't
pub none-some : (entry : Option ℕ) (start : ℕ) (why : ShowError) (old new old_errors new_errors : Option (List ℕ))
    → ((text : List ℕ) × ShownOf (rows_of text) entry start (λ _. ⊤) (Err why)) → why ≢ error.WriteFault
    → AsksPast entry start why → IsWrong old new old_errors new_errors 2
    → ShowsSome entry start old new old_errors new_errors 2
none-some entry start why old new old_errors new_errors (text, told) other past wrong =
    (text, inr (wrong, (why, other, past, told)))

-- more entries than a journal may have are asked for: of a text that isn't read
pub beyond-unread : (form : Form) (n status : ℕ) (from to old errors : Option (List ℕ))
    → ShowsOne form (Some 4294967295) from to (Ok status) → 1 < status
    → ShowsSome (Some n) (start_of form) old old errors errors status
beyond-unread form n status from to old errors (text, (due, there)) high =
    (text, inl (due, λ _. refl, λ low. absurd (omega (arith, low, high))))

-- of one that has as many as can be told, and so too many for a picture
pub beyond-many : (form : Form) (n status : ℕ) (from to : Option (List ℕ))
    → ShowsOne form (Some 4294967295) from to (Ok status) → status ≤ 1
    → (text : List ℕ) × HasNone (Some n) (start_of form) (Some text)
beyond-many form n status from to (text, (due, there)) low =
    (text, too-many (Some text) n (start_of form) (there low).0)

-- of one that hasn't
pub beyond-none : (n start : ℕ) (why : ShowError) → 4294967296 ≤ n → why ≢ error.WriteFault
    → AsksPast (Some 4294967295) start why → ((text : List ℕ) × TellsEntries why (rows_of text))
    → (text : List ℕ) × HasNone (Some n) start (Some text)
beyond-none n start why big other past (text, told) = (text, past-all (Some text) n start why big other past told)

-- which is told
pub none-of : (n start : ℕ) (old new old_errors new_errors : Option (List ℕ))
    → ((text : List ℕ) × HasNone (Some n) start (Some text)) → IsWrong old new old_errors new_errors 2
    → ShowsSome (Some n) start old new old_errors new_errors 2
none-of n start old new old_errors new_errors (text, none) wrong = (text, inr (wrong, none))
