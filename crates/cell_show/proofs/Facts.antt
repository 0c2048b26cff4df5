-- An answer on memory, and the good entries of a text.
use Rattle.std.proofs.Common.{◌≡◌, ◌≢◌, ◌<◌, ◌≤◌, ℕ, List, [], length, Option, Some, None, Result, Ok, Err, inl, inr}
use Rattle.std.proofs.Common.{refl, ap, arith, ◌⊎◌}
use Rattle.std.specs.Prelude.{IfOk, IfSome, max, unwrap_or}
use Rattle.std.specs.Result.{result_err}
use Rattle.std.proofs.lemmas.Bool.{cases_lt}
use Rattle.cell_rows.specs.Rows.{Row, rows_of}
use Rattle.cell_types.specs.declared.words.Entry.{Entry}
use Rattle.cell_types.specs.declared.words.Totals.{Totals}
use Rattle.cell_audit.specs.Meaning.{Due, IsFault}
use Rattle.cell_audit.specs.Migrated.{rows_in}
use Rattle.cell_audit.specs.Reading.{IsBefore, IsSomeReading, SpellsFirst}
use Rattle.cell_audit.specs.declared.error.AuditError.{AuditError}
use Rattle.cell_audit.specs.declared.error.AuditError.TheVariants as error
use Rattle.cell_audit.specs.Lines.{status_of}
use Rattle.cell_show.specs.Beside.{WritesBeside}
use Rattle.cell_show.specs.Shown.{AreGood, AsksPast, HasBound, HasEntry, IsOther, IsPage, OfReader, ShowsBeside}
use Rattle.cell_show.specs.Shown.{ShownOf, ShowsPage, ShowsSome, ShowsSomeBeside, TellsEntries, TellsStatus, start_of}
use Rattle.cell_show.specs.declared.error.ShowError.{ShowError}
use Rattle.cell_show.specs.declared.error.ShowError.TheVariants as shown
use Rattle.cell_show.specs.declared.show.Form.{Form}

-- any text may get an answer on memory, also one of which nothing is known
pub wants-memory : (rows : Option (List Row))
    → IfSome rows (λ known. IsFault (Err error.OutOfMemory) ⊎ Due known (Err error.OutOfMemory))
wants-memory None = tt
wants-memory (Some known) = inl (inr refl)

-- where an answer is neither on the reader nor on memory, the entries that are read are good
pub good : (rows : Option (List Row)) (answer : Result (ℕ × Totals) AuditError) (J : List Entry)
    → IfSome rows (λ known. IsFault answer ⊎ Due known answer) → IsBefore answer J → IfSome rows (SpellsFirst J)
    → status_of answer ≤ 1 → IfSome rows (AreGood J)
good None answer J due before first low = tt
good (Some known) answer J (inr due) before first low = (answer, due, before, first)
good (Some known) answer J (inl (inl is)) before first low =
    let fault : status_of answer ≡ 3 = ap status_of is in absurd (omega (arith, fault, low))
good (Some known) answer J (inl (inr is)) before first low =
    let fault : status_of answer ≡ 4 = ap status_of is in absurd (omega (arith, fault, low))

-- a page of the entries that are read is that of the good ones
pub paged : (rows : Option (List Row)) (form : Form) (answer : Result (ℕ × Totals) AuditError) (J : List Entry)
    (old new : Option (List ℕ))
    → IfSome rows (λ known. IsFault answer ⊎ Due known answer) → IsBefore answer J → IfSome rows (SpellsFirst J)
    → status_of answer ≤ 1 → IsPage form J (result_err answer) old new → IfSome rows (ShowsPage form old new)
paged None form answer J old new due before first low page = tt
paged (Some known) form answer J old new (inr due) before first low page = (J, answer, due, before, first, page)
paged (Some known) form answer J old new (inl (inl is)) before first low page =
    let fault : status_of answer ≡ 3 = ap status_of is in absurd (omega (arith, fault, low))
paged (Some known) form answer J old new (inl (inr is)) before first low page =
    let fault : status_of answer ≡ 4 = ap status_of is in absurd (omega (arith, fault, low))

-- what is shown where no entry is asked for is all of them
within : (entry : Option ℕ) (n : ℕ) → unwrap_or entry n ≤ n → IfSome entry (λ k. k ≤ n)
within None n most = tt
within (Some k) n most = most

pub has : (rows : Option (List Row)) (entry : Option ℕ) (start n : ℕ) (J : List Entry)
    → IfSome rows (AreGood J) → length J ≡ n → unwrap_or entry n ≤ n → start ≤ n → IfSome rows (HasEntry entry start)
has None entry start n J are size most begun = tt
has (Some known) entry start n J are size most begun =
    (J, are, rw size (within entry n most), omega (arith, size, begun))

-- the page of a text's good entries and that of another text stand in one
pub both_shown : (rows : Option (List Row)) (form : Form) (one two : List ℕ) (others : List Row)
    (old new : Option (List ℕ)) (first second : List ℕ)
    → IfSome rows (ShowsPage form (Some []) (Some first)) → WritesBeside old new one two first second
    → IsOther form second others
    → IfSome rows (ShowsBeside form one two others old new)
both_shown None form one two others old new first second page both other = tt
both_shown (Some known) form one two others old new first second page both other = (first, second, both, page, other)

-- what is told of an entry that isn't there
pub none_there : (rows : Option (List Row)) (J : List Entry) (n : ℕ) → IfSome rows (AreGood J) → length J ≡ n
    → IfSome rows (TellsEntries (shown.NoSuchEntry n))
none_there None J n good size = tt
none_there (Some known) J n good size = (J, good, size)

-- what is told where nothing is drawn: too many entries, and never one that isn't there
pub told_of : (rows : Option (List Row)) (J : List Entry) (why : ShowError) → IfSome rows (AreGood J)
    → ((n : ℕ) → why ≢ shown.NoSuchEntry n)
    → (why ≡ shown.TooManyEntries → 20000 < length J) → IfSome rows (TellsEntries why)
told_of None J why good there long = tt
told_of (Some known) J (shown.NoSuchEntry n) good there long = absurd (there n refl)
told_of (Some known) J shown.TooManyEntries good there long = (J, good, long refl)
told_of (Some known) J shown.WriteFault good there long = tt

-- want of memory may come with any text
pub wants-some : (entry : Option ℕ) (form : Form) (old new : Option (List ℕ)) → ShowsSome form entry old new (Ok 4)
wants-some entry form old new = (
  [],
  ((Err error.OutOfMemory, wants-memory (Some (rows_of [])), refl), λ low. absurd (omega (arith, low))),
)

-- an answer on the reader or on memory
pub unread-some : (entry : Option ℕ) (form : Form) (answer : Result (ℕ × Totals) AuditError) (J : List Entry)
    (status : ℕ) (old new : Option (List ℕ)) → IsSomeReading answer J → status ≡ status_of answer → 1 < status
    → ShowsSome form entry old new (Ok status)
unread-some entry form answer J status old new (text, (due, first)) is high =
    (text, ((answer, due, is), λ low. absurd (omega (arith, low, high))))

-- a text's good entries are shown
pub shown-some : (entry : Option ℕ) (form : Form) (answer : Result (ℕ × Totals) AuditError) (J : List Entry)
    (status n : ℕ) (old new : Option (List ℕ)) → IsSomeReading answer J → IsBefore answer J
    → status ≡ status_of answer → status_of answer ≤ 1 → length J ≡ n → unwrap_or entry n ≤ n → start_of form ≤ n
    → IsPage form J (result_err answer) old new → ShowsSome form entry old new (Ok status)
shown-some entry form answer J status n old new (text, (due, first)) before is low size most begun page =
    let are : AreGood J (rows_of text) = good (Some (rows_of text)) answer J due before first low in (
      text,
      (
        (answer, due, is),
        λ _. (
          has (Some (rows_of text)) entry (start_of form) n J are size most begun,
          paged (Some (rows_of text)) form answer J old new due before first low page,
        ),
      ),
    )

-- or it has no such entry
pub none-some : (entry : Option ℕ) (form : Form) (answer : Result (ℕ × Totals) AuditError) (J : List Entry) (n : ℕ)
    (old new : Option (List ℕ)) → IsSomeReading answer J → IsBefore answer J → status_of answer ≤ 1 → length J ≡ n
    → ShowsSome form entry old new (Err (shown.NoSuchEntry n))
none-some entry form answer J n old new (text, (due, first)) before low size =
    let are : AreGood J (rows_of text) = good (Some (rows_of text)) answer J due before first low in
    (text, none_there (Some (rows_of text)) J n are size)

-- or too many for a page
pub told-some : (entry : Option ℕ) (form : Form) (answer : Result (ℕ × Totals) AuditError) (J : List Entry)
    (why : ShowError) (old new : Option (List ℕ)) → IsSomeReading answer J → IsBefore answer J
    → status_of answer ≤ 1 → ((n : ℕ) → why ≢ shown.NoSuchEntry n)
    → (why ≡ shown.TooManyEntries → 20000 < length J) → ShowsSome form entry old new (Err why)
told-some entry form answer J why old new (text, (due, first)) before low there long =
    let are : AreGood J (rows_of text) = good (Some (rows_of text)) answer J due before first low in
    (text, told_of (Some (rows_of text)) J why are there long)

-- what holds of a text where it is known, and of some text, holds of the text that a reader tells
pub of-reader : (known : Option (List ℕ)) (P : List Row → Type 0) → IfSome (rows_in known) P
    → ((text : List ℕ) × P (rows_of text)) → OfReader known (λ text. P (rows_of text))
of-reader None P here (text, is) = (text, tt, is)
of-reader (Some told) P here some = (told, refl, here)

-- the page of another text, of the one that is told or of some
pub other-shown : (known : Option (List ℕ)) (form : Form) (status : ℕ) (page : List ℕ)
    → IfSome (rows_in known) (ShowsPage form (Some []) (Some page))
    → ShowsSome form None (Some []) (Some page) (Ok status) → status ≤ 1
    → OfReader known (λ text. IsOther form page (rows_of text))
other-shown None form status page here (text, (due, there)) low = (text, tt, inl (there low).1)
other-shown (Some told) form status page here some low = (told, refl, inl here)

pub other-absent : (known : Option (List ℕ)) (form : Form) (page : List ℕ) (old new : Option (List ℕ)) (why : ShowError)
    → why ≢ shown.WriteFault → AsksPast None (start_of form) why → (why ≡ shown.TooManyEntries → HasBound form)
    → IfSome (rows_in known) (TellsEntries why) → ShowsSome form None old new (Err why)
    → OfReader known (λ text. IsOther form page (rows_of text))
other-absent None form page old new why other past bound here (text, is) =
    (text, tt, inr (why, other, past, bound, is))
other-absent (Some told) form page old new why other past bound here some =
    (told, refl, inr (why, other, past, bound, here))

-- what holds of all texts
any-reader : (known : Option (List ℕ)) (P : List ℕ → Type 0) → ((text : List ℕ) → P text) → OfReader known P
any-reader None P all = ([], tt, all [])
any-reader (Some told) P all = (told, refl, all told)

-- a status of the reader or of memory may come with any text
pub faults-told : (rows : Option (List Row)) (status : ℕ) → (status ≡ 3) ⊎ (status ≡ 4) → TellsStatus rows status
faults-told None status (inl is) = (Err error.ReadFault, tt, is)
faults-told None status (inr is) = (Err error.OutOfMemory, tt, is)
faults-told (Some known) status (inl is) = (Err error.ReadFault, inl (inl refl), is)
faults-told (Some known) status (inr is) = (Err error.OutOfMemory, inl (inr refl), is)

pub beside-fault : (entry : Option ℕ) (form : Form) (one two : List ℕ) (known old new : Option (List ℕ)) (status : ℕ)
    → (status ≡ 3) ⊎ (status ≡ 4) → ShowsSomeBeside form entry one two known old new (Ok status)
beside-fault entry form one two known old new status is = (
  [],
  any-reader known (λ others. ShownOf (rows_of []) entry (start_of form)
      (ShowsBeside form one two (rows_of others) old new) (Ok status))
      (λ others. (faults-told (Some (rows_of [])) status is, λ low. absurd (high is low))),
)
  where
    high : (status ≡ 3) ⊎ (status ≡ 4) → status ≤ 1 → ⊥
    high (inl is) low = omega (arith, is, low)
    high (inr is) low = omega (arith, is, low)

-- the first text isn't shown
pub beside-unread : (entry : Option ℕ) (form : Form) (one two : List ℕ)
    (known old new first : Option (List ℕ)) (status : ℕ)
    → ShowsSome form entry (Some []) first (Ok status) → 1 < status
    → ShowsSomeBeside form entry one two known old new (Ok status)
beside-unread entry form one two known old new first status (text, (due, there)) high = (
  text,
  any-reader known (λ others. ShownOf (rows_of text) entry (start_of form)
      (ShowsBeside form one two (rows_of others) old new) (Ok status))
      (λ others. (due, λ low. absurd (omega (arith, low, high)))),
)

pub beside-none : (entry : Option ℕ) (form : Form) (one two : List ℕ)
    (known old new first : Option (List ℕ)) (why : ShowError)
    → ShowsSome form entry (Some []) first (Err why) → ShowsSomeBeside form entry one two known old new (Err why)
beside-none entry form one two known old new first why (text, is) = (
  text,
  any-reader known (λ others. ShownOf (rows_of text) entry (start_of form)
      (ShowsBeside form one two (rows_of others) old new) (Err why))
      (λ others. is),
)

-- a write failed
pub beside-unwritten : (entry : Option ℕ) (form : Form) (one two : List ℕ) (known old new : Option (List ℕ))
    → ShowsSomeBeside form entry one two known old new (Err shown.WriteFault)
beside-unwritten entry form one two known old new = (
  [],
  any-reader known (λ others. ShownOf (rows_of []) entry (start_of form)
      (ShowsBeside form one two (rows_of others) old new) (Err shown.WriteFault)) (λ others. tt),
)

-- both are shown
pub beside-some : (entry : Option ℕ) (form : Form) (one two : List ℕ)
    (known old new : Option (List ℕ)) (first second : List ℕ)
    (status : ℕ) → ShowsSome form entry (Some []) (Some first) (Ok status) → WritesBeside old new one two first second
    → OfReader known (λ text. IsOther form second (rows_of text))
    → ShowsSomeBeside form entry one two known old new (Ok status)
beside-some entry form one two known old new first second status (text, (due, there)) both (others, same, other) = (
  text,
  (
    others,
    same,
    (
      due,
      λ low. (
        (there low).0,
        both_shown (Some (rows_of text)) form one two (rows_of others) old new first second (there low).1 both other,
      ),
    ),
  ),
)

-- where there is no such entry, more were asked for, or a page begins after more
pub asks_past : (entry : Option ℕ) (start n : ℕ) → n < max (unwrap_or entry n) start
    → AsksPast entry start (shown.NoSuchEntry n)
asks_past None start n less = inr (omega (arith, less))
asks_past (Some k) start n less = go (cases_lt n k)
  where
    go : (n < k) ⊎ (k ≤ n) → AsksPast (Some k) start (shown.NoSuchEntry n)
    go (inl more) = inl (k, refl, more)
    go (inr most) = inr (omega (arith, less, most))

-- what holds of all values holds of one that is given
pub all-ok : {X Y : Type 0} (r : Result X Y) (P : X → Type 0) → ((x : X) → P x) → IfOk r P
all-ok (Ok x) P all = all x
all-ok (Err e) P all = tt
