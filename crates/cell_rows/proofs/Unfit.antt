-- What a record has in it stays in it, whatever bytes follow, so a line can be told early to be none that fits.
use Rattle.std.proofs.Common.{inl, inr, ◌⊎◌, ◌≡◌, ◌≤◌, ◌<◌, ◌+◌, ◌∙◌, ℕ, List, [], ◌∷◌, ◌++◌, length, Option, Some}
use Rattle.std.proofs.Common.{None, Bool, true, false, refl, sym, ap, subst, arith, append_assoc, append-nil}
use Rattle.std.proofs.Common.{length-append}
use Rattle.std.specs.Prelude.{◌==◌, ◌||◌, All, slice_range}
use Rattle.std.proofs.lemmas.Bool.{cases_Bool}
use Rattle.std.proofs.lemmas.List.Elements.{All-cons, All-head, All-nil, All-tail}
use Rattle.csv.specs.Machine.{Read, ends_at_end, ends_with, field_after, fields_after, is_end, next_record, step}
use Rattle.csv.specs.Reading.{default_config}
use Rattle.csv.specs.Writing.{default_writer, needs_byte, needs_quotes}
use Rattle.csv.specs.declared.parser.Action.{Action}
use Rattle.csv.specs.declared.parser.Action.TheVariants as act
use Rattle.csv.specs.declared.parser.State.{State}
use Rattle.csv.specs.declared.parser.State.TheVariants as st
use Rattle.csv.specs.declared.parser.Terminator.TheVariants as term
use Rattle.csv.proofs.RoundTrip.{plain-run, record-same, start-same}
use Rattle.cell_rows.specs.Rows.{Row, rows_from}
use Rattle.cell_rows.specs.Fitting.{BeginsUnfit, Fits, longest_field}
use Rattle.cell_rows.specs.Plain.{BeginsLong, EndsField, HasComma}
use Rattle.cell_rows.proofs.RowFacts.{rows-some}

-- csv's machine stands inside a record
abbrev pub is_inside : State → Bool
is_inside st.StartRecord = false
is_inside st.StartField = true
is_inside st.InField = true
is_inside st.InQuoted = true
is_inside st.AfterQuote = true
is_inside st.InEscape = false
is_inside st.InComment = false
is_inside st.AfterCr = false

-- where a text ends inside a record, its end is the end of that record
inside_ends : (s : State) → is_inside s ≡ true → ends_at_end s ≡ true
inside_ends st.StartRecord h = cc h
inside_ends st.StartField h = refl
inside_ends st.InField h = refl
inside_ends st.InQuoted h = refl
inside_ends st.AfterQuote h = refl
inside_ends st.InEscape h = refl
inside_ends st.InComment h = refl
inside_ends st.AfterCr h = cc h

-- a byte inside a record ends it or leaves the machine inside it
stays_in_field : (c : ℕ) → is_end (step default_config st.InField c).1 ≡ false
    → is_inside (step default_config st.InField c).0 ≡ true
stays_in_field c = elim (cases_Bool (c == 44)) [
  | inl y ↦ rw y (λ e. refl)
  | inr n ↦ elim (cases_Bool (ends_with term.CRLF c)) [
    | inl y ↦ rw (n, y) (λ e. cc e)
    | inr m ↦ rw (n, m) (λ e. refl)
  ]
]

stays_inside : (s : State) (c : ℕ) → is_inside s ≡ true → is_end (step default_config s c).1 ≡ false
    → is_inside (step default_config s c).0 ≡ true
stays_inside st.StartRecord c h = cc h
stays_inside st.StartField c h = elim (cases_Bool (c == 34)) [
  | inl y ↦ rw y (λ e. refl)
  | inr n ↦ rw n (stays_in_field c)
]
stays_inside st.InField c h = stays_in_field c
stays_inside st.InQuoted c h = elim (cases_Bool (c == 34)) [
  | inl y ↦ rw y (λ e. refl)
  | inr n ↦ rw n (λ e. refl)
]
stays_inside st.AfterQuote c h = elim (cases_Bool (c == 34)) [
  | inl y ↦ rw y (λ e. refl)
  | inr n ↦ rw n (stays_in_field c)
]
stays_inside st.InEscape c h = cc h
stays_inside st.InComment c h = cc h
stays_inside st.AfterCr c h = cc h

-- there is a record, which has these fields and then one that begins with these bytes
abbrev pub HoldsOn : Row → List ℕ → Option Read → Type 0
HoldsOn fields field None = ⊥
HoldsOn fields field (Some p) = (more : List ℕ) × (later : Row) × (p.0 ≡ fields ++ ((field ++ more) ∷ later))

-- of all that a byte may do one alone ends a record, and it puts the field in as it is
ended_here : (a : Action) (fields : Row) (field : List ℕ) (s : State) (rest : List ℕ) → is_end a ≡ true
    → HoldsOn fields field (Some (fields_after a fields field, s, rest))
ended_here act.Skip fields field s rest h = cc h
ended_here act.Copy fields field s rest h = cc h
ended_here act.EndField fields field s rest h = cc h
ended_here act.EndRecord fields field s rest h =
    ([], [], ap (λ (t : List ℕ). fields ++ (t ∷ [])) (sym (append-nil field)))

-- a byte adds to the field, ends it or is skipped, and takes nothing back
held_before : (a : Action) (fields : Row) (field : List ℕ) (c : ℕ) (o : Option Read) → is_end a ≡ false
    → HoldsOn (fields_after a fields field) (field_after a c field) o → HoldsOn fields field o
held_before a fields field c None h g = g
held_before act.Skip fields field c (Some p) h g = g
held_before act.Copy fields field c (Some p) h (more, later, e) =
    (c ∷ more, later, e ∙ ap (λ (t : List ℕ). fields ++ (t ∷ later)) (append_assoc field (c ∷ []) more))
held_before act.EndField fields field c (Some p) h (more, later, e) = (
  [],
  more ∷ later,
  e ∙ append_assoc fields (field ∷ []) (more ∷ later)
      ∙ ap (λ (t : List ℕ). fields ++ (t ∷ more ∷ later)) (sym (append-nil field)),
)
held_before act.EndRecord fields field c (Some p) h g = cc h

-- inside a record, each text that follows gives a record with what is there
pub holds_on : (s : State) (fields : Row) (field xs : List ℕ) → is_inside s ≡ true
    → HoldsOn fields field (next_record default_config s fields field xs)
unfolding next_record
holds_on s fields field [] i = rw (inside_ends s i)
    ([], [], ap (λ (t : List ℕ). fields ++ (t ∷ [])) (sym (append-nil field)))
holds_on s fields field (c ∷ rest) i = elim (cases_Bool (is_end (step default_config s c).1)) [
  | inl e ↦ rw e (ended_here (step default_config s c).1 fields field (step default_config s c).0 rest e)
  | inr e ↦ rw e (held_before (step default_config s c).1 fields field c _ e
      (holds_on (step default_config s c).0 (fields_after (step default_config s c).1 fields field)
      (field_after (step default_config s c).1 c field) rest (stays_inside s c i e)))
]

-- some text before it, and the fields so far, make the record one that doesn't fit
abbrev CannotFit : Row → List ℕ → Type 0
CannotFit fields field = (4 ≤ length fields) ⊎ (longest_field < length field)

short_of : (fields : Row) (x : List ℕ) (later : Row)
    → All (λ field. length field ≤ longest_field) (fields ++ (x ∷ later)) → length x ≤ longest_field
short_of [] x later h = All-head (λ (f : List ℕ). length f ≤ longest_field) x later h
short_of (f ∷ fields) x later h = short_of fields x later
    (All-tail (λ (f : List ℕ). length f ≤ longest_field) f (fields ++ (x ∷ later)) h)

-- what follows can only make the field longer and the fields more, and there is too much already
unfit_row : (fields : Row) (field more : List ℕ) (later row : Row) → row ≡ fields ++ ((field ++ more) ∷ later)
    → CannotFit fields field → ¬ (Fits row)
unfit_row fields field more later row e (inl many) = λ f.
    let size : length row ≡ length fields + length ((field ++ more) ∷ later) = ap length e
    ∙ length-append fields ((field ++ more) ∷ later) in
    let four : length row ≡ 4 = f.0 in
    absurd (omega (arith, size, four, many))
unfit_row fields field more later row e (inr long) = λ f.
    let short : length (field ++ more) ≤ longest_field =
    short_of fields (field ++ more) later (subst (λ (r : Row). All (λ field. length field ≤ longest_field) r) e f.1)
    in
    let size = length-append field more in
    absurd (omega (arith, short, size, long))

-- the next record, which there is, doesn't fit
abbrev ReadsUnfit : Option Read → Type 0
ReadsUnfit None = ⊥
ReadsUnfit (Some p) = ¬ (Fits p.0)

held_unfit : (fields : Row) (field : List ℕ) (o : Option Read) → HoldsOn fields field o → CannotFit fields field
    → ReadsUnfit o
held_unfit fields field None h u = absurd h
held_unfit fields field (Some p) (more, later, e) u = unfit_row fields field more later p.0 e u

-- from a state at a field's start, these bytes make the record one that doesn't fit, whatever follows
abbrev pub Spoils : State → Row → List ℕ → Type 0
Spoils s fields xs = (tail : List ℕ) → ReadsUnfit (next_record default_config s fields [] (xs ++ tail))

-- a field's start
abbrev pub IsStart : State → Type 0
IsStart s = (s ≡ st.StartRecord) ⊎ (s ≡ st.StartField)

not_true : (x : Bool) → (x ≡ true → ⊥) → x ≡ false
not_true true n = absurd (n refl)
not_true false n = refl

-- these four are the bytes that need quotes, so a byte that needs none is none of them
plain_byte : (b : ℕ) → needs_byte default_writer b ≡ false → ((b == 44) ≡ false) × ((b == 34) ≡ false)
    × ((b == 13) ≡ false) × ((b == 10) ≡ false)
plain_byte b e =
    let a = not_true (b == 44) (λ t. cc (rw t at e)) in
    let q = not_true (b == 34) (λ t. cc (rw (a, t) at e)) in
    let r = not_true (b == 13) (λ t. cc (rw (a, q, t) at e)) in
    let n = not_true (b == 10) (λ t. cc (rw (a, q, r, t) at e)) in
    (a, q, r, n)

first_plain : (x y : Bool) → (x || y) ≡ false → x ≡ false
first_plain false y e = refl
first_plain true y e = cc e

-- a field that isn't empty, from its start
enters : (s : State) (fields : Row) (b : ℕ) (rest tail : List ℕ) → IsStart s
    → needs_quotes default_writer (b ∷ rest) ≡ false
    → next_record default_config s fields [] ((b ∷ rest) ++ tail) ≡ next_record default_config st.InField fields
    (b ∷ rest) tail
enters s fields b rest tail start plain =
    let q = plain_byte b (first_plain _ _ plain) in
    let field : next_record default_config st.StartField fields [] ((b ∷ rest) ++ tail) ≡ next_record default_config
    st.InField fields (b ∷ rest) tail =
    start-same fields [] b (rest ++ tail) q.1 ∙ plain-run fields [] (b ∷ rest) tail plain in
    elim start [
      | inl e ↦ rw e (record-same fields [] b (rest ++ tail) q.2 q.3 ∙ field)
      | inr e ↦ rw e field
    ]

ends_field : (fields : Row) (x u : List ℕ)
    → next_record default_config st.InField fields x (44 ∷ u) ≡ next_record default_config st.StartField
    (fields ++ (x ∷ [])) [] u
unfolding next_record
ends_field fields x u = refl

empty_field : (s : State) (fields : Row) (u : List ℕ) → IsStart s
    → next_record default_config s fields [] (44 ∷ u) ≡ next_record default_config st.StartField (fields ++ ([] ∷ []))
    [] u
unfolding next_record
empty_field s fields u (inl e) = rw e refl
empty_field s fields u (inr e) = rw e refl

-- a plain field and its comma
passes : (s : State) (fields : Row) (x u : List ℕ) → IsStart s → needs_quotes default_writer x ≡ false
    → next_record default_config s fields [] (x ++ 44 ∷ u) ≡ next_record default_config st.StartField
    (fields ++ (x ∷ [])) [] u
passes s fields [] u start plain = empty_field s fields u start
passes s fields (b ∷ rest) u start plain = enters s fields b rest (44 ∷ u) start plain ∙ ends_field fields (b ∷ rest) u

-- a field that is too long
pub spoiled_by_length : (s : State) (fields : Row) (text : List ℕ) (from to : ℕ) → IsStart s → BeginsLong text from to
    → Spoils s fields (slice_range text from to)
spoiled_by_length s fields text from to start (at, plain, long, parts) tail =
    rw parts (by (slice_range text from at) plain long)
  where
    by : (x : List ℕ) → needs_quotes default_writer x ≡ false → longest_field < length x
        → ReadsUnfit (next_record default_config s fields [] ((x ++ slice_range text at to) ++ tail))
    by [] p l = absurd (omega (arith, l))
    by (b ∷ rest) p l =
        rw (
          append_assoc (b ∷ rest) (slice_range text at to) tail,
          enters s fields b rest
              (slice_range text at to ++ tail) start p,
        )
        (held_unfit fields (b ∷ rest) _ (holds_on st.InField fields (b ∷ rest) (slice_range text at to ++ tail) refl)
        (inr l))

-- a fifth field
spoiled_by_number : (fields : Row) (xs : List ℕ) → 4 ≤ length fields → Spoils st.StartField fields xs
spoiled_by_number fields xs many tail = held_unfit fields [] _ (holds_on st.StartField fields [] (xs ++ tail) refl)
    (inl many)

-- a field before what spoils the record
pub spoiled_later : (s : State) (fields : Row) (text : List ℕ) (from to at : ℕ) → IsStart s
    → EndsField text from to 44 at
    → Spoils st.StartField (fields ++ (slice_range text from at ∷ [])) (slice_range text (at + 1) to)
    → Spoils s fields (slice_range text from to)
spoiled_later s fields text from to at start ends spoils tail =
    let x = slice_range text from at in
    let u = slice_range text (at + 1) to in
    rw (ends.parts, append_assoc x (44 ∷ u) tail, passes s fields x (u ++ tail) start ends.plain) (spoils tail)

-- the fourth field's comma
pub spoiled_by_comma : (s : State) (fields : Row) (text : List ℕ) (from to : ℕ) → IsStart s → length fields ≡ 3
    → HasComma text from to → Spoils s fields (slice_range text from to)
spoiled_by_comma s fields text from to start three (at, ends) =
    let size = length-append fields (slice_range text from at ∷ []) in
    spoiled_later s fields text from to at start ends (spoiled_by_number (fields ++ (slice_range text from at ∷ []))
    (slice_range text (at + 1) to) (omega (arith, size, three)))

-- a line that is spoiled begins with a record that doesn't fit
pub spoiled_line : (xs tail : List ℕ) → Spoils st.StartRecord [] xs
    → BeginsUnfit (rows_from st.StartRecord (xs ++ tail))
spoiled_line xs tail spoils = by (next_record default_config st.StartRecord [] [] (xs ++ tail)) refl (spoils tail)
  where
    by : (o : Option Read) → next_record default_config st.StartRecord [] [] (xs ++ tail) ≡ o → ReadsUnfit o
        → BeginsUnfit (rows_from st.StartRecord (xs ++ tail))
    by None e h = absurd h
    by (Some p) e h = (p.0, rows_from p.1 p.2, rows-some st.StartRecord (xs ++ tail) p e, h)

-- four fields that fit
pub four_fit : (a b c d : List ℕ) → length a ≤ longest_field → length b ≤ longest_field → length c ≤ longest_field
    → length d ≤ longest_field → Fits (a ∷ b ∷ c ∷ d ∷ [])
four_fit a b c d p q r s =
    let Short : List ℕ → Type 0 = λ f. length f ≤ longest_field in (
      refl,
      All-cons Short a (b ∷ c ∷ d ∷ []) p
          (All-cons Short b (c ∷ d ∷ []) q (All-cons Short c (d ∷ []) r (All-cons Short d [] s (All-nil Short)))),
    )
