-- The records that a text has, one record at a time.
use Rattle.std.proofs.Common.{◌≡◌, ◌≢◌, ◌⊎◌, inl, inr, ◌<◌, ◌+◌, ◌∙◌, ℕ, zero, suc, List, [], ◌∷◌, ◌++◌, length, Option}
use Rattle.std.proofs.Common.{Some, None, Bool, true, false, refl, sym, ap, subst, arith, add-one}
use Rattle.std.proofs.lemmas.Bool.{cases_Bool}
use Rattle.std.specs.Prelude.{option_map, ◌==◌}
use Rattle.std.proofs.lemmas.Bool.Decides.{nat_tests}
use Rattle.csv.specs.Records.{field_at}
use Rattle.csv.specs.Machine.{Read, ends_at_end, fields_after, is_end, next_record, step}
use Rattle.csv.specs.Reading.{NextIs, ReadRecord, ReadsNext, default_config, pending_of, records_from, records_next}
use Rattle.csv.specs.Reading.{source_of, strip_bom}
use Rattle.csv.specs.declared.parser.Config.{Config}
use Rattle.csv.specs.declared.parser.State.{State}
use Rattle.csv.specs.declared.parser.State.TheVariants as st
use Rattle.csv.specs.declared.reader.Reader.{Reader}
use Rattle.cell_rows.specs.Rows.{Row, Takes, TakesRow, rows_from, rows_of}

-- a record takes bytes, or all of the text
abbrev pub Shrinks : Read → List ℕ → Type 0
Shrinks p xs = (length p.2 < length xs) ⊎ ((p.1 ≡ st.StartRecord) × (p.2 ≡ []))

shorter : (p : Read) (c : ℕ) (xs : List ℕ) → Shrinks p xs → Shrinks p (c ∷ xs)
shorter p c xs (inl h) = inl (omega arith)
shorter p c xs (inr h) = inr h

-- without it, reading one record after the other might never come to an end
pub shrinks : (cfg : Config) (s : State) (fields : List (List ℕ)) (field : List ℕ) (xs : List ℕ) (p : Read)
    → next_record cfg s fields field xs ≡ Some p → Shrinks p xs
unfolding next_record
shrinks cfg s fields field [] p h = elim (cases_Bool (ends_at_end s)) [
  | inl e ↦ let f : Some (fields ++ (field ∷ []), st.StartRecord, []) ≡ Some p = rw e at h in inr (cc, cc)
  | inr e ↦ let f : None ≡ Some p = rw e at h in cc
]
shrinks cfg s fields field (c ∷ rest) p h = elim (cases_Bool (is_end (step cfg s c).1)) [
  | inl e ↦ let f : Some (fields_after (step cfg s c).1 fields field, (step cfg s c).0, rest) ≡ Some p = rw e at h in
      let r : p.2 ≡ rest = cc in inl (rw r (omega arith))
  | inr e ↦ shorter p c rest (shrinks cfg (step cfg s c).0 _ _ rest p (rw e at h))
]

-- nothing is left at the end
pub ended : (cfg : Config) (n : ℕ) → records_from cfg n st.StartRecord [] ≡ []
unfolding records_from next_record
ended cfg zero = refl
ended cfg (suc n) = refl

-- how many records are asked for makes no difference, where there are bytes for no more
pub enough : (cfg : Config) (n m : ℕ) (s : State) (xs : List ℕ) → length xs < n → length xs < m
    → records_from cfg n s xs ≡ records_from cfg m s xs
unfolding records_from
enough cfg zero m s xs a b = absurd (omega arith)
enough cfg (suc n) zero s xs a b = absurd (omega arith)
enough cfg (suc n) (suc m) s xs a b = by (next_record cfg s [] [] xs) refl (λ t ys x y. enough cfg n m t ys x y)
  where
    by : (o : Option Read) → next_record cfg s [] [] xs ≡ o
        → ((t : State) (ys : List ℕ) → length ys < n → length ys < m
        → records_from cfg n t ys ≡ records_from cfg m t ys)
        → records_next (records_from cfg n) o ≡ records_next (records_from cfg m) o
    by None e more = refl
    by (Some p) e more = elim (shrinks cfg s [] [] xs p e) [
      | inl less ↦ ap (λ (t : List Row). p.0 ∷ t) (more p.1 p.2 (omega arith) (omega arith))
      | inr last ↦ rw (last.0, last.1, ended cfg n, ended cfg m) refl
    ]

-- the records from a state, by the next of them
pub rows-none : (s : State) (xs : List ℕ) → next_record default_config s [] [] xs ≡ None → rows_from s xs ≡ []
unfolding records_from
rows-none s xs e = rw (add-one, e) refl

pub rows-some : (s : State) (xs : List ℕ) (p : Read) → next_record default_config s [] [] xs ≡ Some p
    → rows_from s xs ≡ p.0 ∷ rows_from p.1 p.2
unfolding records_from
rows-some s xs p e = rw (add-one (length xs), e) (elim (shrinks default_config s [] [] xs p e) [
  | inl less ↦ ap (λ (t : List Row). p.0 ∷ t) (enough default_config (length xs) (length p.2 + 1) p.1 p.2 less
      (omega arith))
  | inr last ↦ rw (last.0, last.1, ended default_config (length xs), ended default_config 1) refl
])

-- what csv says of a read, in records
reads : (s : State) (xs : List ℕ) (after : Option (List ℕ)) (found : Bool) (row : List (List ℕ)) (t : State)
    → ReadsNext default_config s (Some xs) after found row t
    → Takes (rows_from s xs) (option_map (rows_from t) after) row found
reads s xs None found row t h = absurd h
reads s xs (Some ys) found row t h = by (next_record default_config s [] [] xs) refl found h
  where
    by : (o : Option Read) → next_record default_config s [] [] xs ≡ o → (b : Bool) → NextIs o b row t ys
        → Takes (rows_from s xs) (Some (rows_from t ys)) row b
    by None e true n = cc n
    by None e false n = rows-none s xs e
    by (Some p) e true n = rows-some s xs p e ∙ rw (n.1, n.2, n.3) refl
    by (Some p) e false n = cc n.0

takes-none : (new : Option (List Row)) (row : Row) (found : Bool) → TakesRow None new row found
takes-none new row found = tt

-- the contract of a read speaks of the reader's own settings, which here are the usual ones
pub takes : {R : Type 0} (rem : R → Option (List ℕ)) (a b : Reader R) (found : Bool) (row : List (List ℕ))
    → a.config ≡ default_config → ReadRecord rem a b found row
    → TakesRow (option_map (rows_from a.state) (source_of rem a)) (option_map (rows_from b.state) (source_of rem b)) row
    found
takes rem a b found row config r = rw r.1
    (by (source_of rem a) (pending_of (rem b.rdr) b) (step (source_of rem a) (pending_of (rem b.rdr) b) r.0))
  where
    step : (x y : Option (List ℕ)) → ReadsNext a.config a.state x y found row b.state
        → ReadsNext default_config a.state x y found row b.state
    step x y h = subst (λ (k : Config). ReadsNext k a.state x y found row b.state) config h

    by : (x y : Option (List ℕ)) → ReadsNext default_config a.state x y found row b.state
        → TakesRow (option_map (rows_from a.state) x) (option_map (rows_from b.state) y) row found
    by None y h = tt
    by (Some xs) y h = reads a.state xs y found row b.state h

-- a record of four fields, field by field
pub four-fields : (fs : List (List ℕ)) (a b c d : List ℕ) → length fs ≡ 4 → field_at fs 0 ≡ Some a
    → field_at fs 1 ≡ Some b → field_at fs 2 ≡ Some c → field_at fs 3 ≡ Some d
    → fs ≡ a ∷ b ∷ c ∷ d ∷ []
unfolding field_at
four-fields [] a b c d n p q r s = absurd (omega arith)
four-fields (x ∷ []) a b c d n p q r s = absurd (omega arith)
four-fields (x ∷ y ∷ []) a b c d n p q r s = absurd (omega arith)
four-fields (x ∷ y ∷ z ∷ []) a b c d n p q r s = absurd (omega arith)
four-fields (x ∷ y ∷ z ∷ w ∷ []) a b c d n p q r s = cc
four-fields (x ∷ y ∷ z ∷ w ∷ v ∷ fs) a b c d n p q r s = absurd (omega arith)

pub field-there : (fs : List (List ℕ)) (i : ℕ) → i < length fs → field_at fs i ≢ None
unfolding field_at
field-there [] i h = absurd (omega arith)
field-there (x ∷ fs) zero h = λ e. cc e
field-there (x ∷ fs) (suc i) h = field-there fs i (omega arith)

-- a byte order mark isn't taken off what begins with another byte than its first
other_byte : (c : ℕ) → c ≢ 0xEF → (c == 0xEF) ≡ false
other_byte c h = grind (arith, nat_tests)

pub no_mark : (c : ℕ) (xs : List ℕ) → c ≢ 0xEF → strip_bom (c ∷ xs) ≡ c ∷ xs
unfolding strip_bom
no_mark c [] h = refl
no_mark c (a ∷ []) h = refl
no_mark c (a ∷ b ∷ xs) h = rw (other_byte c h) refl

pub unmarked : (c : ℕ) (xs : List ℕ) → c ≢ 0xEF → rows_of (c ∷ xs) ≡ rows_from st.StartRecord (c ∷ xs)
unmarked c xs h = rw (no_mark c xs h) refl

-- a line feed before a text gives no record, and no byte order mark is taken off after it
skip_feed : (xs : List ℕ) → next_record default_config st.StartRecord [] [] (10 ∷ xs) ≡ next_record default_config
    st.StartRecord [] [] xs
unfolding next_record
skip_feed xs = refl

pub after_feed : (xs : List ℕ) → rows_of (10 ∷ xs) ≡ rows_from st.StartRecord xs
after_feed xs = unmarked 10 xs (λ e. cc e) ∙ by (next_record default_config st.StartRecord [] [] xs) refl
  where
    by : (o : Option Read) → next_record default_config st.StartRecord [] [] xs ≡ o
        → rows_from st.StartRecord (10 ∷ xs) ≡ rows_from st.StartRecord xs
    by None e = rows-none st.StartRecord (10 ∷ xs) (skip_feed xs ∙ e) ∙ sym (rows-none st.StartRecord xs e)
    by (Some p) e = rows-some st.StartRecord (10 ∷ xs) p (skip_feed xs ∙ e) ∙ sym (rows-some st.StartRecord xs p e)
