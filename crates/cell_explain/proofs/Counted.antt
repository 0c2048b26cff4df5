-- As many records are read of a text as end in it, and one more where the last goes on to its end
use Rattle.std.proofs.Common.{◌≡◌, ◌∙◌, ◌<◌, ◌+◌, ℕ, suc, zero, Bool, true, false, List, [], ◌∷◌, ◌++◌, Option}
use Rattle.std.proofs.Common.{Some, None, arith, inl, inr, length, refl, sym}
use Rattle.std.specs.Prelude.{◌⊎◌, if◌then◌else◌}
use Rattle.std.proofs.lemmas.Bool.{cases_Bool}
use Rattle.csv.specs.Machine.{Read, ends_at_end, fields_after, field_after, is_end, next_record, step}
use Rattle.csv.specs.Reading.{default_config, records_from, records_next}
use Rattle.csv.specs.declared.parser.State.{State}
use Rattle.csv.specs.declared.parser.State.TheVariants as st
use Rattle.cell_explain.specs.Places.{records_in, state_behind}

-- how many records a text has from a state
abbrev pub count_from : State → List ℕ → ℕ
count_from s xs = records_in s xs + (if ends_at_end (state_behind s xs) then 1 else 0)

-- a record that is read is one of these, and what is left is shorter, or nothing
abbrev pub Counts : State → List ℕ → Option Read → Type 0
Counts s xs None = count_from s xs ≡ 0
Counts s xs (Some r) = (count_from s xs ≡ count_from r.1 r.2 + 1)
    × ((length r.2 < length xs) ⊎ ((r.1 ≡ st.StartRecord) × (r.2 ≡ [])))

lift : (s t : State) (xs ys : List ℕ) (o : Option Read) → count_from s xs ≡ count_from t ys → length ys < length xs
    → Counts t ys o → Counts s xs o
lift s t xs ys None same less h = same ∙ h
lift s t xs ys (Some r) same less (counted, inl left) = (same ∙ counted, inl (omega arith))
lift s t xs ys (Some r) same less (counted, inr none) = (same ∙ counted, inr none)

at-end : (b : Bool) (s : State) (fs : List (List ℕ)) → ends_at_end s ≡ b
    → Counts s [] (if b then Some (fs, st.StartRecord, []) else None)
at-end true s fs is =
    let one : ◌≡◌ {A = ℕ} (if ends_at_end s then 1 else 0) 1 = rw is refl in
    (omega (arith, one), inr (refl, refl))
at-end false s fs is =
    let none : ◌≡◌ {A = ℕ} (if ends_at_end s then 1 else 0) 0 = rw is refl in
    omega (arith, none)

ends-now : (s : State) (c : ℕ) (rest : List ℕ) (fs : List (List ℕ)) → is_end (step default_config s c).1 ≡ true
    → Counts s (c ∷ rest) (Some (fs, (step default_config s c).0, rest))
ends-now s c rest fs is =
    let one : ◌≡◌ {A = ℕ} (if is_end (step default_config s c).1 then 1 else 0) 1 = rw is refl in
    (omega (arith, one), inl (omega arith))

not-yet : (s : State) (c : ℕ) (rest : List ℕ) (o : Option Read) → is_end (step default_config s c).1 ≡ false
    → Counts (step default_config s c).0 rest o → Counts s (c ∷ rest) o
not-yet s c rest o is h =
    let none : ◌≡◌ {A = ℕ} (if is_end (step default_config s c).1 then 1 else 0) 0 = rw is refl in
    lift s (step default_config s c).0 (c ∷ rest) rest o (omega (arith, none)) (omega arith) h

next-counts : (s : State) (f : List (List ℕ)) (p xs : List ℕ) → Counts s xs (next_record default_config s f p xs)
unfolding next_record
next-counts s f p [] = at-end (ends_at_end s) s (f ++ (p ∷ [])) refl
next-counts s f p (c ∷ rest) = elim (cases_Bool (is_end (step default_config s c).1)) [
  | inl is ↦ rw is (ends-now s c rest (fields_after (step default_config s c).1 f p) is)
  | inr is ↦ rw is (not-yet s c rest _ is (next-counts (step default_config s c).0
      (fields_after (step default_config s c).1 f p) (field_after (step default_config s c).1 c p) rest))
]

none-left : (n : ℕ) → length (records_from default_config n st.StartRecord []) ≡ 0
unfolding records_from next_record
none-left zero = refl
none-left (suc n) = refl

rows-next : (n : ℕ) (s : State) (xs : List ℕ) (o : Option Read) → Counts s xs o → length xs < suc n
    → ((t : State) (ys : List ℕ) → length ys < n → length (records_from default_config n t ys) ≡ count_from t ys)
    → length (records_next (records_from default_config n) o) ≡ count_from s xs
rows-next n s xs None h fuel more = sym h
rows-next n s xs (Some r) (counted, inl less) fuel more =
    let rest : length (records_from default_config n r.1 r.2) ≡ count_from r.1 r.2 = more r.1 r.2 (omega arith) in
    omega (arith, rest, counted)
rows-next n s xs (Some (row, t, ys)) (counted, inr (start, none)) fuel more =
    let rest : length (records_from default_config n t ys) ≡ 0 = rw (start, none) (none-left n) in
    let count : count_from t ys ≡ 0 = rw (start, none) refl in
    omega (arith, rest, count, counted)

-- the records of a text that csv reads from a state
pub rows-counted : (n : ℕ) (s : State) (xs : List ℕ) → length xs < n
    → length (records_from default_config n s xs) ≡ count_from s xs
unfolding records_from
rows-counted zero s xs fuel = absurd (omega arith)
rows-counted (suc n) s xs fuel = rows-next n s xs (next_record default_config s [] [] xs) (next-counts s [] [] xs) fuel
    (λ t ys less. rows-counted n t ys less)
