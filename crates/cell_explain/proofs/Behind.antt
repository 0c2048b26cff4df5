-- What is known of the walk behind the first bytes of a text
use Rattle.std.proofs.Common.{◌≡◌, ◌≢◌, ◌∙◌, ◌==◌, ◌<◌, ◌≤◌, ◌+◌, ℕ, suc, zero, Bool, true, false, List, [], ◌∷◌}
use Rattle.std.proofs.Common.{◌++◌, Option, Some, None, ap, arith, drop, inl, inr, length, refl, sym, take, subst}
use Rattle.std.proofs.Common.{true≢false}
use Rattle.std.specs.Prelude.{◌&&◌, ◌⊎◌, not, if◌then◌else◌, slice_index_or}
use Rattle.std.proofs.lemmas.Bool.{cases_lt}
use Rattle.std.proofs.lemmas.Bool.Decides.{Decides-eqb}
use Rattle.std.proofs.lemmas.List.{drop-append-le, length-take-le, take_all, take_more}
use Rattle.std.proofs.Math.ListN.{drop_of_length-le}
use Rattle.csv.specs.Machine.{ends_at_end, is_end, step}
use Rattle.csv.specs.Reading.{default_config, is_bom, strip_bom}
use Rattle.csv.specs.declared.parser.State.{State}
use Rattle.csv.specs.declared.parser.State.TheVariants as st
use Rattle.cell_explain.specs.declared.places.Spot.{Spot}
use Rattle.cell_rows.specs.Rows.{rows_of}
use Rattle.cell_explain.specs.Places.{Stands, is_inside, line_after, records_ended, records_in, state_behind}
use Rattle.cell_explain.specs.Spots.{first_place, is_open, spot_after}
use Rattle.cell_explain.proofs.Counted.{rows-counted}
use Rattle.cell_explain.proofs.Walks.{Matches, open-same, records-snoc, state-snoc, step-agrees}

-- what csv reads of the first bytes of a text
abbrev pub read_of : List ℕ → ℕ → List ℕ
read_of text at = drop (first_place text) (take at text)

abbrev pub state_at : List ℕ → ℕ → State
state_at text at = state_behind st.StartRecord (read_of text at)

abbrev pub ended_at : List ℕ → ℕ → ℕ
ended_at text at = records_in st.StartRecord (read_of text at)

one-read : (text : List ℕ) (at : ℕ) → at < length text → first_place text ≤ at
    → read_of text (at + 1) ≡ read_of text at ++ slice_index_or text at 0 ∷ []
one-read text at h first =
    let inside : first_place text ≤ length (take at text) = rw (length-take-le at text (omega arith)) first in
    ap (drop (first_place text)) (take_more text at 0 h)
    ∙ drop-append-le (first_place text) (take at text) (slice_index_or text at 0 ∷ []) inside

none-read : (text : List ℕ) (at : ℕ) → at ≤ length text → at ≤ first_place text → read_of text at ≡ []
none-read text at h first =
    let short : length (take at text) ≤ first_place text = rw (length-take-le at text h) first in
    drop_of_length-le (take at text) short

-- the walk's state is csv's, and it counted as many records
pub record Walks (text : List ℕ) (at : ℕ) (p : Spot) (n : ℕ) : Type 0 where
  pub matches : Matches p (state_at text at)
  pub ended : n ≡ ended_at text at

-- no record begins in a byte order mark
walks-before : (text : List ℕ) (at : ℕ) (p : Spot) (n : ℕ) → at < length text → at < first_place text
    → Walks text at p n → Walks text (at + 1) p n
walks-before text at p n h first w =
    let now : read_of text at ≡ [] = none-read text at (omega arith) (omega arith) in
    let next : read_of text (at + 1) ≡ [] = none-read text (at + 1) (omega arith) (omega arith) in
    let same : read_of text at ≡ read_of text (at + 1) = now ∙ sym next in
    record {
      matches = subst (λ l. Matches p (state_behind st.StartRecord l)) same w.matches;
      ended = w.ended ∙ ap (records_in st.StartRecord) same;
    }

walks-behind : (text : List ℕ) (at : ℕ) (p p2 : Spot) (n n2 : ℕ) → at < length text → first_place text ≤ at
    → Walks text at p n → p2 ≡ spot_after p (slice_index_or text at 0)
    → n2 ≡ n + (if is_open p && not (is_open p2) then 1 else 0) → Walks text (at + 1) p2 n2
walks-behind text at p p2 n n2 h first w is counted =
    let byte = slice_index_or text at 0 in
    let agrees = step-agrees p (state_at text at) byte w.matches in
    let read = one-read text at h first in
    let state : state_at text (at + 1) ≡ (step default_config (state_at text at) byte).0 =
    ap (state_behind st.StartRecord) read ∙ state-snoc st.StartRecord (read_of text at) byte in
    let ended : ended_at text (at + 1)
    ≡ ended_at text at + (if is_end (step default_config (state_at text at) byte).1 then 1 else 0) =
    ap (records_in st.StartRecord) read ∙ records-snoc st.StartRecord (read_of text at) byte in
    record {
      matches = rw (is, state) agrees.0;
      ended = counted ∙ rw (is, w.ended) (sym (ended
          ∙ ap (λ (b : Bool). ended_at text at + (if b then 1 else 0)) agrees.1));
    }

-- what is known of a byte that is passed: that none is counted before the first place, and by its state from there on
pub record Passes (text : List ℕ) (at : ℕ) (p p2 : Spot) (n n2 : ℕ) : Type 0 where
  pub inside : at < length text
  pub walks : Walks text at p n
  pub before : at < first_place text → (p2 ≡ p) × (n2 ≡ n)
  pub behind : first_place text ≤ at → (p2 ≡ spot_after p (slice_index_or text at 0))
      × (n2 ≡ n + (if is_open p && not (is_open p2) then 1 else 0))

before-or-behind : (at first : ℕ) → (at < first) ⊎ (first ≤ at)
before-or-behind at first = cases_lt at first

pub walks-more : (text : List ℕ) (at : ℕ) (p p2 : Spot) (n n2 : ℕ) → Passes text at p p2 n n2
    → Walks text (at + 1) p2 n2
walks-more text at p p2 n n2 c = elim (before-or-behind at (first_place text)) [
  | inl before ↦ rw ((c.before before).0, (c.before before).1) (walks-before text at p n c.inside before c.walks)
  | inr behind ↦ walks-behind text at p p2 n n2 c.inside behind c.walks (c.behind behind).0 (c.behind behind).1
]

-- behind a byte order mark csv reads the rest
mark-read : (a b c : ℕ) (rest : List ℕ) (k : ℕ) (m : Bool) → is_bom a b c ≡ m → (if m then 3 else 0) ≤ k
    → strip_bom (take k (a ∷ b ∷ c ∷ rest)) ≡ drop (if m then 3 else 0) (take k (a ∷ b ∷ c ∷ rest))
unfolding strip_bom
mark-read a b c rest zero true is h = absurd (omega arith)
mark-read a b c rest (suc zero) true is h = absurd (omega arith)
mark-read a b c rest (suc (suc zero)) true is h = absurd (omega arith)
mark-read a b c rest (suc (suc (suc k))) true is h = rw is refl
mark-read a b c rest zero false is h = refl
mark-read a b c rest (suc zero) false is h = refl
mark-read a b c rest (suc (suc zero)) false is h = refl
mark-read a b c rest (suc (suc (suc k))) false is h = rw is refl

pub strip-read : (text : List ℕ) (k : ℕ) → first_place text ≤ k → strip_bom (take k text) ≡ read_of text k
unfolding strip_bom
strip-read [] zero h = refl
strip-read [] (suc k) h = refl
strip-read (a ∷ []) zero h = refl
strip-read (a ∷ []) (suc zero) h = refl
strip-read (a ∷ []) (suc (suc k)) h = refl
strip-read (a ∷ b ∷ []) zero h = refl
strip-read (a ∷ b ∷ []) (suc zero) h = refl
strip-read (a ∷ b ∷ []) (suc (suc zero)) h = refl
strip-read (a ∷ b ∷ []) (suc (suc (suc k))) h = refl
strip-read (a ∷ b ∷ c ∷ rest) k h = mark-read a b c rest k (is_bom a b c) refl h

mark-within : (m : Bool) (n : ℕ) → (if m then 3 else 0) ≤ n + 3
mark-within true n = omega arith
mark-within false n = omega arith

first-within : (text : List ℕ) → first_place text ≤ length text
first-within [] = omega arith
first-within (a ∷ []) = omega arith
first-within (a ∷ b ∷ []) = omega arith
first-within (a ∷ b ∷ c ∷ rest) =
    let within : (if is_bom a b c then 3 else 0) ≤ length rest + 3 = mark-within (is_bom a b c) (length rest) in
    omega (arith, within)

-- what the walk knows is what csv knows of the bytes before it
pub inside-is : (text : List ℕ) (at : ℕ) (p : Spot) (n : ℕ) → first_place text ≤ at → Walks text at p n
    → is_inside (take at text) ≡ is_open p
inside-is text at p n first w = ap (λ l. ends_at_end (state_behind st.StartRecord l)) (strip-read text at first)
    ∙ open-same p (state_at text at) w.matches

pub ended-is : (text : List ℕ) (at : ℕ) (p : Spot) (n : ℕ) → first_place text ≤ at → Walks text at p n
    → records_ended (take at text) ≡ n
ended-is text at p n first w = ap (records_in st.StartRecord) (strip-read text at first) ∙ sym w.ended

-- a byte that opens or closes a record isn't before the first place
changes-behind : (text : List ℕ) (at : ℕ) (p p2 : Spot) (n n2 : ℕ) (a b : Bool) → Passes text at p p2 n n2
    → is_open p ≡ a → is_open p2 ≡ b → a ≢ b → first_place text ≤ at
changes-behind text at p p2 n n2 a b c was is differ = elim (before-or-behind at (first_place text)) [
  | inl before ↦ absurd (differ (sym was ∙ (ap is_open (sym (c.before before).0) ∙ is)))
  | inr behind ↦ behind
]

-- the record that is looked for: not begun yet, or begun and not ended
abbrev pub Begun : List ℕ → ℕ → ℕ → Spot → ℕ → Option (ℕ × ℕ) → Type 0
Begun text number at p n None = n + (if is_open p then 1 else 0) ≤ number
Begun text number at p n (Some begun) =
    (begun.1 < at) × (begun.0 ≡ line_after (take begun.1 text)) × (records_ended (take begun.1 text) ≡ number)
    × (is_inside (take begun.1 text) ≡ false) × (is_inside (take (begun.1 + 1) text) ≡ true) × (n ≡ number)
    × (is_open p ≡ true)

three : (a b : Bool) (n number : ℕ) → (not a && b && (n == number)) ≡ true → (a ≡ false) × (b ≡ true) × (n ≡ number)
three true b n number h = absurd (true≢false (sym h))
three false false n number h = absurd (true≢false (sym h))
three false true n number h = (refl, refl, (Decides-eqb n number).0 h)

pub begins-here : (text : List ℕ) (number at line : ℕ) (p p2 : Spot) (n n2 : ℕ) → Passes text at p p2 n n2
    → (not (is_open p) && is_open p2 && (n2 == number)) ≡ true → line ≡ line_after (take at text)
    → Begun text number (at + 1) p2 n2 (Some (line, at))
begins-here text number at line p p2 n n2 c begins lined =
    let (was, is, numbered) = three (is_open p) (is_open p2) n2 number begins in
    let first : first_place text ≤ at =
    changes-behind text at p p2 n n2 false true c was is (λ e. true≢false (sym e)) in
    let counted : n2 ≡ n + (if is_open p && not (is_open p2) then 1 else 0) = (c.behind first).1 in
    let same : n2 ≡ n = counted ∙ rw was (omega arith) in
    let next : Walks text (at + 1) p2 n2 = walks-more text at p p2 n n2 c in (
      omega arith,
      lined,
      ended-is text at p n first c.walks ∙ (sym same ∙ numbered),
      inside-is text at p n first c.walks ∙ was,
      inside-is text (at + 1) p2 n2 (omega (arith, first)) next ∙ is,
      numbered,
      is,
    )

-- by what the walk knew and knows, no record begins that is the one
still : (a b : Bool) (number n n2 : ℕ) → n + (if a then 1 else 0) ≤ number
    → n2 ≡ n + (if a && not b then 1 else 0) → (not a && b && (n2 == number)) ≡ false
    → n2 + (if b then 1 else 0) ≤ number
still true true number n n2 few counted none = omega arith
still true false number n n2 few counted none = omega arith
still false false number n n2 few counted none = omega arith
still false true number n n2 few counted none =
    let other : n2 ≢ number = λ same. true≢false (sym ((Decides-eqb n2 number).1 same) ∙ none) in
    omega (arith, other)

pub begins-later : (text : List ℕ) (number at : ℕ) (p p2 : Spot) (n n2 : ℕ) → Passes text at p p2 n n2
    → Begun text number at p n None → (not (is_open p) && is_open p2 && (n2 == number)) ≡ false
    → Begun text number (at + 1) p2 n2 None
begins-later text number at p p2 n n2 c few none = elim (before-or-behind at (first_place text)) [
  | inl before ↦ rw ((c.before before).0, (c.before before).1) few
  | inr behind ↦ still (is_open p) (is_open p2) number n n2 few (c.behind behind).1 none
]

never-ends : (a : Bool) (n : ℕ) → n + (if a && false then 1 else 0) ≡ n
never-ends true n = omega arith
never-ends false n = omega arith

same-count : (text : List ℕ) (at : ℕ) (p p2 : Spot) (n n2 : ℕ) → Passes text at p p2 n n2 → is_open p2 ≡ true → n2 ≡ n
same-count text at p p2 n n2 c is = elim (before-or-behind at (first_place text)) [
  | inl before ↦ (c.before before).1
  | inr behind ↦ (c.behind behind).1 ∙ rw is (never-ends (is_open p) n)
]

pub goes-on : (text : List ℕ) (number at : ℕ) (p p2 : Spot) (n n2 : ℕ) (b : ℕ × ℕ) → Passes text at p p2 n n2
    → Begun text number at p n (Some b) → is_open p2 ≡ true → Begun text number (at + 1) p2 n2 (Some b)
goes-on text number at p p2 n n2 b c (start, lined, ended, out, begun, numbered, was) is =
    (omega arith, lined, ended, out, begun, same-count text at p p2 n n2 c is ∙ numbered, is)

pub ends-here : (text : List ℕ) (number at : ℕ) (p p2 : Spot) (n n2 : ℕ) (b : ℕ × ℕ) → Passes text at p p2 n n2
    → Begun text number at p n (Some b) → is_open p2 ≡ false → Stands text number b.1 at
ends-here text number at p p2 n n2 b c (start, lined, ended, out, begun, numbered, was) is =
    let first : first_place text ≤ at = changes-behind text at p p2 n n2 true false c was is true≢false in
    let counted : n2 ≡ n + 1 = (c.behind first).1 ∙ rw (was, is) refl in
    let next : Walks text (at + 1) p2 n2 = walks-more text at p p2 n n2 c in
    record {
      ordered = omega (arith, start);
      within = omega (arith, c.inside);
      before = ended;
      between = out;
      begins = begun;
      goes_on = inside-is text at p n first c.walks ∙ was;
      same = ended-is text at p n first c.walks ∙ numbered;
      ends = inr (ended-is text (at + 1) p2 n2 (omega (arith, first)) next ∙ (counted ∙ ap (λ k. k + 1) numbered));
    }

-- the text ends in the record
pub ends-text : (text : List ℕ) (number at : ℕ) (p : Spot) (n : ℕ) (b : ℕ × ℕ) → at ≡ length text → Walks text at p n
    → Begun text number at p n (Some b) → Stands text number b.1 (length text)
ends-text text number at p n b is w (start, lined, ended, out, begun, numbered, was) =
    let first : first_place text ≤ at = rw is (first-within text) in
    record {
      ordered = omega (arith, start, is);
      within = omega arith;
      before = ended;
      between = out;
      begins = begun;
      goes_on = subst (λ k. is_inside (take k text) ≡ true) is (inside-is text at p n first w ∙ was);
      same = subst (λ k. records_ended (take k text) ≡ number) is (ended-is text at p n first w ∙ numbered);
      ends = inl refl;
    }

-- the text has no such record
pub none-begun : (text : List ℕ) (number at : ℕ) (p : Spot) (n : ℕ) → at ≡ length text → Walks text at p n
    → Begun text number at p n None → length (rows_of text) ≤ number
none-begun text number at p n is w few =
    let first : first_place text ≤ at = rw is (first-within text) in
    let whole : take at text ≡ text = take_all at text (omega (arith, is)) in
    let read : strip_bom text ≡ read_of text at = ap strip_bom (sym whole) ∙ strip-read text at first in
    let counted : length (rows_of text) ≡ ended_at text at + (if ends_at_end (state_at text at) then 1 else 0) =
    rows-counted (length (strip_bom text) + 1) st.StartRecord (strip_bom text) (omega arith)
    ∙ ap (λ (l : List ℕ). records_in st.StartRecord l
    + (if ends_at_end (state_behind st.StartRecord l) then 1 else 0)) read in
    let known : ended_at text at + (if ends_at_end (state_at text at) then 1 else 0) ≤ number =
    rw (open-same p (state_at text at) w.matches, sym w.ended) few in
    omega (arith, counted, known)
