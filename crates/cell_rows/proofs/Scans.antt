-- The next record of a text is that of a plain line
use Rattle.std.proofs.Common.{◌≡◌, ◌≢◌, ◌≤◌, ◌<◌, ◌+◌, ◌-◌, ◌∙◌, ℕ, List, ◌∷◌, ◌++◌, length, take, drop, get_or, false}
use Rattle.std.proofs.Common.{sym, ap, subst, arith, append_assoc}
use Rattle.std.specs.Prelude.{slice_range}
use Rattle.std.proofs.lemmas.List.{take-take}
use Rattle.std.proofs.lemmas.List.Edits.{length-between}
use Rattle.csv.specs.declared.parser.State.TheVariants as st
use Rattle.cell_rows.specs.Rows.{Row, rows_of, rows_from}
use Rattle.cell_rows.specs.Lines.{line}
use Rattle.csv.specs.Writing.{default_writer, needs_quotes}
use Rattle.cell_rows.specs.Fitting.{BeginsUnfit, longest_field}
use Rattle.cell_rows.specs.Plain.{BeginsLine, BeginsLong, EndsField, IsLineAt, IsUnfitAt, IsUnfitLine, TakesLine}
use Rattle.cell_rows.specs.Plain.{row_at}
use Rattle.cell_rows.specs.declared.places.Places.{Places}
use Rattle.cell_rows.proofs.RowFacts.{after_feed, unmarked}
use Rattle.cell_rows.proofs.Lines.{one}
use Rattle.cell_rows.proofs.Pieces.{first_of_piece, seam}

-- csv passes over a line feed before a record, so the line begins at the byte after it
pub after_line_feed : (text : List ℕ) (at to : ℕ) → at < to → to ≤ length text → get_or text at 0 ≡ 10
    → BeginsLine text at to (at + 1)
after_line_feed text at to some end is =
    let first : slice_range text at to ≡ 10 ∷ slice_range text (at + 1) to = first_of_piece text at to 0 some end
    ∙ ap (λ (c : ℕ). c ∷ slice_range text (at + 1) to) is in
    record {
      before = omega arith;
      same = λ tail. ap (λ (xs : List ℕ). rows_of (xs ++ tail)) first
          ∙ after_feed (slice_range text (at + 1) to ++ tail);
    }

-- all that may be taken off before a line is a byte order mark, and another byte than its first is none
pub at_once : (text : List ℕ) (at to : ℕ) → at < to → to ≤ length text → get_or text at 0 ≢ 0xEF
    → BeginsLine text at to at
at_once text at to some end other =
    let first : slice_range text at to ≡ get_or text at 0 ∷ slice_range text (at + 1) to =
    first_of_piece text at to 0 some end in
    record {
      before = omega arith;
      same = λ tail. ap (λ (xs : List ℕ). rows_of (xs ++ tail)) first
          ∙ unmarked (get_or text at 0) (slice_range text (at + 1) to ++ tail) other
          ∙ ap (λ (xs : List ℕ). rows_from st.StartRecord (xs ++ tail)) (sym first);
    }

-- a line that is unfit begins a record that is
pub unfit_at : (text : List ℕ) (at start to : ℕ) → BeginsLine text at to start → IsUnfitLine text start to
    → IsUnfitAt text at to
unfit_at text at start to begins unfit tail = subst BeginsUnfit (sym (begins.same tail)) (unfit tail)

-- the line feed stays with the rest, where it gives no record, so the next line is found in the same way
pub takes_line : (text : List ℕ) (at start to : ℕ) (p : Places) → BeginsLine text at to start → IsLineAt text start to p
    → TakesLine text at to p
takes_line text at start to p begins found =
    let row = row_at text p in
    let rest = slice_range text (p.fourth + 1) to in
    record {
      before = found.ends;
      fits = found.fits;
      takes = λ tail. begins.same tail
          ∙ ap (λ (xs : List ℕ). rows_from st.StartRecord (xs ++ tail)) found.parts
          ∙ ap (λ (xs : List ℕ). rows_from st.StartRecord xs) (append_assoc (line row) rest tail)
          ∙ one row (rest ++ tail) found.plain
          ∙ ap (λ (t : List Row). row ∷ t) (sym (after_feed (rest ++ tail))
          ∙ ap (λ (xs : List ℕ). rows_of (xs ++ tail)) (sym found.rest));
    }

-- the first bytes of a piece
pub first_bytes : (text : List ℕ) (from to n : ℕ) → from + n ≤ to
    → take n (slice_range text from to) ≡ slice_range text from (from + n)
first_bytes text from to n low =
    take-take n (to - from) (drop from text) (omega (arith, low))
    ∙ ap (λ (k : ℕ). take k (drop from text)) (omega arith)

-- a field of n plain bytes, and the byte after it
pub ends_field_at : (text : List ℕ) (from to n : ℕ) → from + n < to → to ≤ length text → n ≤ longest_field
    → needs_quotes default_writer (take n (slice_range text from to)) ≡ false
    → EndsField text from to (get_or text (from + n) 0) (from + n)
ends_field_at text from to n some end few plain =
    let at = from + n in
    let first : slice_range text at to ≡ get_or text at 0 ∷ slice_range text (at + 1) to =
    first_of_piece text at to 0 some end in
    let size = length-between text from at (omega (arith, some, end)) in
    record {
      after = omega arith;
      before = some;
      short = omega (arith, size, few);
      plain = subst (λ (x : List ℕ). needs_quotes default_writer x ≡ false)
          (first_bytes text from to n (omega (arith, some))) plain;
      parts = seam text from at to (omega arith) (omega (arith, some)) (omega (arith, some, end))
          ∙ ap (λ (x : List ℕ). slice_range text from at ++ x) first;
      rest = first;
    }

-- a field of too many plain bytes
pub long_field : (text : List ℕ) (from to n : ℕ) → from ≤ to → to ≤ length text → n ≤ length (slice_range text from to)
    → longest_field < n → needs_quotes default_writer (take n (slice_range text from to)) ≡ false
    → BeginsLong text from to
long_field text from to n low end some many plain =
    let at = from + n in
    let whole = length-between text from to end in
    let within : at ≤ to = omega (arith, some, whole, low) in
    let size = length-between text from at (omega (arith, within, end)) in (
      at,
      subst (λ (x : List ℕ). needs_quotes default_writer x ≡ false) (first_bytes text from to n within) plain,
      omega (arith, size, many),
      seam text from at to (omega arith) within (omega (arith, within, end)),
    )
