-- Plain records are read back from their lines.
use Rattle.std.proofs.Common.{◌≡◌, ◌∙◌, ℕ, List, [], ◌∷◌, ◌++◌, false, refl, ap, subst, arith, append_assoc}
use Rattle.std.specs.Prelude.{All}
use Rattle.std.proofs.lemmas.List.Elements.{All-head, All-tail}
use Rattle.csv.specs.Reading.{default_config, strip_bom}
use Rattle.csv.specs.Writing.{default_writer, field_text, fields_text, is_blank, needs_quotes, row_text}
use Rattle.csv.specs.declared.parser.State.TheVariants as st
use Rattle.csv.proofs.RoundTrip.{read-write-many}
use Rattle.cell_rows.specs.Rows.{Row, rows_from, rows_of}
use Rattle.cell_rows.specs.Lines.{IsPlain, line, lines_of, rest_of_line}
use Rattle.cell_rows.proofs.RowFacts.{ended, rows-some}

abbrev AllPlain : Row → Type 0
AllPlain row = All (λ field. needs_quotes default_writer field ≡ false) row

as_it_is : (field : List ℕ) → needs_quotes default_writer field ≡ false → field_text default_writer field ≡ field
as_it_is field p = rw p refl

-- the fields after the first, and the line feed
rest-text : (fields : Row) → AllPlain fields → fields_text default_writer fields ++ (10 ∷ []) ≡ rest_of_line fields
unfolding fields_text
rest-text [] p = refl
rest-text (field ∷ fields) p =
    rw (as_it_is field (All-head (λ f. needs_quotes default_writer f ≡ false) field fields p))
    (ap (λ (t : List ℕ). 44 ∷ t) (append_assoc field (fields_text default_writer fields) (10 ∷ [])
    ∙ ap (λ (t : List ℕ). field ++ t) (rest-text fields
    (All-tail (λ f. needs_quotes default_writer f ≡ false) field fields p))))

-- none of the fields needs quotes, and with two of them or more the record isn't a blank one
row-line : (x y : List ℕ) (ys : Row) → AllPlain (x ∷ y ∷ ys) → row_text default_writer (x ∷ y ∷ ys) ≡ line (x ∷ y ∷ ys)
unfolding is_blank
row-line x y ys p =
    rw (as_it_is x (All-head (λ f. needs_quotes default_writer f ≡ false) x (y ∷ ys) p))
    (append_assoc x (fields_text default_writer (y ∷ ys)) (10 ∷ [])
    ∙ ap (λ (t : List ℕ). x ++ t) (rest-text (y ∷ ys) (All-tail (λ f. needs_quotes default_writer f ≡ false) x (y ∷ ys)
    p)))

-- one record
pub one : (row : Row) (tail : List ℕ) → IsPlain row
    → rows_from st.StartRecord (line row ++ tail) ≡ row ∷ rows_from st.StartRecord tail
one [] tail p = absurd (omega (arith, p.0))
one (x ∷ []) tail p = absurd (omega (arith, p.0))
one (x ∷ y ∷ ys) tail p =
    subst (λ (t : List ℕ). rows_from st.StartRecord (t ++ tail) ≡ (x ∷ y ∷ ys) ∷ rows_from st.StartRecord tail)
    (row-line x y ys p.1)
    (rows-some st.StartRecord (row_text default_writer (x ∷ y ∷ ys) ++ tail) (x ∷ y ∷ ys, st.StartRecord, tail)
    (read-write-many x y ys tail))

-- after a line csv is again at the start of a record, so the next line is read in the same way
pub lines-back : (rows : List Row) → All IsPlain rows → rows_from st.StartRecord (lines_of rows) ≡ rows
unfolding lines_of
lines-back [] p = ended default_config 1
lines-back (row ∷ rows) p =
    one row (lines_of rows) (All-head IsPlain row rows p)
    ∙ ap (λ (t : List Row). row ∷ t) (lines-back rows (All-tail IsPlain row rows p))

-- a byte order mark would be taken off first, so the lines must not begin with one
pub read-back : (rows : List Row) → All IsPlain rows → strip_bom (lines_of rows) ≡ lines_of rows
    → rows_of (lines_of rows) ≡ rows
read-back rows p b = rw b (lines-back rows p)
