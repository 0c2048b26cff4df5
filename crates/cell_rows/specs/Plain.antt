-- Lines of four plain fields in a text
use Rattle.std.specs.Prelude.{ℕ, ◌≡◌, ◌≤◌, ◌<◌, ◌+◌, false, List, [], ◌∷◌, ◌++◌, length, map, slice_range}
use Rattle.std.specs.Simd.Lanes.{mask_l}
use Rattle.csv.specs.Writing.{default_writer, needs_byte, needs_quotes}
use Rattle.csv.specs.declared.parser.State.TheVariants as st
use Rattle.cell_rows.specs.Texts.{Row, rows_of, rows_from}
use Rattle.cell_rows.specs.Lines.{IsPlain, line}
use Rattle.cell_rows.specs.Fitting.{BeginsUnfit, Fits, longest_field}
use Rattle.cell_rows.specs.declared.places.Places.{Places}

-- a field from one place to another, with no byte that needs quotes, and this byte after it
pub record EndsField (text : List ℕ) (from to end at : ℕ) : Type 0 where
  pub after : from ≤ at
  pub before : at < to
  pub short : length (slice_range text from at) ≤ longest_field
  pub plain : needs_quotes default_writer (slice_range text from at) ≡ false
  pub parts : slice_range text from to ≡ slice_range text from at ++ end ∷ slice_range text (at + 1) to
  pub rest : slice_range text at to ≡ end ∷ slice_range text (at + 1) to

-- which bytes from one place to another can't stand in a field without quotes: a bit for each, the first one's lowest
abbrev pub ends_marked : List ℕ → ℕ → ℕ → ℕ
ends_marked text from to = mask_l (map (needs_byte default_writer) (slice_range text from to))

-- the fields at these places
abbrev pub row_at : List ℕ → Places → Row
row_at text p =
    slice_range text p.start p.first ∷ slice_range text (p.first + 1) p.second ∷ slice_range text (p.second + 1) p.third
    ∷ slice_range text (p.third + 1) p.fourth ∷ []

-- the text from `start` to `to` begins with the line of a plain record, which stands at these places
pub record IsLineAt (text : List ℕ) (start to : ℕ) (p : Places) : Type 0 where
  pub begins : p.start ≡ start
  pub ends : p.fourth < to
  pub plain : IsPlain (row_at text p)
  pub fits : Fits (row_at text p)
  pub parts : slice_range text start to ≡ line (row_at text p) ++ slice_range text (p.fourth + 1) to
  pub rest : slice_range text p.fourth to ≡ 10 ∷ slice_range text (p.fourth + 1) to

-- a field begins at `from` that has more bytes than one of a record that fits, none of which needs quotes
abbrev pub BeginsLong : List ℕ → ℕ → ℕ → Type 0
BeginsLong text from to =
    (at : ℕ) × (needs_quotes default_writer (slice_range text from at) ≡ false)
    × (longest_field < length (slice_range text from at))
    × (slice_range text from to ≡ slice_range text from at ++ slice_range text at to)

-- the plain field that begins at `from` ends at a comma
abbrev pub HasComma : List ℕ → ℕ → ℕ → Type 0
HasComma text from to = (at : ℕ) × EndsField text from to 44 at

-- the line from `start` on is none of a record that fits, whatever comes after `to`
abbrev pub IsUnfitLine : List ℕ → ℕ → ℕ → Type 0
IsUnfitLine text start to = (tail : List ℕ) → BeginsUnfit (rows_from st.StartRecord (slice_range text start to ++ tail))

-- the next record of the text from `at` to `to` is none that fits, whatever comes after it
abbrev pub IsUnfitAt : List ℕ → ℕ → ℕ → Type 0
IsUnfitAt text at to = (tail : List ℕ) → BeginsUnfit (rows_of (slice_range text at to ++ tail))

-- the next record of the text from `at` to `to`, whatever comes after it, begins a line at `start`
pub record BeginsLine (text : List ℕ) (at to start : ℕ) : Type 0 where
  pub before : start ≤ to
  pub same : (tail : List ℕ) → rows_of (slice_range text at to ++ tail)
      ≡ rows_from st.StartRecord (slice_range text start to ++ tail)

-- the next record of the text from `at` to `to`, whatever comes after it, stands at these places; the rest begins with
-- its line feed, which gives no record
pub record TakesLine (text : List ℕ) (at to : ℕ) (p : Places) : Type 0 where
  pub before : p.fourth < to
  pub fits : Fits (row_at text p)
  pub takes : (tail : List ℕ) → rows_of (slice_range text at to ++ tail) ≡ row_at text p
      ∷ rows_of (slice_range text p.fourth to ++ tail)
