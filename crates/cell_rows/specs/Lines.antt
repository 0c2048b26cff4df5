-- How records are written as lines, and which records are read back from their lines
use Rattle.std.specs.Prelude.{◌≡◌, ◌≤◌, false, ℕ, List, [], ◌∷◌, ◌++◌, length, All}
use Rattle.csv.specs.Writing.{default_writer, needs_quotes}
use Rattle.cell_rows.specs.Texts.{Row}

-- the fields of a record after its first, a comma before each, and the line feed
abbrev pub rest_of_line : Row → List ℕ
rest_of_line [] = 10 ∷ []
rest_of_line (field ∷ fields) = 44 ∷ (field ++ rest_of_line fields)

-- the line of a record: its fields as they are, with commas between them, and a line feed
abbrev pub line : Row → List ℕ
line [] = 10 ∷ []
line (field ∷ fields) = field ++ rest_of_line fields

-- the lines of records, one after the other
unfoldable pub lines_of : List Row → List ℕ
lines_of [] = []
lines_of (row ∷ rows) = line row ++ lines_of rows

-- a record of several fields, none of which needs quotes: no comma, no quote and no line end is in them
abbrev pub IsPlain : Row → Type 0
IsPlain row = (2 ≤ length row) × All (λ field. needs_quotes default_writer field ≡ false) row
