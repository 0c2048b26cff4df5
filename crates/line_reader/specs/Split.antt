-- The parts of a text between signs, and the record of a line
use Rattle.std.specs.Prelude.{ℕ, ◌==◌, List, [], ◌∷◌, ◌++◌, length, Option, Some, None, if◌then◌else◌}

-- the parts of a text, with this sign between them, of which the first begins so
unfoldable pub parts_after : ℕ → List ℕ → List ℕ → List (List ℕ)
parts_after sign part [] = part ∷ []
parts_after sign part (b ∷ rest) =
    if b == sign then part ∷ parts_after sign [] rest else parts_after sign (part ++ b ∷ []) rest

-- the parts of a text, with this sign between them
abbrev pub parts : ℕ → List ℕ → List (List ℕ)
parts sign text = parts_after sign [] text

-- these fields, if they are four
abbrev pub if_four : List (List ℕ) → Option (List (List ℕ))
if_four fields = if length fields == 4 then Some fields else None

-- the record of a line, if it has four fields, with commas (44) between them
abbrev pub record_of : List ℕ → Option (List (List ℕ))
record_of line = if_four (parts 44 line)
