-- The line of a number
use Rattle.std.specs.Prelude.{ℕ, List, ◌∷◌, [], ◌++◌, decimal}

-- a word, a number and a line feed
abbrev pub number_line : List ℕ → ℕ → List ℕ
number_line word n = word ++ 32 ∷ (decimal n ++ 10 ∷ [])
