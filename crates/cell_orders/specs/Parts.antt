-- What was read of a text, where that is known
use Rattle.std.specs.Prelude.{◌≡◌, ◌++◌, ◌==◌, ◌&&◌, ℕ, Bool, not, List, Option, IfSome}

-- these bytes are the whole text
abbrev pub IsWhole : Option (List ℕ) → List ℕ → Type 0
IsWhole known bytes = IfSome known (λ text. bytes ≡ text)

-- the text begins with these bytes
abbrev pub IsFirstPart : Option (List ℕ) → List ℕ → Type 0
IsFirstPart known bytes = IfSome known (λ text. (rest : List ℕ) × (text ≡ bytes ++ rest))

-- a byte that is no line feed and no carriage return
abbrev pub ends_no_line : ℕ → Bool
ends_no_line byte = not (byte == 10) && not (byte == 13)
