-- How a text is printed back
use Rattle.std.specs.Prelude.{◌/◌, ◌%◌, ℕ, List, [], ◌∷◌, ◌++◌, slice_index, if◌then◌else◌, codes, flat_map}
use Rattle.std.specs.Prelude.{encode_utf8}
use Rattle.std.specs.Char.{is_control}
use Rattle.std.specs.Str.{chars}

-- the digit of a number below 16
abbrev pub hex_digit : ℕ → ℕ
hex_digit n = slice_index (codes "0123456789ABCDEF") n

-- a control character as TOML's escape of it, by four digits, and another one as it stands
abbrev pub escaped_char : ℕ → List ℕ
escaped_char c = if is_control c then codes "\\u00" ++ hex_digit (c / 16) ∷ hex_digit (c % 16) ∷ [] else encode_utf8 c

-- a text as it is printed, character by character
abbrev pub escaped : List ℕ → List ℕ
escaped text = flat_map escaped_char (chars text)
