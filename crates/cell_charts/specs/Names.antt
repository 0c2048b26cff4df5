-- How a character of a name stands in a chart
use Rattle.std.specs.Prelude.{◌/◌, ◌%◌, ◌==◌, ◌||◌, ℕ, Bool, List, [], ◌∷◌, ◌++◌}
use Rattle.std.specs.Prelude.{codes, encode_utf8, if◌then◌else◌, slice_index}
use Rattle.std.specs.Char.{is_control}

-- the digit of a number below 16
abbrev pub hex_digit : ℕ → ℕ
hex_digit n = slice_index (codes "0123456789ABCDEF") n

-- a control character, or one of the two that XML refuses besides
abbrev pub is_untold : ℕ → Bool
is_untold c = is_control c || (c == 65534 || c == 65535)

-- `\u` and four digits
abbrev pub code_text : ℕ → List ℕ
code_text c =
    codes "\\u"
    ++ hex_digit (c / 4096 % 16) ∷ hex_digit (c / 256 % 16) ∷ hex_digit (c / 16 % 16) ∷ hex_digit (c % 16) ∷ []

-- a character that XML has for its own elements by its name there, and another one as it stands
abbrev pub told_char : ℕ → List ℕ
told_char c =
    if c == 38 then codes "&amp;"
    else if c == 60 then codes "&lt;"
    else if c == 62 then codes "&gt;"
    else if c == 34 then codes "&quot;"
    else encode_utf8 c

-- a character as it stands in a name
abbrev pub name_char : ℕ → List ℕ
name_char c = if is_untold c then code_text c else told_char c
