-- The numbers that words write
use Rattle.std.specs.Prelude.{◌≡◌, ◌≤◌, ◌^◌, ℕ, List}
use Rattle.std.specs.Str.Parse.{IsNumeral, digits_value, without_leading_plus}
use Rattle.cell_command.specs.declared.count.Count.{Count}
use Rattle.cell_command.specs.declared.count.Count.TheVariants as count

-- a word of one decimal digit or more
abbrev pub HasDigits : List ℕ → Type 0
HasDigits word = IsNumeral 10 (without_leading_plus word)

-- the decimal digits of a word, before which a plus may stand, write a number
abbrev pub IsNumber : List ℕ → ℕ → Type 0
IsNumber word n = HasDigits word × (digits_value 10 (without_leading_plus word) ≡ n)

-- a count of a number
abbrev pub Counts : Count → ℕ → Type 0
Counts (count.Number k) n = k ≡ n
Counts count.Beyond n = 2 ^ 32 ≤ n
