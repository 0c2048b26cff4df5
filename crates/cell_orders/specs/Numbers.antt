-- Numbers that words of the command line write
use Rattle.std.specs.Prelude.{◌≡◌, ◌≤◌, ℕ, List, Option, Some, None}
use Rattle.std.specs.Borrow.{Bor}
use Rattle.cell_command.specs.Counts.{IsNumber}

-- a word writes a number from one to another
abbrev pub IsNumberIn : ℕ → ℕ → List ℕ → ℕ → Type 0
IsNumberIn least most word n = IsNumber word n × (least ≤ n) × (n ≤ most)

-- a word writes no number from one to another
abbrev pub IsNoNumberIn : ℕ → ℕ → List ℕ → Type 0
IsNoNumberIn least most word = (n : ℕ) → IsNumberIn least most word n → ⊥

-- the number from one to another that a word writes, or the usual one where no word is given
abbrev pub IsNumberOr : ℕ → ℕ → ℕ → Option (Bor (List ℕ)) → ℕ → Type 0
IsNumberOr usual least most None n = n ≡ usual
IsNumberOr usual least most (Some word) n = IsNumberIn least most word.now n

-- a word is given, and writes no number from one to another
abbrev pub IsOutside : ℕ → ℕ → Option (Bor (List ℕ)) → Type 0
IsOutside least most None = ⊥
IsOutside least most (Some word) = IsNoNumberIn least most word.now
