-- Entries by their numbers, as they are told
use Rattle.std.specs.Prelude.{ℕ, ◌+◌, List, [], ◌∷◌, Option, None}
use Rattle.std.specs.Option.{option_or}
use Rattle.cell_types.specs.declared.words.Entry.{Entry}

-- what the last of the entries, of which the first has the number n, says for which f says anything
abbrev pub last_numbered : {A : Type 0} → (ℕ → Entry → Option A) → ℕ → List Entry → Option A
last_numbered f n [] = None
last_numbered f n (e ∷ es) = option_or (last_numbered f (n + 1) es) (f n e)
