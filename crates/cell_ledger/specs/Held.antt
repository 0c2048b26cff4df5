-- What shares hold
use Rattle.std.specs.Prelude.{ℕ}
use Rattle.cell_types.specs.declared.words.Totals.{Totals}

-- how many parts of each of the six ledgers, and what they count
pub record Held : Type 0 where
  pub parts : ℕ
  pub counts : Totals

abbrev pub held : ℕ → Totals → Held
held parts counts = record { parts = parts; counts = counts }
