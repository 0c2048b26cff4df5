-- Where the squares of a sweep stand in a chart, and where times
use Rattle.std.specs.Prelude.{ℕ, ◌+◌, ◌-◌, ◌*◌}

-- where the column of a motion begins: 13 for each motion before it
abbrev pub column_x : ℕ → ℕ
column_x motion = 176 + 13 * (motion - 1)

-- where a row of an axis begins: each axis before it has so many rows of 13, and a space
abbrev pub row_y : ℕ → ℕ → ℕ → ℕ
row_y axis rows row = 96 + (13 * rows + 9) * axis + 13 * row
