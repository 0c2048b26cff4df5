-- By which reading an axis has to have left its pose, and by which it has to have arrived
use Rattle.std.specs.Prelude.{ℕ, ◌<◌, ◌≤◌}

pub record Bounds : Type 0 where
  pub leave : ℕ
  pub limit : ℕ

-- `leave` is 2 to 999, and `limit` is above it and at most 1000
abbrev pub AreBounds : ℕ → ℕ → Type 0
AreBounds leave limit = (2 ≤ leave) × (leave ≤ 999) × (leave < limit) × (limit ≤ 1000)
