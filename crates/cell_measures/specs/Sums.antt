-- What a journal's entries and their ends add up to
use Rattle.std.specs.Prelude.{ℕ, ◌≡◌, ◌≤◌, ◌+◌, Bool, true, false, List, All, count_by, fold, length, max}
use Rattle.cell_types.specs.declared.words.Entry.{Entry}
use Rattle.cell_types.specs.declared.words.Entry.TheVariants.{Delivered, Declared}
use Rattle.cell_measures.specs.declared.course.Course.{Course}
use Rattle.cell_measures.specs.declared.measures.Spent.{Spent}
use Rattle.cell_measures.specs.declared.tally.Tally.{Tally}

-- the last of some times; 0 of none
abbrev pub last_of : List ℕ → ℕ
last_of times = fold max 0 times

abbrev pub is_delivery : Entry → Bool
is_delivery (Delivered k) = true
is_delivery _ = false

abbrev pub is_declaration : Entry → Bool
is_declaration (Declared m cause) = true
is_declaration _ = false

-- a machine's time, of whatever kind
abbrev pub whole : Spent → ℕ
whole s = s.failed + s.moving + s.waiting + s.holding + s.idle

-- all time of a machine up to its last entry is counted, which is no later than some time
pub record IsCounted (time : ℕ) (c : Course) : Type 0 where
  pub whole : whole c.spent ≡ c.since
  pub past : c.since ≤ time

-- what is counted of entries and their ends
pub record Counts (t : Tally) (J : List Entry) (ends : List ℕ) : Type 0 where
  pub time : t.time ≡ last_of ends
  pub delivered : length t.deliveries.items ≡ count_by is_delivery J
  pub declared : length t.declarations.items ≡ count_by is_declaration J
  pub courses : All (IsCounted t.time) t.courses
