-- Entries that depend on nothing of each other, and lists in which two neighbours are exchanged
use Rattle.std.specs.Prelude.{ℕ, ◌≡◌, ◌||◌, ◌++◌, ◌∷◌, Bool, false, Option, Some, None, List, length}
use Rattle.cell_types.specs.declared.words.Entry.{Entry}
use Rattle.cell_measures.specs.declared.motion.Move.{Move}
use Rattle.cell_measures.specs.Waits.{starts, waits_for}
use Rattle.cell_measures.specs.Times.{motion_of}

-- whether an entry starts a motion
abbrev pub is_start_of : Option Move → Entry → Bool
is_start_of (Some m) d = starts m.axis d
is_start_of None d = false

-- whether an entry depends on an earlier one: it waits for it, or ends the motion that the earlier one starts
abbrev pub depends : Entry → Entry → Bool
depends e d = waits_for e d || is_start_of (motion_of e) d

-- two lists are the same but for two neighbours, which are exchanged, at a place and the next
pub record IsExchange (place : ℕ) (xs ys : List ℕ) : Type 0 where
  pub before : List ℕ
  pub one : ℕ
  pub other : ℕ
  pub behind : List ℕ
  pub at : length before ≡ place
  pub first : xs ≡ before ++ one ∷ other ∷ behind
  pub second : ys ≡ before ++ other ∷ one ∷ behind
