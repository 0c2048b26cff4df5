-- Times at which the entries of a journal may end
use Rattle.std.specs.Prelude.{ℕ, ◌≡◌, ◌<◌, ◌≤◌, ◌+◌, true, Some, List, length, slice_get, slice_index}
use Rattle.cell_types.specs.declared.words.Entry.{Entry}
use Rattle.cell_measures.specs.declared.motion.Move.{Move}
use Rattle.cell_measures.specs.declared.durations.Durations.{Durations}
use Rattle.cell_measures.specs.Waits.{starts, waits_for}
use Rattle.cell_measures.specs.Times.{duration, motion_of}

-- one entry stands at a place of a journal, and another at a later place
pub record AreInOrder (J : List Entry) (i k : ℕ) (d e : Entry) : Type 0 where
  pub order : i < k
  pub first : slice_get J i ≡ Some d
  pub second : slice_get J k ≡ Some e

-- a time for each entry of a journal: none is before that of an earlier entry for which it waits, and the end of a
-- motion is at least as much later than its start as the motion takes, and so than 0
pub record IsSchedule (ds : Durations) (J : List Entry) (at : List ℕ) : Type 0 where
  pub long : length at ≡ length J
  pub waits : (i k : ℕ) (d e : Entry) → AreInOrder J i k d e → waits_for e d ≡ true
      → slice_index at i ≤ slice_index at k
  pub lasts : (i k : ℕ) (d e : Entry) (m : Move) → AreInOrder J i k d e → motion_of e ≡ Some m
      → starts m.axis d ≡ true → slice_index at i + duration ds m ≤ slice_index at k
  pub whole : (k : ℕ) (e : Entry) (m : Move) → slice_get J k ≡ Some e → motion_of e ≡ Some m
      → duration ds m ≤ slice_index at k
