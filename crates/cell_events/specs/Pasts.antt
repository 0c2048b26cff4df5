-- What is kept of the entries so far
use Rattle.std.specs.Prelude.{◌≡◌, List, slice_index}
use Rattle.cell_types.specs.declared.words.Axis.{Axis}
use Rattle.cell_types.specs.Same.{axis_number}
use Rattle.cell_types.specs.After.{Snapshot as State}
use Rattle.cell_journal.specs.Snapshots.{seen, state_of}
use Rattle.cell_measures.specs.Waits.{starts}
use Rattle.cell_measures.specs.Times.{Ended, latest}
use Rattle.cell_events.specs.declared.past.Past.{Past}

-- the state that the entries so far left, and when each axis was started last
pub record Keeps (p : Past) (past : List Ended) (s : State) : Type 0 where
  pub state : state_of p.snapshot ≡ seen s
  pub axes : (a : Axis) → slice_index p.starts (axis_number a) ≡ latest (starts a) past
