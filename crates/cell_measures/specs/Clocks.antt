-- What a clock keeps of the entries so far
use Rattle.std.specs.Prelude.{ℕ, ◌≡◌, Option, Some, None, List, [], ◌∷◌, if◌then◌else◌, max, slice_index}
use Rattle.cell_types.specs.declared.words.Machine.{Machine}
use Rattle.cell_types.specs.declared.words.Axis.{Axis}
use Rattle.cell_types.specs.declared.words.Zone.{Zone}
use Rattle.cell_types.specs.declared.words.Entry.{Entry}
use Rattle.cell_types.specs.Same.{machine_number, axis_number, zone_number}
use Rattle.cell_measures.specs.declared.clock.Clock.{Clock}
use Rattle.cell_measures.specs.Waits.{is_of, names, frees, starts, wants}
use Rattle.cell_measures.specs.Times.{Ended, latest}

-- a clock keeps when entries of each machine, of each plate, that free each zone and that start each axis ended last
pub record Keeps (c : Clock) (past : List Ended) : Type 0 where
  pub machines : (m : Machine) → slice_index c.machines (machine_number m) ≡ latest (is_of m) past
  pub plates : (k : ℕ) → slice_index c.plates.items k ≡ latest (names k) past
  pub zones : (z : Zone) → slice_index c.zones (zone_number z) ≡ latest (frees z) past
  pub axes : (a : Axis) → slice_index c.axes (axis_number a) ≡ latest (starts a) past

-- the time of a plate, if there is one
abbrev pub plate_time : List ℕ → Option ℕ → ℕ
plate_time plates (Some k) = slice_index plates k
plate_time plates None = 0

-- the time of a zone that an entry wants
abbrev pub zone_time : List ℕ → Entry → Zone → ℕ
zone_time zones e z = if wants z e then slice_index zones (zone_number z) else 0

-- the time of a zone after an entry that ended
abbrev pub freed_time : List ℕ → Entry → ℕ → Zone → ℕ
freed_time zones e end z = if frees z e then max end (slice_index zones (zone_number z)) else slice_index zones
    (zone_number z)

-- the greatest of the times of zones; 0 of none
abbrev pub greatest : (Zone → ℕ) → List Zone → ℕ
greatest f [] = 0
greatest f (z ∷ zs) = max (f z) (greatest f zs)
