-- When the entries of a journal begin and end at the earliest
use Rattle.std.specs.Prelude.{ℕ, ◌+◌, max, Bool, Option, Some, None, List, [], ◌∷◌, if◌then◌else◌, slice_index}
use Rattle.std.specs.Prelude.{slice_index_or}
use Rattle.std.specs.Option.{option_map}
use Rattle.cell_types.specs.declared.words.Axis.{Axis}
use Rattle.cell_types.specs.declared.words.Pose.TheVariants as pose
use Rattle.cell_types.specs.declared.words.Entry.{Entry}
use Rattle.cell_types.specs.declared.words.Entry.TheVariants.{Arrived, Conveyed, Forged}
use Rattle.cell_types.specs.declared.cell.BeltMotion.{BeltMotion}
use Rattle.cell_types.specs.Same.{axis_number, pose_number}
use Rattle.cell_types.specs.Cell.{motion_to, press_axis}
use Rattle.cell_measures.specs.declared.motion.Move.{Move}
use Rattle.cell_measures.specs.declared.durations.Durations.{Durations}
use Rattle.cell_measures.specs.Waits.{waits_for, starts}

-- the motion that an entry ends
abbrev pub motion_of : Entry → Option Move
motion_of (Arrived a p) = Some (record { axis = a; to = p })
motion_of (Conveyed a k dest) = option_map (λ (m : BeltMotion). record { axis = a; to = m.to }) (motion_to a dest)
motion_of (Forged m k) = option_map (λ (a : Axis). record { axis = a; to = pose.Top }) (press_axis m)
motion_of _ = None

-- how long a motion takes
abbrev pub duration : Durations → Move → ℕ
duration ds m = slice_index (slice_index_or ds.rows (axis_number m.axis) []) (pose_number m.to)

-- an entry, with the time at which it ended
pub record Ended : Type 0 where
  pub entry : Entry
  pub at : ℕ

-- the latest end of the entries that pass a test; 0 where none does
abbrev pub latest : (Entry → Bool) → List Ended → ℕ
latest p [] = 0
latest p (d ∷ past) = if p d.entry then max d.at (latest p past) else latest p past

-- an entry begins when all have ended for which it waits
abbrev pub begins : List Ended → Entry → ℕ
begins past e = latest (waits_for e) past

-- the end of a motion is as much later than its start as the motion takes
abbrev pub ends_motion : Durations → List Ended → Option Move → ℕ → ℕ
ends_motion ds past None begun = begun
ends_motion ds past (Some m) begun = max begun (latest (starts m.axis) past + duration ds m)

-- an entry ends when it begins, but one that ends a motion not before the motion is over
abbrev pub ends : Durations → List Ended → Entry → ℕ
ends ds past e = ends_motion ds past (motion_of e) (begins past e)

-- the ends of entries that follow a past, in their order
abbrev pub times_after : Durations → List Ended → List Entry → List ℕ
times_after ds past [] = []
times_after ds past (e ∷ es) = ends ds past e ∷ times_after ds (record { entry = e; at = ends ds past e } ∷ past) es

-- the ends of a journal's entries
abbrev pub times : Durations → List Entry → List ℕ
times ds J = times_after ds [] J
