-- An axis with switches whose motion has a fault, and how long that keeps it from showing its end alone
use Rattle.std.specs.Prelude.{ℕ, zero, suc, ◌≡◌, ◌≢◌, ◌≤◌, ◌+◌, ◌-◌, ◌^◌, ◌==◌, min, Bool, true, false, not, Option}
use Rattle.std.specs.Prelude.{Some, None, List, [], ◌∷◌, length, if◌then◌else◌}
use Rattle.std.specs.List.{list_any}
use Rattle.cell_types.specs.declared.words.Axis.{Axis}
use Rattle.cell_types.specs.declared.words.Cause.{Cause}
use Rattle.cell_types.specs.declared.words.Command.TheVariants.{On}
use Rattle.cell_types.specs.Cell.{is_pose_of, machine_of_axis}
use Rattle.cell_types.specs.Same.{axis_number}
use Rattle.cell_diagnosis.specs.declared.motion.Motion.{Motion}
use Rattle.cell_diagnosis.specs.declared.verdict.Verdict.TheVariants.{Fault as Finds}
use Rattle.cell_diagnosis.specs.AxisFacts.{shows_alone}
use Rattle.cell_diagnosis.specs.AxisRules.{verdict}
use Rattle.cell_diagnosis.specs.Readings.{Seen, place_in_axis, seen}
use Rattle.cell_sim.specs.declared.fault.Fault.{Fault}
use Rattle.cell_sim.specs.declared.fault.Fault.TheVariants as fault
use Rattle.cell_sim.specs.declared.fault.PlannedFault.{PlannedFault}
use Rattle.cell_sim.specs.declared.motion.Moving.{Moving}
use Rattle.cell_sim.specs.declared.motion.Path.TheVariants.{Poses}
use Rattle.cell_sim.specs.declared.motion.Phase.{Phase}
use Rattle.cell_sim.specs.declared.motion.Phase.TheVariants.{Begun, Seen as IsSeen, Between, Arrived}
use Rattle.cell_sim.specs.Commands.{after_command, is_refused, motion_number}
use Rattle.cell_sim.specs.Looks.{is_belt}
use Rattle.cell_sim.specs.Moves.{begun, left_at, moves, next_phase}
use Rattle.cell_sim.specs.Parts.{axis_at}
use Rattle.cell_sim.specs.Readings.{after_reading, is_silent_in, shown}
use Rattle.cell_sim.specs.Script.{fault_in}
use Rattle.cell_sim.specs.Simulated.{Simulated}
use Rattle.cell_world.specs.Starting.{further_in}

-- an axis neither moves nor keeps its machine from being read
pub record IsStill (x : Option Moving) : Type 0 where
  pub unmoved : moves x ≡ false
  pub read : is_silent_in x ≡ false

-- so are the other axes of its machine
abbrev pub OthersStill : Axis → Simulated → Type 0
OthersStill a w =
    (b : Axis) → machine_of_axis b ≡ machine_of_axis a → axis_number b ≢ axis_number a → IsStill (axis_at w b).motion

-- the motion of an axis with switches, from one of its poses to another
pub record IsSwitched (m : Motion) : Type 0 where
  pub switches : is_belt m.axis ≡ false
  pub from_pose : is_pose_of m.axis m.from ≡ true
  pub to_pose : is_pose_of m.axis m.to ≡ true
  pub elsewhere : (place_in_axis m.to == place_in_axis m.from) ≡ false

-- in a world, watched or not, such a motion is under way and may have a fault, and nothing else of its machine moves
pub record GoesBy (m : Motion) (v : Moving) (w : Simulated) : Type 0 where
  pub switched : IsSwitched m
  pub axes : length w.axes ≡ 9
  pub motion : (axis_at w m.axis).motion ≡ Some v
  pub path : v.path ≡ Poses m.from m.to
  pub driven : v.stopped ≡ false
  pub others : OthersStill m.axis w

-- what one reading makes of a motion
abbrev pub read_once : Moving → Moving
read_once v =
    if v.missing == 0 then record v { phase = next_phase v } else record v { missing = v.missing - 1 }

-- the fault keeps a motion in this phase from showing its end alone, however often it is read
abbrev pub is_barred : Option Fault → Phase → Bool
is_barred (Some fault.NoMotion) phase = not (left_at phase)
is_barred (Some fault.KeepsOld) phase = true
is_barred (Some fault.Both) phase = true
is_barred _ phase = false

-- how many readings show nothing beyond the second one, with those by which a fault makes it slow
abbrev pub blank_in_all : Option Fault → ℕ → ℕ
blank_in_all (Some (fault.Slow n)) further = min (further + n) (2 ^ 32 - 1)
blank_in_all _ further = further

-- how many readings come before the one that shows the end, where so many are blank beyond the second one
abbrev pub before_end : ℕ → Phase → ℕ
before_end blank Begun = suc (suc blank)
before_end blank IsSeen = suc blank
before_end blank (Between n) = n
before_end blank Arrived = 0

-- so many readings at least don't show a motion's end alone; None: however many there are, none does
abbrev pub readings_left : Moving → Option ℕ
readings_left v =
    if is_barred v.fault v.phase then None
    else Some (v.missing + before_end (blank_in_all v.fault v.further) v.phase)

-- there are at least k of them
abbrev pub IsWithin : ℕ → Option ℕ → Type 0
IsWithin k None = Unit {0}
IsWithin k (Some n) = k ≤ n

-- the next reading doesn't show the end alone, and the motion goes on so that k more don't
pub record StaysHidden (k : ℕ) (m : Motion) (v : Moving) (w : Simulated) : Type 0 where
  pub hidden : shows_alone m.to (seen m (shown w (machine_of_axis m.axis))) ≡ false
  pub goes : GoesBy m (read_once v) (after_reading w (machine_of_axis m.axis))
  pub within : IsWithin k (readings_left (read_once v))

-- as long as a fault keeps an axis from its end, a reading doesn't show that end alone
abbrev pub ReadingHidesEnd : Type 0
ReadingHidesEnd =
    (k : ℕ) (m : Motion) (v : Moving) (w : Simulated) → GoesBy m v w → IsWithin (suc k) (readings_left v)
    → StaysHidden k m v w

-- the next k readings of a motion's machine as the motion's watch sees them, if no command comes between
abbrev pub seen_next : ℕ → Motion → Simulated → List Seen
seen_next zero m w = []
seen_next (suc k) m w =
    seen m (shown w (machine_of_axis m.axis)) ∷ seen_next k m (after_reading w (machine_of_axis m.axis))

-- nor does any of these
abbrev pub ReadingsHideEnd : Type 0
ReadingsHideEnd =
    (k : ℕ) (m : Motion) (v : Moving) (w : Simulated) → GoesBy m v w → IsWithin k (readings_left v)
    → list_any (shows_alone m.to) (seen_next k m w) ≡ false

-- how many readings of a motion that begins with a fault don't show its end alone, where so many show nothing by
-- themselves beyond the second one; None: however many there are, none does
abbrev pub kept_by : Fault → ℕ → Option ℕ
kept_by fault.NoMotion further = None
kept_by fault.KeepsOld further = None
kept_by fault.Both further = None
kept_by (fault.Slow n) further = Some (min (further + n) (2 ^ 32 - 1) + 2)
kept_by (fault.Silent n) further = Some (n + (further + 2))
kept_by fault.LosePlate further = Some (further + 2)
kept_by fault.RefuseCommand further = Some (further + 2)

-- none of these readings shows the end alone
abbrev pub FaultHidesEnd : Type 0
FaultHidesEnd =
    (k : ℕ) (m : Motion) (f : Fault) (duration : ℕ) (w : Simulated)
    → GoesBy m (begun (Poses m.from m.to) (Some f) duration) w → IsWithin k (kept_by f (duration - 1))
    → list_any (shows_alone m.to) (seen_next k m w) ≡ false

-- an axis is where the motion begins, nothing else of its machine moves, and a fault is planned for the axis's next
-- command, but not that this is refused
pub record IsToFail (faults : List PlannedFault) (m : Motion) (f : Fault) (w : Simulated) : Type 0 where
  pub switched : IsSwitched m
  pub axes : length w.axes ≡ 9
  pub pose : (axis_at w m.axis).pose ≡ m.from
  pub others : OthersStill m.axis w
  pub planned : fault_in m.axis (motion_number w m.axis) faults ≡ Some f
  pub taken : is_refused (Some f) ≡ false

-- after that command no reading shows the end alone, as long as the fault keeps the axis from it
abbrev pub PlannedHidesEnd : Type 0
PlannedHidesEnd =
    (k : ℕ) (faults : List PlannedFault) (m : Motion) (f : Fault) (w : Simulated) → IsToFail faults m f w
    → IsWithin k (kept_by f (further_in w m.axis m.to))
    → list_any (shows_alone m.to) (seen_next k m (after_command faults w (On m.axis m.to))) ≡ false

-- so the watch finds the fault by the reading that the motion's limit names, if it keeps the axis from its end so long
abbrev pub PlannedIsFound : Type 0
PlannedIsFound =
    (faults : List PlannedFault) (m : Motion) (f : Fault) (w : Simulated) → IsToFail faults m f w
    → 1 ≤ m.limits.limit → IsWithin m.limits.limit (kept_by f (further_in w m.axis m.to))
    → (why : Cause)
    × (verdict m (seen_next m.limits.limit m (after_command faults w (On m.axis m.to))) ≡ Finds why)
