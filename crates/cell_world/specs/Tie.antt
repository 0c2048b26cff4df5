-- The tie of one machine with switches, through readings and entries: it rests, or one axis of it goes
use Rattle.std.specs.Prelude.{◌≡◌, ◌≢◌, ◌≤◌, ◌+◌, Bool, false, true, Option, None, List, ◌⊎◌}
use Rattle.cell_types.specs.declared.words.Axis.{Axis}
use Rattle.cell_types.specs.declared.words.Machine.{Machine}
use Rattle.cell_types.specs.declared.words.Pose.{Pose}
use Rattle.cell_types.specs.declared.words.Entry.{Entry}
use Rattle.cell_types.specs.declared.words.Entry.TheVariants.{Started}
use Rattle.cell_types.specs.declared.words.Station.{Station}
use Rattle.cell_types.specs.Cell.{is_pose_of, machine_of_axis, machine_of_station}
use Rattle.cell_rules.specs.Views.{at_of}
use Rattle.cell_diagnosis.specs.declared.verdict.Verdict.TheVariants.{Pending}
use Rattle.cell_diagnosis.specs.RestFacts.{agrees, noted}
use Rattle.cell_ports.specs.declared.plan.Plan.{Plan}
use Rattle.cell_turns.specs.Expected.{expected_of}
use Rattle.cell_turns.specs.Following.{Following}
use Rattle.cell_turns.specs.Moving.{limits_of}
use Rattle.cell_turns.specs.Observed.{axis_noted, axis_verdict}
use Rattle.cell_sim.specs.Looks.{is_belt}
use Rattle.cell_sim.specs.Parts.{axis_at, plate_at}
use Rattle.cell_sim.specs.Readings.{after_reading, shown}
use Rattle.cell_sim.specs.Simulated.{Simulated}
use Rattle.cell_world.specs.Tied.{Given, IsFair, further_of, motion_by}
use Rattle.cell_world.specs.Going.{AxisCame, AxisGoes}
use Rattle.cell_world.specs.Starting.{after_entry, further_in, one_more, BringsTo, MachineRests}
use Rattle.cell_world.specs.Agreeing.{has_belt}
use Rattle.cell_world.specs.Handing.{HasBooked}

-- an axis of the machine goes, on a motion that takes as long as the world's motions do and that the watch can follow,
-- and the others rest
pub record MachineGoes (J : List Entry) (p : Plan) (m : Machine) (f : Option Following) (w : Simulated) : Type 0 where
  pub mover : Axis
  pub to : Pose
  pub given : Given
  pub of : machine_of_axis mover ≡ m
  pub long : further_of given ≡ further_in w mover to
  pub fair : IsFair (motion_by J p mover to) (further_of given)
  pub goes : AxisGoes J p mover to given f w

-- book, world and axis watch of a machine with switches are tied
abbrev pub IsTied : List Entry → Plan → Machine → Option Following → Simulated → Type 0
IsTied J p m f w = MachineRests J m f w ⊎ MachineGoes J p m f w

pub record MachineCame (J : List Entry) (p : Plan) (m : Machine) (f : Option Following) (w : Simulated) : Type 0 where
  pub mover : Axis
  pub to : Pose
  pub of : machine_of_axis mover ≡ m
  pub came : AxisCame J p mover to f w

-- they are tied and the watch says nothing, or an axis came and the watch says so
abbrev pub WentOn : List Entry → Plan → Machine → Option Following → Simulated → Type 0
WentOn J p m f w = ((axis_verdict f ≡ Pending) × IsTied J p m f w) ⊎ MachineCame J p m f w

-- so it is after a reading
abbrev pub MachineGoesOn : Type 0
MachineGoesOn =
    (J : List Entry) (p : Plan) (m : Machine) (f : Option Following) (w : Simulated)
    → has_belt m ≡ false → IsTied J p m f w
    → WentOn J p m (axis_noted J m p f (shown w m)) (after_reading w m)

-- the plan's limits let each motion be as long as it is in this world: a reading shows where it begins, one and so many
-- further ones show nothing, and one shows where it ends
abbrev pub IsFairPlan : Plan → Simulated → Type 0
IsFairPlan p w = (a : Axis) (to : Pose)
    → (2 ≤ (limits_of p a).leave) × (further_in w a to + 3 ≤ (limits_of p a).limit)

-- a Started to elsewhere leaves a machine that rests tied
abbrev pub MachineStarts : Type 0
MachineStarts =
    (J : List Entry) (p : Plan) (a : Axis) (to : Pose) (f : Option Following) (w : Simulated)
    → is_belt a ≡ false → IsFairPlan p w → is_pose_of a to ≡ true → to ≢ at_of J a
    → MachineRests J (machine_of_axis a) f w
    → IsTied (one_more J (Started a to)) p (machine_of_axis a) f (after_entry w (Started a to))

-- the entry that brings the axis to rest where it came leaves it tied
abbrev pub MachineEnds : Type 0
MachineEnds =
    (J : List Entry) (p : Plan) (m : Machine) (f : Option Following) (w : Simulated) (e : Entry)
    → has_belt m ≡ false → (c : MachineCame J p m f w) → BringsTo c.mover c.to e
    → IsTied (one_more J e) p m None (after_entry w e)

-- its axes stand in the world where the book has them
abbrev pub TiedStands : Type 0
TiedStands =
    (J : List Entry) (p : Plan) (m : Machine) (f : Option Following) (w : Simulated) → IsTied J p m f w
    → (a : Axis) → machine_of_axis a ≡ m → (axis_at w a).pose ≡ at_of J a

-- each station of the machine has in the world what it has in the book
abbrev pub PlatesBooked : List Entry → Machine → Simulated → Type 0
PlatesBooked J m w = (s : Station) → machine_of_station s ≡ m → HasBooked J w s

-- then a reading of a tied machine agrees with what is expected of it
abbrev pub ReadingAgrees : Type 0
ReadingAgrees =
    (J : List Entry) (p : Plan) (m : Machine) (f : Option Following) (w : Simulated) (unvisited : Bool)
    → has_belt m ≡ false → IsTied J p m f w → PlatesBooked J m w
    → agrees (noted m (expected_of J m unvisited) (shown w m)) ≡ true

-- and leaves the plates where they are
abbrev pub ReadingLeaves : Type 0
ReadingLeaves =
    (J : List Entry) (p : Plan) (m : Machine) (f : Option Following) (w : Simulated)
    → has_belt m ≡ false → IsTied J p m f w
    → (s : Station) → plate_at (after_reading w m) s ≡ plate_at w s
