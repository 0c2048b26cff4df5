-- An axis with switches, in the book, in the world and in the machine's axis watch
use Rattle.std.specs.Prelude.{◌≡◌, ◌≢◌, true, false, Option, Some, None, List, length}
use Rattle.cell_types.specs.declared.words.Axis.{Axis}
use Rattle.cell_types.specs.declared.words.Pose.{Pose}
use Rattle.cell_types.specs.declared.words.Entry.{Entry}
use Rattle.cell_types.specs.Cell.{is_pose_of, machine_of_axis}
use Rattle.cell_types.specs.Same.{axis_number}
use Rattle.cell_rules.specs.Views.{at_of, going_of}
use Rattle.cell_diagnosis.specs.declared.verdict.Verdict.TheVariants.{Pending, Arrived as HasArrived}
use Rattle.cell_ports.specs.declared.plan.Plan.{Plan}
use Rattle.cell_turns.specs.Following.{Following}
use Rattle.cell_turns.specs.Observed.{axis_noted, axis_verdict}
use Rattle.cell_sim.specs.Simulated.{Simulated}
use Rattle.cell_sim.specs.Looks.{is_belt}
use Rattle.cell_sim.specs.Parts.{axis_at}
use Rattle.cell_sim.specs.Readings.{after_reading, shown}
use Rattle.cell_world.specs.Tied.{Given, Goes, IsFair, Rests, further_of, motion_by, next_given, noted_of}

-- a world of nine axes and nine stations that looks at no safety rule
pub record IsPlain (w : Simulated) : Type 0 where
  pub unwatched : w.watch.is_on ≡ false
  pub axes : length w.axes ≡ 9
  pub stations : length w.plates ≡ 9

-- an axis is at rest at one of its poses, in the book and in the world
pub record IsAtRest (J : List Entry) (w : Simulated) (a : Axis) : Type 0 where
  pub booked : going_of J a ≡ None
  pub own_pose : is_pose_of a (at_of J a) ≡ true
  pub rests : Rests (at_of J a) (axis_at w a)

-- so are the other axes of its machine
abbrev pub OthersRest : List Entry → Simulated → Axis → Type 0
OthersRest J w a = (b : Axis) → machine_of_axis b ≡ machine_of_axis a → axis_number b ≢ axis_number a → IsAtRest J w b

-- an axis is on its way, in the book and in the world, the others of its machine rest, and the machine's watch noted
-- what was shown
pub record AxisGoes (J : List Entry) (p : Plan) (a : Axis) (to : Pose) (g : Given) (f : Option Following)
    (w : Simulated)
    : Type 0 where
  pub plain : IsPlain w
  pub booked : going_of J a ≡ Some to
  pub from_pose : is_pose_of a (at_of J a) ≡ true
  pub to_pose : is_pose_of a to ≡ true
  pub goes : Goes (at_of J a) to g (axis_at w a)
  pub others : OthersRest J w a
  pub noted : f ≡ noted_of (motion_by J p a to) g

-- it has come in the world where the book has it on its way, and the watch says so
pub record AxisCame (J : List Entry) (p : Plan) (a : Axis) (to : Pose) (f : Option Following) (w : Simulated) : Type 0
  where
    pub plain : IsPlain w
    pub booked : going_of J a ≡ Some to
    pub to_pose : is_pose_of a to ≡ true
    pub came : Rests to (axis_at w a)
    pub others : OthersRest J w a
    pub verdict : axis_verdict f ≡ HasArrived

pub record AxisStays (J : List Entry) (p : Plan) (a : Axis) (to : Pose) (g : Given) (f : Option Following)
    (w : Simulated)
    : Type 0 where
  pub pending : axis_verdict f ≡ Pending
  pub goes : AxisGoes J p a to g f w

-- after one more reading: it is on its way, or the last one finds that it came
abbrev pub AxisWent : List Entry → Plan → Axis → Pose → Option Given → Option Following → Simulated → Type 0
AxisWent J p a to (Some g) f w = AxisStays J p a to g f w
AxisWent J p a to None f w = AxisCame J p a to f w

abbrev pub AxisGoesOn : Type 0
AxisGoesOn =
    (J : List Entry) (p : Plan) (a : Axis) (to : Pose) (g : Given) (f : Option Following) (w : Simulated)
    → is_belt a ≡ false → IsFair (motion_by J p a to) (further_of g) → AxisGoes J p a to g f w
    → AxisWent J p a to (next_given g) (axis_noted J (machine_of_axis a) p f (shown w (machine_of_axis a)))
    (after_reading w (machine_of_axis a))
