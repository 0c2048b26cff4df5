-- What a Started and the end of a motion do, in the book and in the world
use Rattle.std.specs.Prelude.{◌≡◌, ◌⊎◌, ◌-◌, ℕ, true, false, Option, Some, None, List, [], ◌∷◌, ◌++◌}
use Rattle.cell_types.specs.declared.words.Axis.{Axis}
use Rattle.cell_types.specs.declared.words.Machine.{Machine}
use Rattle.cell_types.specs.declared.words.Machine.TheVariants as machine
use Rattle.cell_types.specs.declared.words.Pose.{Pose}
use Rattle.cell_types.specs.declared.words.Pose.TheVariants as pose
use Rattle.cell_types.specs.declared.words.Command.{Command}
use Rattle.cell_types.specs.declared.words.Entry.{Entry}
use Rattle.cell_types.specs.declared.words.Entry.TheVariants.{Started, Arrived as ArrivedAt, Forged}
use Rattle.cell_types.specs.Cell.{is_pose_of, machine_of_axis, press_axis}
use Rattle.cell_types.specs.Entries.{command_of}
use Rattle.cell_rules.specs.Safety.{SafeState}
use Rattle.cell_rules.specs.Views.{at_of, going_of}
use Rattle.cell_measures.specs.Times.{duration}
use Rattle.cell_ports.specs.declared.plan.Plan.{Plan}
use Rattle.cell_turns.specs.Following.{Following}
use Rattle.cell_sim.specs.Commands.{after_command}
use Rattle.cell_sim.specs.Looks.{is_belt}
use Rattle.cell_sim.specs.Parts.{axis_at}
use Rattle.cell_sim.specs.Simulated.{Simulated}
use Rattle.cell_world.specs.Tied.{none}
use Rattle.cell_world.specs.Going.{AxisCame, AxisGoes, IsAtRest, IsPlain}

-- a journal with one entry more
abbrev pub one_more : List Entry → Entry → List Entry
one_more J e = J ++ e ∷ []

-- the world after an entry's command, if it has one, in a cell without a fault
abbrev pub after_order : Simulated → Option Command → Simulated
after_order w None = w
after_order w (Some c) = after_command [] w c

abbrev pub after_entry : Simulated → Entry → Simulated
after_entry w e = after_order w (command_of e)

-- the axes of a machine with switches are at rest, in the book and in the world, and its watch follows no motion
pub record MachineRests (J : List Entry) (m : Machine) (f : Option Following) (w : Simulated) : Type 0 where
  pub plain : IsPlain w
  pub rest : (a : Axis) → machine_of_axis a ≡ m → IsAtRest J w a
  pub unnoted : f ≡ None

-- in how many readings beyond the second a motion that begins in this world shows nothing
abbrev pub further_in : Simulated → Axis → Pose → ℕ
further_in w a to = duration w.durations (record { axis = a; to = to }) - 1

-- where an axis of it is sent on, in the book and in the world, it goes in both, and no reading was given yet
abbrev pub AxisStarts : Type 0
AxisStarts =
    (J : List Entry) (p : Plan) (a : Axis) (to : Pose) (f : Option Following) (w : Simulated)
    → is_belt a ≡ false → is_pose_of a to ≡ true → MachineRests J (machine_of_axis a) f w
    → AxisGoes (one_more J (Started a to)) p a to (none (further_in w a to)) f (after_entry w (Started a to))

-- the entry by which an axis comes to rest at a pose: Arrived, and Forged of a press at its top
abbrev pub BringsTo : Axis → Pose → Entry → Type 0
BringsTo a to (ArrivedAt b at) = (b ≡ a) × (at ≡ to)
BringsTo a to (Forged press k) = (press_axis press ≡ Some a) × (to ≡ pose.Top)
BringsTo a to _ = ⊥

-- where it has come and this is booked, the machine rests in both, and its watch begins anew
abbrev pub AxisEnds : Type 0
AxisEnds =
    (J : List Entry) (p : Plan) (a : Axis) (to : Pose) (f : Option Following) (w : Simulated) (e : Entry)
    → is_belt a ≡ false → AxisCame J p a to f w → BringsTo a to e
    → MachineRests (one_more J e) (machine_of_axis a) None (after_entry w e)

-- the robot stands in the world as the book has it
abbrev pub RobotStands : List Entry → Simulated → Type 0
RobotStands J w = (a : Axis) → machine_of_axis a ≡ machine.Robot → (axis_at w a).pose ≡ at_of J a

-- then no collision is counted where any axis, a belt's too, is sent on, if what is booked is safe
abbrev pub StartsClear : Type 0
StartsClear =
    (J : List Entry) (a : Axis) (to : Pose) (w : Simulated)
    → IsPlain w → RobotStands J w → SafeState (one_more J (Started a to))
    → (after_entry w (Started a to)).collisions ≡ w.collisions

-- an axis stands in the world where the book has it, or, as one of a machine that failed may, where the book has it on
-- its way to
abbrev pub StandsAs : List Entry → Axis → Pose → Type 0
StandsAs J a p = (p ≡ at_of J a) ⊎ (going_of J a ≡ Some p)

abbrev pub RobotMayStand : List Entry → Simulated → Type 0
RobotMayStand J w = (a : Axis) → machine_of_axis a ≡ machine.Robot → StandsAs J a (axis_at w a).pose

-- nor is one then where an axis that rests in the book is sent on
abbrev pub StartsStayClear : Type 0
StartsStayClear =
    (J : List Entry) (a : Axis) (to : Pose) (w : Simulated)
    → IsPlain w → RobotMayStand J w → going_of J a ≡ None → SafeState (one_more J (Started a to))
    → (after_entry w (Started a to)).collisions ≡ w.collisions
