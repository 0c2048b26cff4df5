-- The machines with switches together, through the turns of each, without an operator and without a fault
use Rattle.std.specs.Prelude.{◌≡◌, ◌≢◌, Option, Some, None, List, ◌++◌, IfSome, option_to_list}
use Rattle.std.specs.Prelude.{if◌then◌else◌}
use Rattle.cell_types.specs.declared.words.Axis.{Axis}
use Rattle.cell_types.specs.declared.words.Machine.{Machine}
use Rattle.cell_types.specs.declared.words.Pose.{Pose}
use Rattle.cell_types.specs.declared.words.Entry.{Entry}
use Rattle.cell_types.specs.Cell.{machine_of_axis}
use Rattle.cell_types.specs.Entries.{machine_of_entry}
use Rattle.cell_types.specs.Same.{same_machine}
use Rattle.cell_rules.specs.Views.{at_of, going_of}
use Rattle.cell_ports.specs.declared.plan.Plan.{Plan}
use Rattle.cell_turns.specs.Minds.{Mind}
use Rattle.cell_sim.specs.Parts.{axis_at}
use Rattle.cell_sim.specs.Simulated.{Simulated}
use Rattle.cell_world.specs.Going.{IsPlain}
use Rattle.cell_world.specs.Tied.{Given, Goes, Rests}
use Rattle.cell_world.specs.Turning.{IsAsBooked, after_turn}

-- another machine's turn, of a belt too, leaves a machine with switches as it is booked
abbrev pub OthersKept : Type 0
OthersKept =
    (J : List Entry) (p : Plan) (m n : Machine) (s : Mind) (w : Simulated) (e : Option Entry)
    → IsPlain w → m ≢ n → IfSome e (λ x. machine_of_entry x ≡ Some m) → IsAsBooked J p n s w
    → IsAsBooked (J ++ option_to_list e) p n s (after_turn w m e)

-- the minds, of which one is another
abbrev pub with_mind : Machine → Mind → (Machine → Mind) → Machine → Mind
with_mind m s minds n = if same_machine m n then s else minds n

-- where an axis is at rest in the book, it rests there in the world, and where it goes, it is on its way there
pub record AxisAsBooked (J : List Entry) (w : Simulated) (a : Axis) : Type 0 where
  pub rests : going_of J a ≡ None → Rests (at_of J a) (axis_at w a)
  pub goes : (to : Pose) → going_of J a ≡ Some to → (g : Given) × Goes (at_of J a) to g (axis_at w a)

-- so is each axis of a machine that is as booked
abbrev pub BookIsWorld : Type 0
BookIsWorld =
    (J : List Entry) (p : Plan) (m : Machine) (s : Mind) (w : Simulated) → IsAsBooked J p m s w
    → (a : Axis) → machine_of_axis a ≡ m → AxisAsBooked J w a
