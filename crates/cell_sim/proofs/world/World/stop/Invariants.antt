-- The loop over the axes of a machine
use Rattle.std.proofs.Common.{◌≡◌, drop}
use Rattle.cell_types.specs.Cell.{axes_of}
use Rattle.cell_sim.specs.Commands.{axis_stopped}
use Rattle.cell_sim.specs.Parts.{in_turn}
use Rattle.cell_sim.proofs.world.World.stop.Given as goal

-- what those left do now is what all do from the beginning
abbrev pub invariant-loop-axis : goal.invariant-loop-axis
invariant-loop-axis l =
    in_turn axis_stopped (drop l.axis-index (axes_of l.fn.machine)) l.self
    ≡ in_turn axis_stopped (axes_of l.fn.machine) l.initial.self
