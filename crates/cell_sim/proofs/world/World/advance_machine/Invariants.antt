-- The loop over the axes of a machine
use Rattle.std.proofs.Common.{◌≡◌, drop}
use Rattle.cell_types.specs.Cell.{axes_of}
use Rattle.cell_sim.specs.Parts.{in_turn}
use Rattle.cell_sim.specs.Readings.{advanced}
use Rattle.cell_sim.proofs.world.World.advance_machine.Given as goal

-- what those left do now is what all do from the beginning
abbrev pub invariant-loop-axis : goal.invariant-loop-axis
invariant-loop-axis l =
    in_turn advanced (drop l.axis-index (axes_of l.fn.machine)) l.self
    ≡ in_turn advanced (axes_of l.fn.machine) l.initial.self
