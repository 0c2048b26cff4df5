-- The loop that searches for an axis that moves
use Rattle.std.proofs.Common.{◌≡◌, drop}
use Rattle.std.specs.List.{list_any}
use Rattle.cell_types.specs.Cell.{axes_of}
use Rattle.cell_sim.specs.Parts.{is_axis_moving, is_machine_moving}
use Rattle.cell_sim.proofs.world.World.is_machine_moving.Given as goal

-- none of those so far moves, so if one does it is one of those left
abbrev pub invariant-loop-axis : goal.invariant-loop-axis
invariant-loop-axis l =
    list_any (is_axis_moving l.self) (drop l.axis-index (axes_of l.fn.machine))
    ≡ is_machine_moving l.self l.fn.machine
