-- The loop over axes
use Rattle.std.proofs.Common.{◌≡◌, drop}
use Rattle.cell_sim.specs.Hands.{axis_homed}
use Rattle.cell_sim.specs.Parts.{in_turn}
use Rattle.cell_sim.proofs.world.World.put_all_home.Given as goal

-- what those left do now is what all do from the beginning
abbrev pub invariant-loop-axis : goal.invariant-loop-axis
invariant-loop-axis l =
    in_turn axis_homed (drop l.axis-index l.axes) l.self ≡ in_turn axis_homed l.axes l.initial.self
