-- The loop that takes out a plate
use Rattle.std.proofs.Common.{◌≡◌, drop}
use Rattle.cell_sim.specs.Hands.{taken_where}
use Rattle.cell_sim.specs.Parts.{in_turn}
use Rattle.cell_sim.proofs.world.World.take_from.Given as goal

-- what those left do now is what all do from the beginning
abbrev pub invariant-loop-station : goal.invariant-loop-station
invariant-loop-station l =
    in_turn (taken_where l.fn.plate) (drop l.station-index l.stations) l.self
    ≡ in_turn (taken_where l.fn.plate) l.stations l.initial.self
