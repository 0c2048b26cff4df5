-- The loop over the stations of a machine
use Rattle.std.proofs.Common.{◌≡◌, drop}
use Rattle.cell_types.specs.Cell.{stations_of}
use Rattle.cell_sim.specs.Parts.{in_turn, plate_lost}
use Rattle.cell_sim.proofs.world.World.lose_plates.Given as goal

-- what those left do now is what all do from the beginning
abbrev pub invariant-loop-station : goal.invariant-loop-station
invariant-loop-station l =
    in_turn plate_lost (drop l.station-index (stations_of l.fn.machine)) l.self
    ≡ in_turn plate_lost (stations_of l.fn.machine) l.initial.self
