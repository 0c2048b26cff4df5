-- The loop that searches for a plate
use Rattle.std.proofs.Common.{◌≡◌, drop}
use Rattle.std.specs.List.{list_any}
use Rattle.cell_sim.specs.Hands.{is_plate_at}
use Rattle.cell_sim.proofs.world.World.is_at_any.Given as goal

-- it wasn't at those so far, so if it is at one it is at one of those left
abbrev pub invariant-loop-station : goal.invariant-loop-station
invariant-loop-station l =
    list_any (is_plate_at l.self l.plate) (drop l.station-index l.stations)
    ≡ list_any (is_plate_at l.self l.plate) l.stations
