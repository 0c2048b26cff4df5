-- The loop that searches for a plate
use Rattle.std.proofs.Common.{◌≡◌, drop}
use Rattle.std.specs.List.{list_any}
use Rattle.cell_sim.specs.Parts.{has_plate}
use Rattle.cell_sim.proofs.world.World.has_any.Given as goal

-- none of those so far has a plate, so if one does it is one of those left
abbrev pub invariant-loop-station : goal.invariant-loop-station
invariant-loop-station l =
    list_any (has_plate l.self) (drop l.station-index l.stations) ≡ list_any (has_plate l.self) l.stations
