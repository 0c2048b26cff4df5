-- The loop that looks for plates at the stations
use Rattle.std.proofs.Common.{◌≡◌, ◌++◌, drop}
use Rattle.cell_journal.specs.Snapshots.{state_of}
use Rattle.cell_events.specs.Places.{lying, only}
use Rattle.cell_events.proofs.Found.{as_list}
use Rattle.cell_events.proofs.places.only_at.Given as goal

-- the plate that was found so far, and those at the stations that are left, are all that there are
abbrev pub invariant-loop-station : goal.invariant-loop-station
invariant-loop-station l =
    only (as_list l.found ++ lying (state_of l.snapshot).plate (drop l.station-index l.stations))
    ≡ only (lying (state_of l.snapshot).plate l.stations)
