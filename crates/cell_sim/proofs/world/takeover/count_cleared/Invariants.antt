-- The loop that counts entries
use Rattle.std.proofs.Common.{◌≡◌, ◌≤◌, take}
use Rattle.std.specs.List.{count_by}
use Rattle.cell_sim.specs.Takeover.{tells_cleared}
use Rattle.cell_sim.proofs.world.takeover.count_cleared.Given as goal

-- those so far are counted, and as they are no more than all, the count has room
abbrev pub invariant-loop-place : goal.invariant-loop-place
invariant-loop-place l = record {
  counted : l.cleared ≡ count_by tells_cleared (take l.place l.journal.entries);
  few : l.cleared ≤ l.place;
}
