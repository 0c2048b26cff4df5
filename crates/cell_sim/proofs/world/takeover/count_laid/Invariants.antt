-- The loop that counts entries
use Rattle.std.proofs.Common.{◌≡◌, ◌≤◌, take}
use Rattle.std.specs.List.{count_by}
use Rattle.cell_sim.specs.Takeover.{tells_laid}
use Rattle.cell_sim.proofs.world.takeover.count_laid.Given as goal

-- those so far are counted, and as they are no more than all, the count has room
abbrev pub invariant-loop-place : goal.invariant-loop-place
invariant-loop-place l = record {
  counted : l.laid ≡ count_by tells_laid (take l.place l.journal.entries);
  few : l.laid ≤ l.place;
}
