-- The loop that searches for the entry that forges a plate
use Rattle.std.proofs.Common.{◌≡◌, false, take}
use Rattle.std.specs.List.{list_any}
use Rattle.cell_sim.specs.Takeover.{is_forging}
use Rattle.cell_sim.proofs.world.takeover.is_forged.Given as goal

-- none of those so far does
abbrev pub invariant-loop-place : goal.invariant-loop-place
invariant-loop-place l = list_any (is_forging l.plate) (take l.place l.journal.entries) ≡ false
