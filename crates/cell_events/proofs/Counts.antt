-- The counts of a journal whose events are told
use Rattle.std.proofs.Common.{◌≤◌, arith}
use Rattle.cell_types.specs.After.{Snapshot as State}
use Rattle.cell_journal.specs.Snapshots.{IsCounted, HasRoom}

-- there is room for one more where a journal has no more entries than it may
pub few_room : (s : State) → IsCounted s → s.entries ≤ 1000006 → HasRoom s
few_room s h few = record {
  entries = omega arith;
  admitted = omega (arith, h.admitted);
  forged = omega (arith, h.forged);
  quarantined = omega (arith, h.quarantined);
  delivered = omega (arith, h.delivered);
  reinstated = omega (arith, h.reinstated);
}
