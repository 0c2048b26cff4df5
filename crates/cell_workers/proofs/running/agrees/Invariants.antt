use Rattle.std.proofs.Common.{◌≡◌, ◌≤◌, length, take}
use Rattle.cell_turns.specs.Schedules.{entries_of}
use Rattle.cell_workers.proofs.running.agrees.Given as goal

-- the list so far is the actor's entries so far
abbrev pub invariant-loop-place : goal.invariant-loop-place
invariant-loop-place l = record {
  within : l.k ≤ length l.entries;
  same : take l.k l.entries
      ≡ entries_of l.actor (take l.place l.journal.entries);
}
