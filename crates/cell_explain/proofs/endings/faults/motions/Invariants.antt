-- The loop that counts each axis's motions
use Rattle.std.proofs.Common.{◌≡◌, ◌≤◌, length, get_or}
use Rattle.cell_types.specs.Same.{axis_number}
use Rattle.cell_types.specs.declared.words.Axis.{Axis}
use Rattle.cell_explain.specs.Missed.{motions_of}
use Rattle.cell_explain.proofs.Onward.{between}
use Rattle.cell_explain.proofs.endings.faults.motions.Given as goal

-- the counts of the entries so far
abbrev pub invariant-loop-place : goal.invariant-loop-place
invariant-loop-place l = record {
  sized : length l.counts ≡ 9;
  counted :
      (a : Axis) → get_or l.counts (axis_number a) 0 ≡ motions_of (between l.before l.place l.journal.entries) a;
  few : (a : Axis) → get_or l.counts (axis_number a) 0 ≤ l.place;
  from : l.before ≤ l.place;
}
