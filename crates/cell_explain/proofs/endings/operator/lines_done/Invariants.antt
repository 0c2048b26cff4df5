-- The loop over a journal's entries from a place on
use Rattle.std.proofs.Common.{◌≤◌, ◌-◌, drop, length}
use Rattle.cell_explain.specs.Waiting.{Leaves}
use Rattle.cell_explain.proofs.Onward.{between}
use Rattle.cell_explain.proofs.endings.operator.lines_done.Given as goal

-- after the entries so far the lines from the first that isn't done on are left, and as no more are done than entries
-- came, the count has room
abbrev pub invariant-loop-place : goal.invariant-loop-place
invariant-loop-place l = record {
  left : Leaves l.lines (between l.before l.place l.journal.entries) (drop l.done l.lines);
  few : l.done ≤ l.place - l.before;
  from : l.before ≤ l.place;
  within : l.place - l.before ≤ length l.journal.entries;
}
