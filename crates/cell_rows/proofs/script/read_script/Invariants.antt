-- The loop over the records of a script, which are no more than a thousand lines so far
use Rattle.std.proofs.Common.{◌≡◌, ◌≤◌, length, Some}
use Rattle.cell_rows.specs.Rows.{IsOpen, rows_left, rows_of}
use Rattle.cell_rows.proofs.Scripts.{StillDue}
use Rattle.cell_rows.proofs.script.read_script.Given as goal

abbrev pub invariant-loop-place : goal.invariant-loop-place
invariant-loop-place g l = record {
  may_go_on : IsOpen l.rows;
  counted : length l.lines.items ≡ l.place;
  few : l.place ≤ 1000;
  due : StillDue g.L.ScriptLine.line_of (Some (rows_of l.fn.text)) (rows_left (λ s. Some s.now) l.rows) l.lines.items;
}
