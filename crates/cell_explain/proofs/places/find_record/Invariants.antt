-- The loop that goes through the bytes of a text
use Rattle.std.proofs.Common.{◌≡◌, ◌≤◌, false, take}
use Rattle.cell_explain.specs.Places.{lines_ended}
use Rattle.cell_explain.specs.Spots.{first_place}
use Rattle.cell_explain.proofs.Lines.{ends_in_return}
use Rattle.cell_explain.proofs.Behind.{Begun, Walks}
use Rattle.cell_explain.proofs.places.find_record.Given as goal

-- the walk is where csv is, the lines so far are counted, and it is known whether the record began
abbrev pub invariant-loop-at : goal.invariant-loop-at
invariant-loop-at l = record {
  first : l.first ≡ first_place l.text;
  few_lines : l.walk.ended ≤ l.at;
  few : l.walk.records ≤ l.at;
  ended : l.walk.ended ≡ lines_ended false (take l.at l.text);
  after_return : l.walk.after_return ≡ ends_in_return false (take l.at l.text);
  walks : Walks l.text l.at l.walk.spot l.walk.records;
  begun : Begun l.text l.number l.at l.walk.spot l.walk.records l.begun;
}
