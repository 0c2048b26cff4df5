-- The loop over the stations
use Rattle.std.proofs.Common.{◌≡◌, take}
use Rattle.std.specs.Io.KnownBytes.{Appends}
use Rattle.std.specs.List.{flat_map}
use Rattle.cell_types.specs.Texts.{all_station}
use Rattle.cell_explain.specs.Plates.{told_at}
use Rattle.cell_explain.proofs.endings.plates.write_plates.Given as goal

-- the stations so far are told
abbrev pub invariant-loop-station : goal.invariant-loop-station
invariant-loop-station g l = record {
  all : l.station-items ≡ all_station;
  told : Appends (g.W.Write.contents l.fn.writer) (g.W.Write.contents l.writer)
      (flat_map (told_at l.book.limits l.book.entries) (take l.station-index l.station-items));
}
