-- The loop over the stations, for the numbers of their plates
use Rattle.std.proofs.Common.{map, take}
use Rattle.std.specs.Fmt.{HasWritten, IsPlainFormatter}
use Rattle.cell_show.specs.Rows.{plate_number, with_commas}
use Rattle.cell_show.proofs.page.rows.PlatesDisplay.fmt.Given as goal

-- the first numbers are written
abbrev pub invariant-loop-place : goal.invariant-loop-place
invariant-loop-place g l =
    IsPlainFormatter l.initial.f → HasWritten g.W.Write.write_str_gives l.initial.f
    (with_commas (map plate_number (take l.place l.shown-items))) l.f
