-- The loop over the stations, for the marks of their plates
use Rattle.std.proofs.Common.{take}
use Rattle.std.specs.List.{flat_map}
use Rattle.std.specs.Fmt.{HasWritten, IsPlainFormatter}
use Rattle.cell_show.specs.Rows.{plate_mark}
use Rattle.cell_show.proofs.page.rows.ForgedDisplay.fmt.Given as goal

-- the marks of the first plates are written
abbrev pub invariant-loop-shown : goal.invariant-loop-shown
invariant-loop-shown g l =
    IsPlainFormatter l.initial.f → HasWritten g.W.Write.write_str_gives l.initial.f
    (flat_map plate_mark (take l.shown-index l.shown-items)) l.f
