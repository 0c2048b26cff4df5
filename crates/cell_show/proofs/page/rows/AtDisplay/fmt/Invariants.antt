-- The loop over the axes, for where they are
use Rattle.std.proofs.Common.{take}
use Rattle.std.specs.List.{flat_map}
use Rattle.std.specs.Fmt.{HasWritten, IsPlainFormatter}
use Rattle.cell_show.specs.Rows.{pose_letter}
use Rattle.cell_show.proofs.page.rows.AtDisplay.fmt.Given as goal

-- the letters of the first axes are written
abbrev pub invariant-loop-axis : goal.invariant-loop-axis
invariant-loop-axis g l =
    IsPlainFormatter l.initial.f → HasWritten g.W.Write.write_str_gives l.initial.f
    (flat_map pose_letter (take l.axis-index l.axis-items)) l.f
