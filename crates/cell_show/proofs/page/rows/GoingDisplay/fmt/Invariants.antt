-- The loop over the axes, for where they are going
use Rattle.std.proofs.Common.{take}
use Rattle.std.specs.List.{flat_map}
use Rattle.std.specs.Fmt.{HasWritten, IsPlainFormatter}
use Rattle.cell_show.specs.Rows.{going_letter}
use Rattle.cell_show.proofs.page.rows.GoingDisplay.fmt.Given as goal

-- the letters of where the first axes are going are written
abbrev pub invariant-loop-axis : goal.invariant-loop-axis
invariant-loop-axis g l =
    IsPlainFormatter l.initial.f → HasWritten g.W.Write.write_str_gives l.initial.f
    (flat_map going_letter (take l.axis-index l.axis-items)) l.f
