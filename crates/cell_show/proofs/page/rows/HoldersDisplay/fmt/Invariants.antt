-- The loop over the zones' holders
use Rattle.std.proofs.Common.{take}
use Rattle.std.specs.List.{flat_map}
use Rattle.std.specs.Fmt.{HasWritten, IsPlainFormatter}
use Rattle.cell_show.specs.Rows.{holder_letter}
use Rattle.cell_show.proofs.page.rows.HoldersDisplay.fmt.Given as goal

-- the letters of the first zones' holders are written
abbrev pub invariant-loop-holder : goal.invariant-loop-holder
invariant-loop-holder g l =
    IsPlainFormatter l.initial.f → HasWritten g.W.Write.write_str_gives l.initial.f
    (flat_map holder_letter (take l.holder-index l.holder-items)) l.f
