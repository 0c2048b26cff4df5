-- The loop over the lights
use Rattle.std.proofs.Common.{take}
use Rattle.std.specs.List.{flat_map}
use Rattle.std.specs.Fmt.{HasWritten, IsPlainFormatter}
use Rattle.cell_show.specs.Rows.{lamp_letter}
use Rattle.cell_show.proofs.page.rows.LampsDisplay.fmt.Given as goal

-- the letters of the first lights are written
abbrev pub invariant-loop-colour : goal.invariant-loop-colour
invariant-loop-colour g l =
    IsPlainFormatter l.initial.f → HasWritten g.W.Write.write_str_gives l.initial.f
    (flat_map lamp_letter (take l.colour-index l.colour-items)) l.f
