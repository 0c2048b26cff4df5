-- The loop over the machines
use Rattle.std.proofs.Common.{map, take}
use Rattle.std.specs.Fmt.{HasWritten, IsPlainFormatter}
use Rattle.cell_show.specs.Rows.{with_commas}
use Rattle.cell_show.specs.Waits.{next_cell}
use Rattle.cell_show.proofs.page.waits.AllNextDisplay.fmt.Given as goal

-- the first cells are written
abbrev pub invariant-loop-place : goal.invariant-loop-place
invariant-loop-place g l =
    IsPlainFormatter l.initial.f → HasWritten g.W.Write.write_str_gives l.initial.f
    (with_commas (map next_cell (take l.place l.next-items))) l.f
