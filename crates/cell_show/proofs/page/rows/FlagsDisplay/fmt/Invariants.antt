-- The loop over the flags
use Rattle.std.proofs.Common.{take}
use Rattle.std.specs.List.{flat_map}
use Rattle.std.specs.Fmt.{HasWritten, IsPlainFormatter}
use Rattle.cell_show.specs.Rows.{flag}
use Rattle.cell_show.proofs.page.rows.FlagsDisplay.fmt.Given as goal

-- the first flags are written
abbrev pub invariant-loop-holds : goal.invariant-loop-holds
invariant-loop-holds g l =
    IsPlainFormatter l.initial.f → HasWritten g.W.Write.write_str_gives l.initial.f
    (flat_map flag (take l.holds-index l.holds-items)) l.f
