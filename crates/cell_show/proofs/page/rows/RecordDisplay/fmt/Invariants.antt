-- The loop over the fields of an entry's record
use Rattle.std.proofs.Common.{map, take}
use Rattle.std.specs.Fmt.{HasWritten, IsPlainFormatter}
use Rattle.cell_types.specs.Spelling.{text_of}
use Rattle.cell_show.specs.Rows.{with_commas}
use Rattle.cell_show.proofs.page.rows.RecordDisplay.fmt.Given as goal

-- the first fields are written
abbrev pub invariant-loop-place : goal.invariant-loop-place
invariant-loop-place g l =
    IsPlainFormatter l.initial.f → HasWritten g.W.Write.write_str_gives l.initial.f
    (with_commas (map text_of (take l.place l.field-items))) l.f
