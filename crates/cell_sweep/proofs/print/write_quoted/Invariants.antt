-- The loop over the bytes of a text in quotes
use Rattle.std.proofs.Common.{◌∷◌, take}
use Rattle.std.specs.Io.KnownBytes.{Appends}
use Rattle.std.specs.List.{flat_map}
use Rattle.cell_sweep.specs.Rows.{quoted_byte}
use Rattle.cell_sweep.proofs.print.write_quoted.Given as goal

-- the bytes so far are written
abbrev pub invariant-loop-byte : goal.invariant-loop-byte
invariant-loop-byte g l =
    Appends (g.W.Write.contents l.fn.writer) (g.W.Write.contents l.writer)
    (34 ∷ flat_map quoted_byte (take l.byte-index l.text))
