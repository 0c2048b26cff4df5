-- The loop over the bytes of a journal's name
use Rattle.std.proofs.Common.{take}
use Rattle.std.specs.Prelude.{flat_map}
use Rattle.std.specs.Io.KnownBytes.{Appends}
use Rattle.cell_show.specs.Beside.{name_byte}
use Rattle.cell_show.proofs.page.beside.write_name.Given as goal

-- the first bytes are written
abbrev pub invariant-loop-byte : goal.invariant-loop-byte
invariant-loop-byte g l = Appends (g.W.Write.contents l.fn.writer) (g.W.Write.contents l.writer)
    (flat_map name_byte (take l.byte-index l.name))
