-- The loop over the bytes that are shown
use Rattle.std.proofs.Common.{◌≡◌, map, string_bytes, take}
use Rattle.cell_explain.specs.Sayings.{shown_byte}
use Rattle.cell_explain.proofs.shown.shown_bytes.Given as goal

-- the bytes so far are shown
abbrev pub invariant-loop-byte : goal.invariant-loop-byte
invariant-loop-byte l = string_bytes l.shown ≡ map shown_byte (take l.byte-index l.bytes)
