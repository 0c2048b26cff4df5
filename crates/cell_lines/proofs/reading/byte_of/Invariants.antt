use Rattle.std.proofs.Common.{◌≡◌, map, drop}
use Rattle.cell_lines.specs.Shown.{byte_of}
use Rattle.line_reader.specs.Split.{parts}
use Rattle.cell_lines.proofs.reading.byte_of.Given as goal

-- the byte of the words from here on
abbrev pub invariant-loop-place : goal.invariant-loop-place
invariant-loop-place l = l.byte ≡ byte_of (drop l.place (map (λ w. w.now) l.words)) (parts 43 l.text)
