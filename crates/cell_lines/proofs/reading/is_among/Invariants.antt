use Rattle.std.proofs.Common.{◌≡◌, false, map, take}
use Rattle.cell_lines.specs.Shown.{is_among}
use Rattle.cell_lines.proofs.reading.is_among.Given as goal

-- none of the words so far
abbrev pub invariant-loop-known : goal.invariant-loop-known
invariant-loop-known l = is_among (take l.known-index (map (λ w. w.now) l.words)) l.word ≡ false
