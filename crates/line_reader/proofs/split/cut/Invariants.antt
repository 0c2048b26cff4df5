use Rattle.std.proofs.Common.{◌≡◌, [], take, drop}
use Rattle.line_reader.specs.Split.{parts_after}
use Rattle.line_reader.proofs.split.cut.Given as goal

-- the bytes so far are the first part's
abbrev pub invariant-loop-place : goal.invariant-loop-place
invariant-loop-place l = parts_after l.sign [] l.text ≡ parts_after l.sign (take l.place l.text) (drop l.place l.text)
