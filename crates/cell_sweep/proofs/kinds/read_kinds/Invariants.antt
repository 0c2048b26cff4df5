-- The loop over the parts of a list of kinds
use Rattle.std.proofs.Common.{◌≡◌, map, take, Some}
use Rattle.cell_sweep.specs.Kinds.{kind_of, parts_of}
use Rattle.cell_sweep.proofs.kinds.read_kinds.Given as goal

-- the parts so far name the kinds so far
abbrev pub invariant-loop-index : goal.invariant-loop-index
invariant-loop-index l = map kind_of (take l.index (parts_of l.fn.list)) ≡ map Some l.kinds.items
