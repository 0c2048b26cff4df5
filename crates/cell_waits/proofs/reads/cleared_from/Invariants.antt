-- The loop over the first entries, for where a plate was cleared
use Rattle.std.proofs.Common.{◌≡◌, take}
use Rattle.cell_rules.specs.Views.{waits_of}
use Rattle.cell_waits.proofs.reads.cleared_from.Given as goal

-- where the entries so far cleared it
abbrev pub invariant-loop-place : goal.invariant-loop-place
invariant-loop-place l = l.station ≡ waits_of (take l.place l.journal.entries) l.plate
