-- The loop that searches for an axis that isn't at rest at its pose
use Rattle.std.proofs.Common.{◌≡◌, drop}
use Rattle.std.specs.List.{list_any}
use Rattle.cell_sim.specs.Looks.{is_away}
use Rattle.cell_sim.proofs.watch.rules.is_any_away.Given as goal

-- all of those so far are, so if one isn't it is one of those left
abbrev pub invariant-loop-place : goal.invariant-loop-place
invariant-loop-place l =
    list_any (is_away l.world) (drop l.place-index l.places) ≡ list_any (is_away l.world) l.places
