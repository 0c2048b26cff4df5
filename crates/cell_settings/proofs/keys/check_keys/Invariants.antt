-- The loop over the keys at the top
use Rattle.std.proofs.Common.{◌≡◌}
use Rattle.toml.specs.View.{members_view}
use Rattle.cell_settings.specs.Keys.{stray}
use Rattle.cell_settings.proofs.keys.check_keys.Given as goal

-- the keys so far are known, so the first unknown one of those left is the first of all
abbrev pub invariant-loop-key : goal.invariant-loop-key
invariant-loop-key l =
    (goal.iterator-loop-key).can_next l.key-iterator × (goal.iterator-loop-key).is_finite l.key-iterator
    × (stray (members_view l.key-iterator) ≡ stray (members_view l.table.entries))
