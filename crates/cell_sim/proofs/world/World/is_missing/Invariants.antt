-- The loop over the axes of a machine
use Rattle.std.proofs.Common.{◌≡◌, drop}
use Rattle.std.specs.Prelude.{IsFalse, ◌||◌}
use Rattle.std.specs.List.{list_any}
use Rattle.cell_types.specs.Cell.{axes_of}
use Rattle.cell_sim.specs.Parts.{axis_at, in_turn}
use Rattle.cell_sim.specs.Readings.{axis_skipped, is_reading_missing, is_silent_in}
use Rattle.cell_sim.proofs.world.World.is_missing.Given as goal

-- what those left do now is what all do from the beginning; as long as none was silent, nothing has changed
abbrev pub invariant-loop-axis : goal.invariant-loop-axis
invariant-loop-axis l =
    (in_turn axis_skipped (drop l.axis-index (axes_of l.fn.machine)) l.self
    ≡ in_turn axis_skipped (axes_of l.fn.machine) l.initial.self)
    × (IsFalse l.is_missing → l.self ≡ l.initial.self)
    × ((l.is_missing
    || list_any (λ a. is_silent_in (axis_at l.self a).motion) (drop l.axis-index (axes_of l.fn.machine)))
    ≡ is_reading_missing l.initial.self l.fn.machine)
