-- The loop over the axes
use Rattle.std.proofs.Common.{◌≡◌, ◌+◌, get_or, length, take}
use Rattle.std.specs.List.{flat_map}
use Rattle.cell_types.specs.Same.{axis_number}
use Rattle.cell_types.specs.Texts.{all_axis}
use Rattle.cell_types.specs.declared.words.Axis.{Axis}
use Rattle.cell_sweep.specs.Cases.{motions_in}
use Rattle.cell_sweep.proofs.places.motion_at.Given as goal

-- the place is behind the motions of the axes so far
abbrev pub invariant-loop-axis : goal.invariant-loop-axis
invariant-loop-axis l =
    (l.axis-items ≡ all_axis)
    × (l.left + length (flat_map (λ (a : Axis). motions_in a (get_or l.counts (axis_number a) 0))
    (take l.axis-index l.axis-items)) ≡ l.place)
