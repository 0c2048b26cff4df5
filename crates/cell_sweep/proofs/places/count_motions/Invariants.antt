-- The loop over the axes
use Rattle.std.proofs.Common.{◌≡◌, ◌≤◌, ◌*◌, get_or, length, take}
use Rattle.std.specs.List.{flat_map}
use Rattle.cell_types.specs.Same.{axis_number}
use Rattle.cell_types.specs.Texts.{all_axis}
use Rattle.cell_types.specs.declared.words.Axis.{Axis}
use Rattle.cell_sweep.specs.Cases.{motions_in}
use Rattle.cell_sweep.proofs.places.count_motions.Given as goal

-- the motions of the axes so far are counted
abbrev pub invariant-loop-axis : goal.invariant-loop-axis
invariant-loop-axis l =
    (l.axis-items ≡ all_axis) × (l.all ≤ l.axis-index * 4294967295)
    × (l.all ≡ length (flat_map (λ (a : Axis). motions_in a (get_or l.counts (axis_number a) 0))
    (take l.axis-index l.axis-items)))
